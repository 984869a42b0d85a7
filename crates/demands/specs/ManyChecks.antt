-- Defines the checks of many lookups in one call, and what such a call leaves where it is done: RULES, "Many lookups in one call". Assumes
-- nothing.
use Rattle.std.specs.Prelude.{◌≡◌, cond, List, ℕ, ◌<◌, eqb, length, get_or, drop}
use Rattle.promise.specs.Over.{Outcome}
use Rattle.refusals.specs.Reply.{Reply}
use Rattle.many_rules.specs.Many.{unfound}
use Rattle.demands.specs.Lamp.{Verdict}
use Rattle.demands.specs.Checks.{room_for, stride_check}
use Rattle.demands.specs.Boundary.{result}

-- "9 at 0 where `out` .. is shorter than the addresses"
abbrev pub many_checks : List ℕ → List ℕ → Verdict
many_checks addresses out = room_for (length addresses) out

-- "12, then 9"
abbrev pub image_many_checks : ℕ → List ℕ → List ℕ → Verdict
image_many_checks s addresses out = stride_check s (many_checks addresses out)

-- "each element of `out` is the port of the single lookup of that address, or 65,535 where that lookup answers 11; the rest of `out`
-- unchanged; answer: place, 1 if some element is 65,535, else 0". `Looks` says what a single lookup may reply.
pub record EachElement (Looks : ℕ → Reply → Type 0) (addresses out : List ℕ) (o : Outcome Reply) : Type 0 where
  pub each :
      (i : ℕ) (x : Reply) → i < length addresses → Looks (get_or addresses i 0) x
      → get_or o.lent i 0 ≡ cond (eqb x.number 0) (result x) unfound
  pub size : length o.lent ≡ length out
  pub rest : drop (length addresses) o.lent ≡ drop (length addresses) out
  pub told : (i : ℕ) → i < length addresses → get_or o.lent i 0 ≡ unfound → result o.answer ≡ 1
  pub untold : ((i : ℕ) → i < length addresses → get_or o.lent i 0 ≡ unfound → ⊥) → result o.answer ≡ 0
