-- The loop of many lookups: where it stands after some addresses, one address more, and its end. Assumes nothing.
use mathlib.Core.Path.{◌≡◌, refl, sym, ap, ◌∙◌}
use mathlib.Core.Bool.{Bool, true, false, cond, ◌||◌}
use mathlib.Core.List.{List}
use Prim.Native.Nat.{ℕ, ◌+◌, ◌%◌, ◌^◌, ◌≤◌, ◌<◌}
use native.Mathlib.Omega.{arith}
use native.Mathlib.Nat.{mod-eq_of_lt}
use lib.Dec.{eqb}
use lib.ListN.{length, set, length-set}
use Rattle.promise.specs.Over.{outcome, over}
use Rattle.lists.specs.Below.{some_below}
use Rattle.lists.specs.Numbered.{list_of}
use Rattle.refusals.specs.declared.found.Found.{Found}
use Rattle.many_rules.specs.Many.{unfound, element, told, element_at, elements, some_unfound, lookup_many}
use Rattle.many_rules.proofs.Many.{elements_push, some_unfound_push, many_done}

-- a port that 16 bits hold is not cut
pub element_whole : (x : Found) → x.port < 2 ^ 16 → element x % 2 ^ 16 ≡ element x
element_whole x h = mod-eq_of_lt (by (eqb x.number 0))
  where
    by : (b : Bool) → cond b x.port unfound < 2 ^ 16
    by true = h
    by false = omega arith

module _ (look : ℕ → Found) (addresses out₀ : List ℕ) where
  -- after i addresses
  pub record Filling (out : List ℕ) (some : Bool) (i : ℕ) : Type 0 where
    pub passed : i ≤ length addresses
    pub same : length out ≡ length out₀
    pub written : out ≡ over (elements look addresses i) out₀
    pub told : some ≡ some_unfound look addresses i

  pub filling_none : Filling out₀ false 0
  unfolding list_of some_below
  filling_none = record { passed = omega arith; same = refl; written = refl; told = refl }

  pub filling_more : (out : List ℕ) (some : Bool) (i e : ℕ) → length addresses ≤ length out₀ → Filling out some i
      → i < length addresses → e ≡ element_at look addresses i → Filling (set out i e) (eqb e unfound || some) (i + 1)
  filling_more out some i e room f l at = record {
    passed = omega arith;
    same = length-set out i e ∙ f.same;
    written =
        ap (λ (xs : List ℕ). set xs i e) f.written ∙ ap (λ (y : ℕ). set (over (elements look addresses i) out₀) i y) at
        ∙ elements_push look addresses out₀ i (omega arith);
    told = ap (λ (b : Bool). eqb e unfound || b) f.told ∙ ap (λ (y : ℕ). eqb y unfound || some_unfound look addresses i) at ∙ sym (some_unfound_push look addresses i);
  }

  pub filling_all : (out : List ℕ) (some : Bool) (i : ℕ) → length addresses ≤ length out₀ → Filling out some i → length addresses ≤ i
      → outcome (told some) out ≡ lookup_many look addresses out₀
  filling_all out some i room f end =
      let n : i ≡ length addresses = omega (arith, f.passed, end) in
      (λ j. outcome (told (f.told j)) (f.written j))
      ∙ ap (λ (k : ℕ). outcome (told (some_unfound look addresses k)) (over (elements look addresses k) out₀)) n
      ∙ sym (many_done look addresses out₀ room)
