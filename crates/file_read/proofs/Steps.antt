-- The reader's walk with a cursor is the check of the file's routes by their numbers. Assumes nothing.
use mathlib.Core.Path.{◌≡◌, refl, sym, ap, ap₂, ◌∙◌}
use mathlib.Core.Logic.{◌⊎◌, inl, inr}
use mathlib.Core.Bool.{Bool, true, false, cond, ◌||◌}
use mathlib.Core.List.{List}
use Prim.Native.Nat.{ℕ, ◌+◌, ◌-◌, ◌*◌, ◌≤◌, ◌<◌}
use native.Mathlib.Omega.{arith}
use lib.Dec.{eqb}
use lib.ListN.{length}
use Rattle.std.proofs.Common.{None, Ok, Err}
use borrow.Author.Count.{below_none, below_more}
use borrow.Author.Tests.{ne_eqb, eqb-true, eqb-false}
use Rattle.bits.specs.Prefix.{precedes}
use Rattle.lists.proofs.Tests.{way}
use Rattle.refusals.specs.Refusals.{refused, accepted}
use Rattle.routes.specs.Bounds.{most_routes}
use Rattle.refusals.specs.declared.Answer.{Answer}
use Rattle.routes.proofs.First.{NoneBelow}
use Rattle.octets.specs.Octets.{len_at}
use Rattle.file_rules.specs.File.{head_size, size_for, read_at, place_of, file_route}
use Rattle.file_rules.specs.Check.{frame_fault, content_fault, file_fault, head_fault, file_check}
use Rattle.file_read.specs.Step.{rises, fault_after, cursor_after, step_at}
use Rattle.routes.specs.declared.Route.{Route}
use Rattle.file_read.specs.declared.step.Cursor.{Cursor}
use Rattle.file_rules.proofs.Sound.{place_more, place_le, fault_none}
use Rattle.file_rules.proofs.Walk.{check_headed, check_from_lem, check_here, check_end}

-- after (count) routes without a fault the cursor stands at the next one, and knows the prefix before it
pub record Reached (w : ℕ) (file : List ℕ) (c : Cursor) : Type 0 where
  pub at_place : c.at ≡ place_of file c.count
  pub few : c.count ≤ most_routes
  pub none : NoneBelow (file_fault w file) c.count
  pub known : (r : Route)
      → rises c.past r ≡ (eqb c.count 0 || precedes (file_route w file (c.count - 1)).value (file_route w file (c.count - 1)).len r.value r.len)

pub reached_none : (w : ℕ) (file : List ℕ) → Reached w file (record { at = head_size; count = 0; past = None })
unfolding place_of
reached_none w file =
    record { at_place = refl; few = omega arith; none = below_none (λ j. file_fault w file j ≡ 0); known = λ r. refl }

module _ (w : ℕ) (file : List ℕ) (c : Cursor) (here : Reached w file c) where
  pub reached_small : c.at ≤ head_size + c.count * size_for w
  reached_small = omega (arith, here.at_place, place_le w file c.count here.none)

  fault_here : fault_after w file c ≡ file_fault w file c.count
  unfolding fault_after file_fault
  fault_here =
      rw here.at_place
      (ap (λ (b : Bool). frame_fault w file c.count (place_of file c.count) (content_fault (read_at w file (place_of file c.count)) b))
      (here.known (file_route w file c.count)))

  -- a route is taken exactly where it has no fault
  took_sound : (next : Cursor) → step_at w file c ≡ Ok next
      → (file_fault w file c.count ≡ 0) × (next ≡ cursor_after c (file_route w file c.count))
  unfolding step_at
  took_sound next = go (way (eqb (fault_after w file c) 0))
    where
      go : (eqb (fault_after w file c) 0 ≡ true) ⊎ (eqb (fault_after w file c) 0 ≡ false)
          → cond (eqb (fault_after w file c) 0) (Ok (cursor_after c (read_at w file c.at))) (Err (refused (fault_after w file c) c.at))
          ≡ Ok next
          → (file_fault w file c.count ≡ 0) × (next ≡ cursor_after c (file_route w file c.count))
      go (inl t) e =
          let s : Ok (cursor_after c (read_at w file c.at)) ≡ Ok next = rw t at e in
          let n : next ≡ cursor_after c (read_at w file c.at) = cc in
          (sym fault_here ∙ eqb-true (fault_after w file c) 0 t, n ∙ ap (λ (p : ℕ). cursor_after c (read_at w file p)) here.at_place)
      go (inr t) e =
          let s : Err (refused (fault_after w file c) c.at) ≡ Ok next = rw t at e in
          let z : ◌≡◌ {A = ℕ} 0 1 = cc in
          absurd (omega arith)

  refused_fault : (a : Answer) → step_at w file c ≡ Err a
      → (a ≡ refused (file_fault w file c.count) (place_of file c.count)) × (file_fault w file c.count ≡ 0 → ⊥)
  unfolding step_at
  refused_fault a = go (way (eqb (fault_after w file c) 0))
    where
      go : (eqb (fault_after w file c) 0 ≡ true) ⊎ (eqb (fault_after w file c) 0 ≡ false)
          → cond (eqb (fault_after w file c) 0) (Ok (cursor_after c (read_at w file c.at))) (Err (refused (fault_after w file c) c.at))
          ≡ Err a
          → (a ≡ refused (file_fault w file c.count) (place_of file c.count)) × (file_fault w file c.count ≡ 0 → ⊥)
      go (inl t) e =
          let s : Ok (cursor_after c (read_at w file c.at)) ≡ Err a = rw t at e in
          let z : ◌≡◌ {A = ℕ} 0 1 = cc in
          absurd (omega arith)
      go (inr t) e =
          let s : Err (refused (fault_after w file c) c.at) ≡ Err a = rw t at e in
          let same : a ≡ refused (fault_after w file c) c.at = cc in
          (same ∙ ap₂ refused fault_here here.at_place, λ z. eqb-false (fault_after w file c) 0 t (fault_here ∙ z))

  -- the cursor after a route that is taken
  pub reached_more : (next : Cursor) → step_at w file c ≡ Ok next → Reached w file next × (c.at < next.at)
  unfolding read_at
  reached_more next e = (rw t.1 reached, rw t.1 (omega arith))
    where
      t : (file_fault w file c.count ≡ 0) × (next ≡ cursor_after c (file_route w file c.count))
      t = took_sound next e

      reached : Reached w file (cursor_after c (file_route w file c.count))
      reached = record {
        at_place = ap (λ (p : ℕ). p + size_for (len_at file (place_of file c.count))) here.at_place ∙ sym (place_more file c.count);
        few = omega (arith, (fault_none w file c.count t.0).few);
        none = below_more (λ j. file_fault w file j ≡ 0) c.count here.none t.0;
        known = λ r. let p : c.count + 1 - 1 ≡ c.count = omega arith in rw (p, ne_eqb (c.count + 1) 0 (λ z. omega (arith, z)));
      }

  pub reached_refused : (a : Answer) → head_fault file ≡ 0 → c.at < length file → step_at w file c ≡ Err a → a ≡ file_check w file
  reached_refused a headed h e =
      let f = refused_fault a e in
      f.0 ∙ sym (check_headed w file headed ∙ check_from_lem w file c.count here.none
      ∙ check_here w file c.count (omega (arith, here.at_place)) f.1)

  pub reached_all : head_fault file ≡ 0 → length file ≤ c.at → accepted c.count ≡ file_check w file
  reached_all headed h =
      sym (check_headed w file headed ∙ check_from_lem w file c.count here.none
      ∙ check_end w file (length file - head_size - c.count) c.count (omega (arith, here.at_place)))
