-- The test of a node read, and what it says: RULES, "Lookup in an image". Assumes nothing.
use mathlib.Core.Path.{◌≡◌, refl}
use mathlib.Core.Logic.{inl, inr}
use mathlib.Core.Bool.{Bool, true, false, ◌&&◌, true≢false}
use mathlib.Core.List.{List}
use Prim.Native.Nat.{ℕ, ◌-◌, ◌*◌, ◌^◌}
use native.Mathlib.Omega.{arith}
use lib.Dec.{ltb, leb}
use borrow.Author.Tests.{ltb-true, ltb-false, leb-true, leb-false}
use Rattle.lists.proofs.Tests.{both}
use Rattle.image_rules.specs.Node.{bitmap_of, next_of, is_based}
use Rattle.image_rules.specs.Lookup.{is_sound}
use Rattle.image_rules.specs.NodesRead.{Sound, Unsound}

module _ (s : ℕ) (nodes : List ℕ) (a : ℕ) where
  abbrev map : ℕ
  map = bitmap_of nodes a

  abbrev next : ℕ
  next = next_of nodes a

  abbrev slots_before : ℕ
  slots_before = 2 ^ s * (a - 1)

  pub sound_is : is_sound s nodes a ≡ true → Sound s nodes a
  sound_is t =
      let x = both (ltb map (2 ^ (2 ^ s))) (is_based (2 ^ s) nodes a) t in
      let y = both (leb 2 next) (leb (next - 2) slots_before) x.1 in
      record {
        small = ltb-true map (2 ^ (2 ^ s)) x.0;
        next = leb-true 2 next y.0;
        based = omega (arith, leb-true (next - 2) slots_before y.1);
      }

  pub unsound_is : is_sound s nodes a ≡ false → Unsound s nodes a
  unsound_is t = by (ltb map (2 ^ (2 ^ s))) (leb 2 next) (leb (next - 2) slots_before) refl refl refl t
    where
      by : (b c d : Bool) → ltb map (2 ^ (2 ^ s)) ≡ b → leb 2 next ≡ c → leb (next - 2) slots_before ≡ d
          → (b && (c && d)) ≡ false → Unsound s nodes a
      by true true true e f g z = absurd (true≢false z)
      by true true false e f g z = inr (inr (omega (arith, leb-true 2 next f, leb-false (next - 2) slots_before g)))
      by true false d e f g z = inr (inl (leb-false 2 next f))
      by false c d e f g z = inl (ltb-false map (2 ^ (2 ^ s)) e)

  -- it does not say both
  pub sound_or_not : Sound s nodes a → Unsound s nodes a → ⊥
  sound_or_not x (inl h) = omega (arith, x.small)
  sound_or_not x (inr (inl h)) = omega (arith, x.next)
  sound_or_not x (inr (inr h)) = omega (arith, x.based)
