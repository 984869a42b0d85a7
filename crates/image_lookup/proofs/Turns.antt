-- One turn of the lookup's loop, by what the code finds; and what holds on the way. Assumes nothing.
use Rattle.std.proofs.Common.{◌≡◌, ℕ, zero, suc, ◌+◌, ◌-◌, ◌*◌, ◌/◌, ◌%◌, ◌^◌, ◌<◌, ◌≤◌, Bool, true, false, ◌&&◌, eqb, leb, List, sym, refl, ap, ◌∙◌, subst, ap₂, mod-lt, div-add-mod', mul-suc, div-le_self, arith, pow_pos, le-ltb, lt-ltb, eqb-true, le-leb, leb-false, leb-true}
use mathlib.Core.Bool.{and-false}
use native.Mathlib.Nat.{mul-div-le, div-eq_of_lt}
use borrow.Author.Tests.{lt-leb, eqb-false}
use Rattle.bits.specs.Bitmap.{slot_bit, ones_before}
use Rattle.bits.proofs.Bitmap.{ones_before_le}
use Rattle.refusals.specs.Refusals.{not_in_order, lost}
use Rattle.image_rules.specs.Node.{node_count, is_node, bitmap_of, base_of, is_based}
use Rattle.image_rules.specs.Lookup.{leaf_at, address_slot, child_at, is_sound, walk, lookup_words}
use Rattle.image_rules.proofs.Walk.{walk_leaf, walk_child}
use Rattle.image_numbers.specs.Needs.{Stride}
use Rattle.image_nodes.specs.Needs.{Lent}
use Rattle.image_lookup.specs.Needs.{most_slots_before, Counted}

-- a bitmap with nothing above its n lowest bits, and one with something there

pub shr-zero→lt : (n b : ℕ) → b / 2 ^ n ≡ 0 → b < 2 ^ n
shr-zero→lt n b e = omega (arith, rw e at (div-add-mod' b (2 ^ n)), mod-lt b (pow_pos n))

pub shr-some→le : (n b : ℕ) → (b / 2 ^ n ≡ 0 → ⊥) → 2 ^ n ≤ b
shr-some→le n b f = let g : b < 2 ^ n → ⊥ = λ h. f (div-eq_of_lt h) in omega arith

-- no more ones before a slot than slots, as the code has both
pub ones-le : (n b j ones : ℕ) → ones ≡ ones_before n b j → j < n → b / 2 ^ n ≡ 0 → ones ≤ j
ones-le n b j ones e h z = rw e (ones_before_le n b j (omega arith) (shr-zero→lt n b z))

pub ones_few : (n b j ones : ℕ) → ones ≡ ones_before n b j → j < n → b / 2 ^ n ≡ 0 → n ≤ 16 → ones ≤ 16
ones_few n b j ones e h z few = omega (arith, ones-le n b j ones e h z)

-- one comparison does for two: children wrap past all slots where next is below 2
counted_based : (before next children : ℕ) → before ≤ most_slots_before → next < 2 ^ 62 → children ≡ (next + 2 ^ 64 - 2) % 2 ^ 64
    → (leb 2 next && leb (next - 2) before) ≡ leb children before
counted_based before next children few low e = by (leb 2 next) refl
  where
    by : (b : Bool) → leb 2 next ≡ b → (b && leb (next - 2) before) ≡ leb children before
    by true t = let same : children ≡ next - 2 = omega (arith, leb-true 2 next t) in rw same
    by false t = sym (lt-leb children before (omega (arith, leb-false 2 next t)))

-- a turn takes one stride off the bits left
pub stride_off : (s left : ℕ) → 0 < left → s * (left - 1) + s ≡ s * left
stride_off s left h = sym (mul-suc s (left - 1)) ∙ ap (λ (k : ℕ). s * k) (omega arith)

-- where levels are left; n is the number of slots, as the code has it
module _ (s n : ℕ) (is : n ≡ 2 ^ s) (nodes ports : List ℕ) (addr a reads : ℕ) where
  pub turn_outside : (left : ℕ) → 0 < left → node_count nodes < a → walk s nodes ports addr left a reads ≡ lost not_in_order reads
  unfolding walk
  turn_outside zero l h = absurd (omega arith)
  turn_outside (suc k) l h = rw (lt-ltb 0 a (omega arith), lt-leb a (node_count nodes) h)

  -- at a node lent, whose bitmap is b
  module _ (lent : Lent nodes a) (b : ℕ) (own : b ≡ bitmap_of nodes a) where
    node : is_node nodes a ≡ true
    node = rw (lt-ltb 0 a lent.positive, le-leb a (node_count nodes) lent.within)

    turn_unsound : (left : ℕ) → 0 < left → is_sound s nodes a ≡ false → walk s nodes ports addr left a reads ≡ lost not_in_order (reads + 1)
    unfolding walk
    turn_unsound zero l f = absurd (omega arith)
    turn_unsound (suc k) l f = rw (node, f)

    pub turn_wide : (left : ℕ) → 0 < left → (b / 2 ^ n ≡ 0 → ⊥)
        → walk s nodes ports addr left a reads ≡ lost not_in_order (reads + 1)
    turn_wide left l f =
        let large : 2 ^ (2 ^ s) ≤ bitmap_of nodes a = rw (is, own) at (shr-some→le n b f) in
        turn_unsound left l (rw (le-ltb (bitmap_of nodes a) (2 ^ (2 ^ s)) large))

    -- with the counts of what is before it
    module _ (next before children : ℕ) (counts : Counted n nodes a next before children) where
      based_is : is_based (2 ^ s) nodes a ≡ leb children before
      based_is =
          let e : is_based (2 ^ s) nodes a ≡ (leb 2 next && leb (next - 2) before) =
          rw (counts.next_is, counts.before_is, is) in
          e ∙ counted_based before next children counts.few counts.low counts.children_are

      pub turn_unbased : (left : ℕ) → 0 < left → before < children
          → walk s nodes ports addr left a reads ≡ lost not_in_order (reads + 1)
      turn_unbased left l h = turn_unsound left l (rw (based_is, lt-leb children before h, and-false _))

    -- in slot j, with its ones before it and its own bit
    module _ (z : b / 2 ^ n ≡ 0) (next before children : ℕ) (counts : Counted n nodes a next before children) (le : children ≤ before)
        (left : ℕ) (more : 0 < left) (j : ℕ) (here : j ≡ addr / 2 ^ (s * (left - 1)) % n)
        (ones : ℕ) (count : ones ≡ ones_before n b j) (one : Bool) (bit : one ≡ eqb (slot_bit n b j) 1) where
      small : bitmap_of nodes a < 2 ^ (2 ^ s)
      small = rw (is, own) at (shr-zero→lt n b z)

      sound : is_sound s nodes a ≡ true
      sound =
          rw (lt-ltb (bitmap_of nodes a) (2 ^ (2 ^ s)) small, based_is next before children counts, le-leb children before le)

      -- children wrap only where next is below 2
      base_is : base_of (2 ^ s) nodes a ≡ before - children
      base_is =
          let e : 2 ^ s * (a - 1) ≡ before = sym (counts.before_is ∙ ap (λ (m : ℕ). m * (a - 1)) is) in
          omega (arith, e, le, counts.next_is, counts.low, counts.few, counts.children_are)

      slot : j ≡ address_slot s addr (left - 1)
      slot = here ∙ ap (λ (m : ℕ). addr / 2 ^ (s * (left - 1)) % m) is

      bits : eqb (slot_bit (2 ^ s) (bitmap_of nodes a) (address_slot s addr (left - 1))) 1 ≡ one
      bits = sym (rw (slot, is, own) at bit)

      ones_is : ones_before (2 ^ s) (bitmap_of nodes a) (address_slot s addr (left - 1)) ≡ ones
      ones_is = sym (rw (slot, is, own) at count)

      levels : (P : ℕ → Type 0) → P (suc (left - 1)) → P left
      levels P h = let e : suc (left - 1) ≡ left = omega arith in subst P e h

      pub turn_leaf : one ≡ true → (l : ℕ) → l ≡ before - children + ones
          → walk s nodes ports addr left a reads ≡ leaf_at ports l (reads + 1)
      turn_leaf t l e =
          let o : slot_bit (2 ^ s) (bitmap_of nodes a) (address_slot s addr (left - 1)) ≡ 1 = eqb-true _ 1 (bits ∙ t) in
          levels (λ k. walk s nodes ports addr k a reads ≡ leaf_at ports l (reads + 1))
          (walk_leaf s nodes ports addr (left - 1) a reads node sound o
          ∙ ap (λ (m : ℕ). leaf_at ports m (reads + 1)) (ap₂ (λ (m k : ℕ). m + k) base_is ones_is ∙ sym e))

      pub turn_child : one ≡ false → (child : ℕ) → child ≡ next + (j - ones)
          → walk s nodes ports addr left a reads ≡ walk s nodes ports addr (left - 1) child (reads + 1)
      turn_child t child e =
          let f : slot_bit (2 ^ s) (bitmap_of nodes a) (address_slot s addr (left - 1)) ≡ 1 → ⊥ = eqb-false _ 1 (bits ∙ t) in
          let o : slot_bit (2 ^ s) (bitmap_of nodes a) (address_slot s addr (left - 1)) ≡ 0 = omega arith in
          let c : child_at (2 ^ s) nodes a (address_slot s addr (left - 1)) ≡ child = omega (arith, ones_is, slot, e, counts.next_is) in
          levels (λ k. walk s nodes ports addr k a reads ≡ walk s nodes ports addr (left - 1) child (reads + 1))
          (walk_child s nodes ports addr (left - 1) a reads node sound o
          ∙ ap (λ (m : ℕ). walk s nodes ports addr (left - 1) m (reads + 1)) c)

pub turn_none : (s : ℕ) (nodes ports : List ℕ) (addr left a reads : ℕ) → left ≤ 0
    → walk s nodes ports addr left a reads ≡ lost not_in_order reads
unfolding walk
turn_none s nodes ports addr zero a reads h = refl
turn_none s nodes ports addr (suc k) a reads h = absurd (omega arith)

-- on the way: what is still to do from node a equals the whole
pub record Going (w s : ℕ) (nodes ports : List ℕ) (addr left a reads : ℕ) : Type 0 where
  pub positive : 0 < a
  pub fits : s * left ≤ w
  pub short : left ≤ w
  pub counted : reads + left ≤ w
  pub same : lookup_words w s nodes ports addr ≡ walk s nodes ports addr left a reads

pub going_none : (w s : ℕ) (nodes ports : List ℕ) (addr : ℕ) → Stride s → Going w s nodes ports addr (w / s) 1 0
unfolding lookup_words
going_none w s nodes ports addr h = record {
  positive = omega arith;
  fits = omega (arith, mul-div-le w s);
  short = div-le_self w s;
  counted = omega (arith, div-le_self w s);
  same = rw h.listed;
}

pub going_more : (w s : ℕ) (nodes ports : List ℕ) (addr left a reads next : ℕ) → Going w s nodes ports addr left a reads → 0 < left
    → 0 < next → walk s nodes ports addr left a reads ≡ walk s nodes ports addr (left - 1) next (reads + 1)
    → Going w s nodes ports addr (left - 1) next (reads + 1)
going_more w s nodes ports addr left a reads next g h l e = record {
  positive = l;
  fits = omega (arith, stride_off s left h);
  short = omega arith;
  counted = omega arith;
  same = g.same ∙ e;
}
