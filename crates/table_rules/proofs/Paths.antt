-- A prefix at a path: its numbers say what its bits below the path say. Here numbers meet the trie's bits. Assumes nothing.
use mathlib.Core.Path.{◌≡◌, refl, sym, ap, ap₂, ◌∙◌, subst₂}
use mathlib.Core.Logic.{◌⊎◌, inl, inr}
use mathlib.Core.Bool.{Bool, true, false, not, ◌&&◌, ◌||◌}
use mathlib.Core.List.{[], ◌∷◌, ◌++◌, append_assoc}
use Prim.Native.Nat.{ℕ, suc, ◌+◌, ◌*◌, ◌-◌, ◌/◌, ◌%◌, ◌^◌, ◌<◌, ◌≤◌}
use native.Mathlib.Omega.{arith}
use native.Mathlib.Nat.{mul-lt-mul_of_pos_right, mul-le-mul_right}
use lib.Dec.{eqb, ltb}
use lib.ListN.{length, take, length-append}
use lib.Seq.{take-take, take-append_seam}
use borrow.Author.Tests.{eq-eqb, eqb-true, lt-ltb, le-ltb}
use Rattle.bits.specs.Bits.{Bits, value, bits, prefix_bits, same, begins}
use Rattle.bits.specs.Prefix.{span, head, Valid, matches, same_prefix, ahead_of}
use Rattle.bits.proofs.Bits.{same_refl, same_eq, length_take_bits, value_prefix_bits, value_append, begins_append, bit_at, matches_begins}
use Rattle.bits.proofs.Prefix.{span_pos, first_valid}
use Rattle.lists.proofs.Tests.{way, both, test_eq, eqb_same, ltb_same}
use Rattle.trie.specs.Trie.{ahead, outranks, is_priority}
use Rattle.table_rules.specs.Order.{outranks_at}

-- the prefix of value v and length l goes on from the path with the bits s
pub record At (w : ℕ) (path : Bits) (v l : ℕ) (s : Bits) : Type 0 where
  pub valid : Valid w v l
  pub is : prefix_bits w v l ≡ path ++ s

module _ (w : ℕ) (path : Bits) where
  module _ (v l : ℕ) (s : Bits) (at : At w path v l s) where
    pub at_len : l ≡ length path + length s
    at_len = sym (length_take_bits l w v at.valid.short) ∙ ap length at.is ∙ length-append path s

    at_head : head w l v ≡ value path * 2 ^ length s + value s
    at_head =
        sym (value_prefix_bits w v l at.valid.short at.valid.fits) ∙ ap value at.is ∙ value_append path s

    at_value : v ≡ head w l v * span w l
    at_value = sym (first_valid w v l at.valid)

    -- the first bits are the path
    pub head_path : head w (length path) v ≡ value path
    head_path =
        let h : length path ≤ l = omega (arith, at_len) in
        let t : prefix_bits w v (length path) ≡ path =
        sym (take-take (length path) l (bits w v) h) ∙ ap (take (length path)) at.is ∙ take-append_seam path s in
        sym (value_prefix_bits w v (length path) (omega (arith, at.valid.short)) at.valid.fits) ∙ ap value t

    -- ordinary exactly if the length is the depth
    pub at_priority : is_priority s ≡ ltb (length path) l
    at_priority = go s at_len
      where
        go : (s : Bits) → l ≡ length path + length s → is_priority s ≡ ltb (length path) l
        go [] e = sym (le-ltb (length path) l (omega arith))
        go (b ∷ s) e = sym (lt-ltb (length path) l (omega arith))

  -- the next bit, and the path one bit longer
  pub at_bit : (v l k : ℕ) (b : Bool) (s : Bits) → At w path v l (b ∷ s) → w ≡ length path + suc k → eqb (v / 2 ^ k % 2) 1 ≡ b
  at_bit v l k b s at n = bit_at path w k l v b s at.is n

  pub at_down : (v l : ℕ) (b : Bool) (s : Bits) → At w path v l (b ∷ s) → At w (path ++ (b ∷ [])) v l s
  at_down v l b s at = record { valid = at.valid; is = at.is ∙ sym (append_assoc path (b ∷ []) s) }

  -- with no bit left there is one prefix at a path
  pub at_last : (v l v' l' : ℕ) (s s' : Bits) → length path + 0 ≡ w → At w path v l s → At w path v' l' s' → same s s' ≡ true
  at_last v l v' l' s s' deep at at' =
      both_nil s s' (omega (arith, at_len v l s at, at.valid.short)) (omega (arith, at_len v' l' s' at', at'.valid.short))
    where
      both_nil : (a c : Bits) → length a ≡ 0 → length c ≡ 0 → same a c ≡ true
      both_nil [] [] e f = refl
      both_nil [] (x ∷ c) e f = absurd (omega arith)
      both_nil (x ∷ a) c e f = absurd (omega arith)

  -- two prefixes at one path
  module _ (v l v' l' : ℕ) (s s' : Bits) (at : At w path v l s) (at' : At w path v' l' s') where
    abbrev m : ℕ
    m = length path

    abbrev P : ℕ
    P = value path

    -- at one length the values stand as the bits do
    value_le : l ≡ l' → value s ≤ value s' → v ≤ v'
    value_le e h =
        let n : length s ≡ length s' = omega (arith, at_len v l s at, at_len v' l' s' at') in
        let p : P * 2 ^ length s ≡ P * 2 ^ length s' = ap (λ (k : ℕ). P * 2 ^ k) n in
        let k : head w l v ≤ head w l' v' = omega (arith, at_head v l s at, at_head v' l' s' at', p) in
        subst₂ (λ (x y : ℕ). x ≤ y)
        (sym (at_value v l s at))
        (ap (λ (i : ℕ). head w l' v' * span w i) e ∙ sym (at_value v' l' s' at'))
        (mul-le-mul_right (span w l) k)

    value_lt : l ≡ l' → value s < value s' → v < v'
    value_lt e h =
        let n : length s ≡ length s' = omega (arith, at_len v l s at, at_len v' l' s' at') in
        let p : P * 2 ^ length s ≡ P * 2 ^ length s' = ap (λ (k : ℕ). P * 2 ^ k) n in
        let k : head w l v < head w l' v' = omega (arith, at_head v l s at, at_head v' l' s' at', p) in
        subst₂ (λ (x y : ℕ). x < y)
        (sym (at_value v l s at))
        (ap (λ (i : ℕ). head w l' v' * span w i) e ∙ sym (at_value v' l' s' at'))
        (mul-lt-mul_of_pos_right k (span_pos w l))

  module _ (v l v' l' : ℕ) (s s' : Bits) (at : At w path v l s) (at' : At w path v' l' s') where
    pub at_same : same s s' ≡ same_prefix v l v' l'
    at_same = test_eq (same s s') (same_prefix v l v' l') there back
      where
        there : same s s' ≡ true → same_prefix v l v' l' ≡ true
        there t =
            let e : s ≡ s' = same_eq s s' t in
            let n : l ≡ l' = omega (arith, at_len v l s at, at_len v' l' s' at', ap length e) in
            let x : v ≤ v' = value_le v l v' l' s s' at at' n (omega (arith, ap value e)) in
            let y : v' ≤ v = value_le v' l' v l s' s at' at (sym n) (omega (arith, ap value e)) in
            rw (eq-eqb l l' n, eq-eqb v v' (omega arith))

        back : same_prefix v l v' l' ≡ true → same s s' ≡ true
        back t =
            let b = both (eqb l l') (eqb v v') t in
            let q : path ++ s ≡ path ++ s' =
            sym at.is ∙ ap₂ (λ (x y : ℕ). prefix_bits w x y) (eqb-true v v' b.1) (eqb-true l l' b.0) ∙ at'.is in
            rw (cut path s s' q) (same_refl s')
          where
            cut : (p a c : Bits) → p ++ a ≡ p ++ c → a ≡ c
            cut [] a c e = e
            cut (x ∷ p) a c e = let z : p ++ a ≡ p ++ c = cc in cut p a c z

    pub at_ahead : ahead s s' ≡ ahead_of v l v' l'
    at_ahead = ap₂ (λ (b c : Bool). b || c) longer (equal (way (eqb (length s') (length s))))
      where
        ls : l ≡ length path + length s
        ls = at_len v l s at

        ls' : l' ≡ length path + length s'
        ls' = at_len v' l' s' at'

        longer : ltb (length s') (length s) ≡ ltb l' l
        longer = ltb_same (length s') (length s) l' l (λ h. omega (arith, ls, ls')) (λ h. omega (arith, ls, ls'))

        len : eqb (length s') (length s) ≡ eqb l' l
        len = eqb_same (length s') (length s) l' l (λ h. omega (arith, ls, ls')) (λ h. omega (arith, ls, ls'))

        equal : (eqb (length s') (length s) ≡ true) ⊎ (eqb (length s') (length s) ≡ false)
            → (eqb (length s') (length s) && ltb (value s) (value s')) ≡ (eqb l' l && ltb v v')
        equal (inl t) =
            let n : l ≡ l' = sym (eqb-true l' l (sym len ∙ t)) in
            ap₂ (λ (b c : Bool). b && c) len
            (ltb_same (value s) (value s') v v' (value_lt v l v' l' s s' at at' n) (λ h. strict h (value_le v' l' v l s' s at' at (sym n))))
          where
            strict : v < v' → (value s' ≤ value s → v' ≤ v) → value s < value s'
            strict h f = let g : (value s' ≤ value s → ⊥) = (λ k. let z : v' ≤ v = f k in omega arith) in omega arith
        equal (inr t) = ap (λ (b : Bool). b && ltb (value s) (value s')) t ∙ sym (ap (λ (b : Bool). b && ltb v v') (sym len ∙ t))

    pub at_over : outranks s s' ≡ outranks_at (length path) v l v' l'
    at_over =
        outranks_tests s s'
        ∙ ap₂ (λ (n b : Bool). n && b) (at_priority v' l' s' at') (ap₂ (λ (n b : Bool). not n || b) (at_priority v l s at) at_ahead)
      where
        outranks_tests : (a c : Bits) → outranks a c ≡ (is_priority c && (not (is_priority a) || ahead a c))
        outranks_tests a [] = refl
        outranks_tests [] (x ∷ c) = refl
        outranks_tests (y ∷ a) (x ∷ c) = refl

  -- an address at the path
  module _ (v l a : ℕ) (s rest : Bits) (at : At w path v l s) (fits : a < 2 ^ w) (is : bits w a ≡ path ++ rest) where
    pub at_matches : matches w v l a ≡ begins s rest
    at_matches =
        matches_begins w v l a at.valid.short at.valid.fits fits
        ∙ ap₂ begins at.is is ∙ begins_append path s rest
