-- A pass over the routes of a valid list meets the blocks that a longer route begins with, each once and in order. Assumes nothing.
use mathlib.Core.Path.{◌≡◌, refl, sym, ap, ◌∙◌}
use mathlib.Core.Logic.{⊎_elim}
use mathlib.Core.Bool.{Bool, true, false, cond}
use mathlib.Core.List.{List}
use Prim.Native.Nat.{ℕ, ◌+◌, ◌-◌, ◌≤◌, ◌<◌}
use native.Mathlib.Omega.{arith}
use lib.Dec.{eqb, leb, ltb}
use lib.Pow.{shr_mono}
use lib.ListN.{length, set, get_or, length-set}
use lib.Seq.{ext_get_or, get_or-set_same, get_or-set_other}
use borrow.Author.Tests.{lt-ltb, le-ltb, ltb-true, ltb-false, leb-true, leb-false, eqb-true, eqb-false}
use Rattle.lists.specs.Numbered.{list_of}
use Rattle.lists.proofs.Tests.{way, both, test_no}
use Rattle.lists.proofs.Numbered.{get_d_list_of, length_list_of, list_of_same}
use Rattle.bits.specs.Prefix.{head}
use Rattle.bits.proofs.Order.{precedes_value_le}
use Rattle.routes.specs.Routes.{ValidList}
use Rattle.routes.specs.declared.Route.{Route}
use Rattle.routes.proofs.Rising.{before}
use Rattle.segment_rules.specs.Blocks.{longer}
use Rattle.segment_rules.proofs.Ports.{longer→route, route→longer}
use Rattle.segment_build.specs.Needs.{is_new, Passed, marked}

module _ (w : ℕ) (R : ℕ → Route) (n l : ℕ) (ok : ValidList w R n) where
  abbrev block : ℕ → ℕ
  block k = head w l (R k).value

  pub blocks_rise : (j k : ℕ) → j ≤ k → k < n → block j ≤ block k
  blocks_rise j k h m =
      ⊎_elim
      (λ (t : eqb j k ≡ true). let e = eqb-true j k t in rw e (omega arith))
      (λ (t : eqb j k ≡ false).
      let ne : (j ≡ k → ⊥) = eqb-false j k t in
      shr_mono (w - l) (precedes_value_le (before w R n ok j k (omega arith) m)))
      (way (eqb j k))

  pub passed_none : Passed w R n l 0 0
  passed_none = record { behind = λ k h. absurd (omega arith); ahead = λ k h m. omega arith }

  module _ (i next : ℕ) (p : Passed w R n l i next) where
    -- a route that begins no new block
    pub passed_on : is_new w l (R i) next ≡ false → Passed w R n l (i + 1) next
    passed_on f = record { behind = behind; ahead = λ k h m. p.ahead k (omega arith) m }
      where
        own : l < (R i).len → block i < next
        own long = leb-false next (block i) (rw (lt-ltb l (R i).len long) at f)

        behind : (k : ℕ) → k < i + 1 → l < (R k).len → block k < next
        behind k h long =
            ⊎_elim
            (λ (t : eqb k i ≡ true). let e = eqb-true k i t in rw e (own (rw e at long)))
            (λ (t : eqb k i ≡ false). let ne : (k ≡ i → ⊥) = eqb-false k i t in p.behind k (omega arith) long)
            (way (eqb k i))

    -- one that does
    module _ (h : i < n) (t : is_new w l (R i) next ≡ true) where
      long : l < (R i).len
      long = ltb-true l (R i).len (both (ltb l (R i).len) (leb next (block i)) t).0

      pub from_next : next ≤ block i
      from_next = leb-true next (block i) (both (ltb l (R i).len) (leb next (block i)) t).1

      pub passed_new : Passed w R n l (i + 1) (block i + 1)
      passed_new = record {
        behind = λ k m lo. omega (arith, blocks_rise k i (omega arith) h);
        ahead = λ k a m. omega (arith, blocks_rise i k (omega arith) m);
      }

      pub new_longer : longer w R n l (block i) ≡ true
      new_longer = route→longer w R n l (block i) (record { which = i; listed = h; long = long; begins = refl })

    -- no block between is missed: where all routes from i on begin with `to` or a later block
    pub none_between : (to : ℕ) → ((k : ℕ) → i ≤ k → k < n → l < (R k).len → to ≤ block k)
        → (x : ℕ) → next ≤ x → x < to → longer w R n l x ≡ false
    none_between to from x h m =
        test_no (longer w R n l x) (λ t.
        let r = longer→route w R n l x t in
        ⊎_elim
        (λ (s : ltb r.which i ≡ true).
        omega (arith, p.behind r.which (ltb-true r.which i s) r.long, r.begins))
        (λ (s : ltb r.which i ≡ false).
        omega (arith, from r.which (ltb-false r.which i s) r.listed r.long, r.begins))
        (way (ltb r.which i)))

    pub none_before_new : i < n → (x : ℕ) → next ≤ x → x < block i → longer w R n l x ≡ false
    none_before_new h = none_between (block i) (λ k a m lo. blocks_rise i k a m)

  pub none_after : (next : ℕ) → Passed w R n l n next → (x : ℕ) → next ≤ x → longer w R n l x ≡ false
  none_after next p x h = none_between n next p (x + 1) (λ k a m lo. absurd (omega arith)) x h (omega arith)

-- entries that are marked as the blocks are met
module _ (test : ℕ → Bool) (f g : ℕ → ℕ) where
  pub marked_none : (size base x : ℕ) → x ≤ base → list_of g size base ≡ list_of (marked test f g x) size base
  marked_none size base x h =
      list_of_same g (marked test f g x) size base (λ j u v. rw (le-ltb j x (omega arith)))

  -- a number between two points that does not pass is marked alike before both
  marked_same : (next to j : ℕ) → next ≤ to → (next ≤ j → j < to → test j ≡ false) → marked test f g next j ≡ marked test f g to j
  marked_same next to j h none =
      ⊎_elim
      (λ (t : ltb j next ≡ true). rw (t, lt-ltb j to (omega (arith, ltb-true j next t))))
      (λ (t : ltb j next ≡ false).
      ⊎_elim
      (λ (u : ltb j to ≡ true). rw (t, u, none (ltb-false j next t) (ltb-true j to u)))
      (λ (u : ltb j to ≡ false). rw (t, u))
      (way (ltb j to)))
      (way (ltb j next))

  -- one block more
  pub marked_more : (size base next x : ℕ) → ((z : ℕ) → next ≤ z → z < x → test z ≡ false) → test x ≡ true → next ≤ x → base ≤ x → x < base + size
      → set (list_of (marked test f g next) size base) (x - base) (f x) ≡ list_of (marked test f g (x + 1)) size base
  marked_more size base next x none t h u v =
      ext_get_or 0 (set was (x - base) (f x)) is (length-set was (x - base) (f x) ∙ lengths) (λ i l. at i (omega (arith, l, length-set was (x - base) (f x), long)))
    where
      was : List ℕ
      was = list_of (marked test f g next) size base

      is : List ℕ
      is = list_of (marked test f g (x + 1)) size base

      long : length was ≡ size
      long = length_list_of (marked test f g next) size base

      lengths : length was ≡ length is
      lengths = long ∙ sym (length_list_of (marked test f g (x + 1)) size base)

      own : marked test f g (x + 1) x ≡ f x
      own = rw (lt-ltb x (x + 1) (omega arith), t)

      at : (i : ℕ) → i < size → get_or (set was (x - base) (f x)) i 0 ≡ get_or is i 0
      at i l =
          ⊎_elim
          (λ (s : eqb i (x - base) ≡ true).
          let e = eqb-true i (x - base) s in
          let z : base + i ≡ x = omega arith in
          ap (λ (k : ℕ). get_or (set was k (f x)) i 0) (sym e) ∙ get_or-set_same was i (f x) 0 (omega (arith, long))
          ∙ sym (get_d_list_of (marked test f g (x + 1)) size base i 0 l ∙ ap (marked test f g (x + 1)) z ∙ own))
          (λ (s : eqb i (x - base) ≡ false).
          let ne : (i ≡ x - base → ⊥) = eqb-false i (x - base) s in
          get_or-set_other was (x - base) i (f x) 0 ne
          ∙ get_d_list_of (marked test f g next) size base i 0 l
          ∙ marked_same next (x + 1) (base + i) (omega arith) (λ a b. none (base + i) a (omega arith))
          ∙ sym (get_d_list_of (marked test f g (x + 1)) size base i 0 l))
          (way (eqb i (x - base)))

  -- once there is no block more
  pub marked_all : (size base next : ℕ) → ((z : ℕ) → next ≤ z → z < base + size → test z ≡ false)
      → list_of (marked test f g next) size base ≡ list_of (λ x. cond (test x) (f x) (g x)) size base
  marked_all size base next none = list_of_same (marked test f g next) (λ x. cond (test x) (f x) (g x)) size base at
    where
      at : (j : ℕ) → base ≤ j → j < base + size → marked test f g next j ≡ cond (test j) (f j) (g j)
      at j u v =
          ⊎_elim
          (λ (t : ltb j next ≡ true). rw t)
          (λ (t : ltb j next ≡ false). rw (t, none j (ltb-false j next t) v))
          (way (ltb j next))
