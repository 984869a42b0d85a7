-- One step of the search on any rows, as the code takes it: RULES, "Lookup in a table". Assumes nothing.
use mathlib.Core.Path.{◌≡◌, refl, sym, ap, ◌∙◌}
use mathlib.Core.Bool.{Bool, true, false, cond, ◌&&◌}
use Prim.Native.Nat.{ℕ, zero, suc, ◌+◌, ◌-◌, ◌<◌, ◌≤◌}
use native.Mathlib.Omega.{arith}
use native.Mathlib.Nat.{sub-zero}
use mathlib.Core.Logic.{⊎_elim}
use lib.Dec.{leb, ltb}
use borrow.Author.Tests.{eq-eqb, ne_eqb, lt-ltb, le-ltb, le-leb, lt-leb}
use Rattle.lists.proofs.Tests.{lt_or_le}
use Rattle.table_rules.specs.Rows.{Mem, child}
use Rattle.table_rules.specs.Lookup.{wrong_row, row_matches, visit, onward, walk, lookup_in}
use Rattle.refusals.specs.Refusals.{found, lost, not_in_order}
use Rattle.bits.specs.Bits.{bit_before}
use Rattle.table_rules.specs.declared.Row.{Row}
use Rattle.refusals.specs.declared.found.Found.{Found}
use Rattle.table_rules.proofs.Right.{child_lt}

-- a row by its two tests, each asked once
visit_by : (w : ℕ) (x : Row) (n a depth best reads : ℕ) (on : ℕ → Found) (b m : Bool) → wrong_row w x n a depth ≡ b → row_matches w x a ≡ m
    → visit w x n a depth best reads on
    ≡ cond b (lost not_in_order reads) (cond (m && ltb depth x.len) (found x.port reads) (on (cond m x.port best)))
visit_by w x n a depth best reads on b m eb em = rw (eb, em)

module _ (w : ℕ) (M : Mem) (n a : ℕ) where
  -- the search after row r, with k bits left at that row
  abbrev after : ℕ → ℕ → ℕ → ℕ → Found
  after zero r reads best = found best reads
  after (suc k) r reads best =
      onward (child (M r) (bit_before a k)) best reads (walk w M n a k (child (M r) (bit_before a k)) best reads)

  walk_visit : (k r best reads : ℕ) → walk w M n a k r best reads ≡ visit w (M r) n a (w - k) best (reads + 1) (after k r (reads + 1))
  unfolding walk
  walk_visit zero r best reads = rw (sub-zero w)
  walk_visit (suc k) r best reads = refl

-- what is left to do at a depth, with the best so far and the rows read: past the last depth nothing is
abbrev pub going : ℕ → Mem → ℕ → ℕ → ℕ → ℕ → ℕ → Found
going w M n a depth row best = cond (leb depth w) (walk w M n a (w - depth) row best depth) (found best depth)

-- the loop's invariant: what is left to do from here is the whole
pub record Searching (w capacity : ℕ) (M : Mem) (n a depth row best : ℕ) : Type 0 where
  pub held : row < n
  pub few : n ≤ capacity
  pub rest : going w M n a depth row best ≡ lookup_in w capacity M n a

-- The code's values: x is row r, b the answer of `is_wrong`, m that of `row_matches`, c that of `child_on`.
module _ (w capacity : ℕ) (M : Mem) (n a d r best : ℕ) (s : Searching w capacity M n a d r best) (x : Row) (is : x ≡ M r)
    (deep : d ≤ w) (b : Bool) (eb : b ≡ wrong_row w x n a d) where
  abbrev all : Found
  all = lookup_in w capacity M n a

  abbrev onto : ℕ → Found
  onto = after w M n a (w - d) r (d + 1)

  visited : (m : Bool) → m ≡ row_matches w x a
      → cond b (lost not_in_order (d + 1)) (cond (m && ltb d x.len) (found x.port (d + 1)) (onto (cond m x.port best))) ≡ all
  visited m em =
      let here : d ≡ w - (w - d) = omega (arith, deep) in
      sym (visit_by w x n a d best (d + 1) onto b m (sym eb) (sym em))
      ∙ (λ j. visit w (is j) n a (here j) best (d + 1) onto)
      ∙ sym (walk_visit w M n a (w - d) r best d)
      ∙ (rw (le-leb d w deep) at s.rest)

  pub to_wrong : b ≡ true → lost not_in_order (d + 1) ≡ all
  to_wrong t = rw t at (visited (row_matches w x a) refl)

  module _ (fine : b ≡ false) (m : Bool) (em : m ≡ row_matches w x a) where
    pub to_ends : (m && ltb d x.len) ≡ true → found x.port (d + 1) ≡ all
    to_ends t = rw (fine, t) at (visited m em)

    module _ (on : (m && ltb d x.len) ≡ false) (best' : ℕ) (eq : best' ≡ cond m x.port best) where
      goes : onto best' ≡ all
      goes = ap onto eq ∙ (rw (fine, on) at (visited m em))

      pub to_last : d ≡ w → found best' (d + 1) ≡ all
      to_last z =
          let none : 0 ≡ w - d = omega (arith, z) in
          ap (λ (k : ℕ). after w M n a k r (d + 1) best') none ∙ goes

      -- c is the child that a bit names, which is the next one but at the last depth
      module _ (k : ℕ) (ek : d < w → k ≡ w - (d + 1)) (c : ℕ) (ec : c ≡ child x (bit_before a k)) where
        on_child : d < w → onward c best' (d + 1) (walk w M n a (w - (d + 1)) c best' (d + 1)) ≡ all
        on_child more =
            let one : suc (w - (d + 1)) ≡ w - d = omega (arith, more) in
            let named : c ≡ child (M r) (bit_before a (w - (d + 1))) = ec ∙ ap (λ (k : ℕ). child x (bit_before a k)) (ek more) ∙ ap (λ (y : Row). child y (bit_before a (w - (d + 1)))) is in
            ap (λ (e : ℕ). onward e best' (d + 1) (walk w M n a (w - (d + 1)) e best' (d + 1))) named
            ∙ ap (λ (k : ℕ). after w M n a k r (d + 1) best') one
            ∙ goes

        pub to_stop : c ≡ 0 → found best' (d + 1) ≡ all
        to_stop z = ⊎_elim
            (λ (l : d < w). rw (eq-eqb c 0 z) at (on_child l))
            (λ (l : w ≤ d). to_last (omega arith))
            (lt_or_le d w)

        pub to_next : (c ≡ 0 → ⊥) → Searching w capacity M n a (d + 1) c best'
        to_next z =
            record {
              held = rw ec (child_lt w x n a d b eb fine (bit_before a k));
              few = s.few;
              rest = ⊎_elim
                  (λ (l : d < w). rw (le-leb (d + 1) w (omega arith)) (rw (ne_eqb c 0 z) at (on_child l)))
                  (λ (l : w ≤ d). rw (lt-leb (d + 1) w (omega arith)) (to_last (omega arith)))
                  (lt_or_le d w);
            }

module _ (w capacity : ℕ) (M : Mem) (n a : ℕ) where
  pub lookup_past : capacity < n → lost not_in_order 0 ≡ lookup_in w capacity M n a
  unfolding lookup_in
  lookup_past h = rw (lt-ltb capacity n h)

  pub lookup_none : n ≤ capacity → n ≡ 0 → found 0 0 ≡ lookup_in w capacity M n a
  unfolding lookup_in
  lookup_none h z = rw (le-ltb capacity n h, eq-eqb n 0 z)

  pub lookup_starts : n ≤ capacity → (n ≡ 0 → ⊥) → Searching w capacity M n a 0 0 0
  unfolding lookup_in
  lookup_starts h z =
      record { held = omega arith; few = h; rest = rw (le-leb 0 w (omega arith), sub-zero w, le-ltb capacity n h, ne_eqb n 0 z) }

  -- past the last depth
  pub lookup_ends : (d r best : ℕ) → Searching w capacity M n a d r best → d ≡ w + 1 → found best (w + 1) ≡ lookup_in w capacity M n a
  lookup_ends d r best s e = rw (← e) (rw (lt-leb d w (omega arith)) at s.rest)
