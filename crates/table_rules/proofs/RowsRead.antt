-- The lookup reads the rows on the address's way, down to the first below which it does not go on. Assumes nothing.
use mathlib.Core.Path.{◌≡◌, refl, sym, ap, ◌∙◌, subst}
use mathlib.Core.Logic.{⊎_elim}
use mathlib.Core.Bool.{true, false, cond, not, ◌&&◌, true≢false}
use Prim.Native.Nat.{ℕ, zero, suc, ◌+◌, ◌-◌, ◌<◌, ◌≤◌}
use native.Mathlib.Omega.{arith}
use lib.Dec.{eqb, ltb}
use lib.ListN.{take}
use borrow.Author.Tests.{eq-eqb, ne_eqb, lt-ltb, le-ltb}
use Rattle.lists.proofs.Tests.{lt_or_le}
use Rattle.bits.specs.Bits.{bits, bit_before}
use Rattle.refusals.specs.Refusals.{not_in_order, found}
use Rattle.refusals.specs.declared.found.Found.{Found}
use Rattle.table_rules.specs.Rows.{Mem, child, row_of}
use Rattle.table_rules.specs.Lookup.{ends_at, better_of, visit, walk, lookup_in}
use Rattle.table_rules.specs.RowsRead.{row_along, wrong_along, goes_on, RowsRead}
use Rattle.table_rules.specs.Theorems.{LookupReads, RowsReadOne, LookupReadsNone}
use Rattle.table_rules.proofs.Closed.{by_cond}

-- one bit more of the way
row_next : (M : Mem) (a d k v r : ℕ) → v ≡ d + suc k → row_of M r (take (suc d) (bits v a)) ≡ child (M (row_of M r (take d (bits v a)))) (bit_before a k)
unfolding bits
row_next M a d k zero r e = absurd (omega arith)
row_next M a zero k (suc v) r e = let z : v ≡ k = omega arith in ap (λ (j : ℕ). child (M r) (bit_before a j)) z
row_next M a (suc d) k (suc v) r e = row_next M a d k v (child (M r) (bit_before a v)) (omega arith)

module _ (w : ℕ) (M : Mem) (n a : ℕ) where
  abbrev along : ℕ → ℕ
  along d = row_along w M a d

  abbrev Reads : Found → Type 0
  Reads f = RowsRead w M n a f.reads f.number

  abbrev Passed : ℕ → Type 0
  Passed d = (j : ℕ) → j < d → goes_on w M n a j ≡ true

  -- the search ends at a depth: the row is wrong, or for another reason
  wrong_there : (d : ℕ) → Passed d → wrong_along w M n a d ≡ true → RowsRead w M n a (d + 1) not_in_order
  wrong_there d passed e = record { depth = d; count = refl; passed = passed; stops = rw e; refusal = rw e }

  ends_there : (d : ℕ) → Passed d → wrong_along w M n a d ≡ false
      → (not (ends_at w (M (along d)) a d) && ltb d w && not (eqb (along (d + 1)) 0)) ≡ false → RowsRead w M n a (d + 1) 0
  ends_there d passed e f = record { depth = d; count = refl; passed = passed; stops = rw (e, f); refusal = rw e }

  -- the row at a depth is read
  visit_reads : (d best : ℕ) (on : ℕ → Found) → Passed d
      → (wrong_along w M n a d ≡ false → ends_at w (M (along d)) a d ≡ false → Reads (on (better_of w (M (along d)) a best)))
      → Reads (visit w (M (along d)) n a d best (d + 1) on)
  visit_reads d best on passed next =
      by_cond Reads (wrong_along w M n a d) _ _ (λ e. wrong_there d passed e)
      (λ e. by_cond Reads (ends_at w (M (along d)) a d) _ _ (λ f. ends_there d passed e (rw f)) (λ f. next e f))

  passed_more : (d : ℕ) → Passed d → goes_on w M n a d ≡ true → Passed (d + 1)
  passed_more d passed e j h =
      ⊎_elim (λ (l : j < d). passed j l) (λ (l : d ≤ j). let z : j ≡ d = omega arith in ap (goes_on w M n a) z ∙ e) (lt_or_le j d)

  walk_reads : (k d best : ℕ) → d + k ≡ w → Passed d → Reads (walk w M n a k (along d) best d)
  unfolding walk
  walk_reads zero d best deep passed =
      let full : w ≡ d = omega arith in
      subst (λ (j : ℕ). Reads (visit w (M (along d)) n a j best (d + 1) (λ b. found b (d + 1)))) (sym full)
      (visit_reads d best (λ b. found b (d + 1)) passed (λ e f. ends_there d passed e (rw (f, le-ltb d w (omega arith)))))
  walk_reads (suc k) d best deep passed =
      let at : w - suc k ≡ d = omega arith in
      let c : ℕ = child (M (along d)) (bit_before a k) in
      let more : along (d + 1) ≡ c =
      ap along (let z : d + 1 ≡ suc d = omega arith in z) ∙ row_next M a d k w 0 (sym deep) in
      let under : ltb d w ≡ true = lt-ltb d w (omega arith) in
      let on : ℕ → Found = (λ b. cond (eqb c 0) (found b (d + 1)) (walk w M n a k c b (d + 1))) in
      subst (λ (j : ℕ). Reads (visit w (M (along d)) n a j best (d + 1) on)) (sym at)
      (visit_reads d best on passed
      (λ e f.
      by_cond Reads (eqb c 0) _ _ (λ g. ends_there d passed e (rw (f, under, more, g)))
      (λ g.
      subst (λ (j : ℕ). Reads (walk w M n a k j (better_of w (M (along d)) a best) (d + 1))) more
      (walk_reads k (d + 1) (better_of w (M (along d)) a best) (omega arith) (passed_more d passed (rw (e, f, under, more, g)))))))

pub lookup_reads : LookupReads
unfolding lookup_in
lookup_reads w capacity M n a some few =
    rw (le-ltb capacity n few, ne_eqb n 0 (λ z. omega arith)) (walk_reads w M n a w 0 0 (omega arith) (λ j h. absurd (omega arith)))

pub rows_read_one : RowsReadOne
rows_read_one w M n a k k' number number' x y =
    ⊎_elim
    (λ (l : x.depth < y.depth). absurd (true≢false (sym (y.passed x.depth l) ∙ x.stops)))
    (λ (l : y.depth ≤ x.depth).
    ⊎_elim
    (λ (g : y.depth < x.depth). absurd (true≢false (sym (x.passed y.depth g) ∙ y.stops)))
    (λ (g : x.depth ≤ y.depth).
    let same : x.depth ≡ y.depth = omega arith in (
      omega (arith, x.count, y.count),
      x.refusal ∙ ap (λ (d : ℕ). cond (wrong_along w M n a d) not_in_order 0) same ∙ sym y.refusal,
    ))
    (lt_or_le y.depth x.depth))
    (lt_or_le x.depth y.depth)

pub lookup_reads_none : LookupReadsNone
unfolding lookup_in
lookup_reads_none w capacity M n a = (λ z. rw (le-ltb capacity n (omega arith), eq-eqb n 0 z), λ h. rw (lt-ltb capacity n h))
