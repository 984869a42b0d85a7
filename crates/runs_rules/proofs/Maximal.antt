-- The listing names just the maximal runs, once, in order, and no other list of runs does: RULES, "The run listing". Assumes nothing.
use mathlib.Core.Path.{◌≡◌, refl, sym, ap, ap₂, subst, ◌∙◌}
use mathlib.Core.Logic.{inl, inr, ⊎_elim}
use mathlib.Core.Bool.{true, false}
use mathlib.Core.List.{List, [], ◌∷◌}
use Prim.Native.Nat.{ℕ, zero, suc, ◌+◌, ◌-◌, ◌≤◌, ◌<◌}
use native.Mathlib.Omega.{arith}
use lib.Dec.{ltb}
use borrow.Author.Tests.{ltb-true, ltb-false}
use Rattle.lists.proofs.Tests.{way}
use Rattle.runs_rules.specs.Runs.{Run, Apart, Lists, runs}
use Rattle.runs_rules.specs.Maximal.{Maximal, Named, Ascending, NamesMaximal, ListingIsMaximal}
use Rattle.runs_rules.proofs.Runs.{next_port, listing_exists}

-- of an ascending list: what it names comes no sooner
later : (a : ℕ) (r : Run) (rs : List Run) → Ascending a rs → Named r rs → (a ≤ r.first) × (r.first ≤ r.last)
later a r [] asc named = absurd named
later a r (q ∷ qs) asc (inl e) = (rw e asc.0, rw e asc.1)
later a r (q ∷ qs) asc (inr named) =
    let l = later (q.last + 1) r qs asc.2 named in
    (omega (arith, l.0, asc.0, asc.1), l.1)

-- what is named first is named by the other first
same_head : (a : ℕ) (r q : Run) (rs qs : List Run) → Ascending a (r ∷ rs) → Ascending a (q ∷ qs) → Named r (q ∷ qs) → Named q (r ∷ rs) → r ≡ q
same_head a r q rs qs x y (inl e) n = e
same_head a r q rs qs x y (inr m) (inl e) = sym e
same_head a r q rs qs x y (inr m) (inr n) =
    let u = later (q.last + 1) r qs y.2 m in
    let v = later (r.last + 1) q rs x.2 n in
    absurd (omega (arith, u.0, u.1, v.0, v.1))

-- what the tail names is not the head
tail_names : (a : ℕ) (r q x : Run) (rs qs : List Run) → Ascending a (r ∷ rs) → r ≡ q → Named x rs → Named x (q ∷ qs) → Named x qs
tail_names a r q x rs qs asc e m (inr n) = n
tail_names a r q x rs qs asc e m (inl i) =
    let u = later (r.last + 1) x rs asc.2 m in
    let f : x.first ≡ r.first = ap (λ (y : Run). y.first) (i ∙ sym e) in
    absurd (omega (arith, u.0, asc.1))

same_lists : (a : ℕ) (rs qs : List Run) → Ascending a rs → Ascending a qs → ((r : Run) → Named r rs → Named r qs)
    → ((r : Run) → Named r qs → Named r rs) → rs ≡ qs
same_lists a [] [] x y to from = refl
same_lists a [] (q ∷ qs) x y to from = absurd (from q (inl refl))
same_lists a (r ∷ rs) [] x y to from = absurd (to r (inl refl))
same_lists a (r ∷ rs) (q ∷ qs) x y to from =
    let e : r ≡ q = same_head a r q rs qs x y (to r (inl refl)) (from q (inl refl)) in
    ap₂ (λ (z : Run) (zs : List Run). z ∷ zs) e
    (same_lists (r.last + 1) rs qs x.2 (subst (λ (z : Run). Ascending (z.last + 1) qs) (sym e) y.2)
    (λ z m. tail_names a r q z rs qs x e m (to z (inr m)))
    (λ z m. tail_names a q r z qs rs y (sym e) m (from z (inr m))))

module _ (f : ℕ → ℕ) (n : ℕ) where
  ascends : (a : ℕ) (rs : List Run) → Lists f n a rs → Ascending a rs
  ascends a [] ls = tt
  ascends a (r ∷ rs) ls = (omega (arith, ls.0.starts), omega (arith, ls.0.starts, ls.0.some), ascends (r.last + 1) rs ls.2)

  -- a run of the listing, from a on, is maximal, if what is before a is apart from it
  head_maximal : (a : ℕ) (q : Run) (qs : List Run) → Lists f n a (q ∷ qs) → (0 < a → Apart (f (a - 1)) (q ∷ qs)) → Maximal f n q
  head_maximal a q qs ls apart = record {
    not_empty = omega (arith, ls.0.starts, ls.0.some);
    ends_within = ls.0.within;
    one_port = λ x u v. ls.0.one_port x (omega (arith, ls.0.starts)) v;
    no_longer_before = λ pos e. apart (omega (arith, ls.0.starts)) (sym e ∙ ap (λ (y : ℕ). f (y - 1)) ls.0.starts);
    no_longer_after = λ more e. next_port f n (q.last + 1) q.port qs ls.1 ls.2 more e;
  }

  named_maximal : (a : ℕ) (rs : List Run) → Lists f n a rs → (0 < a → Apart (f (a - 1)) rs) → (r : Run) → Named r rs → Maximal f n r
  named_maximal a [] ls apart r m = absurd m
  named_maximal a (q ∷ qs) ls apart r (inl e) = subst (Maximal f n) (sym e) (head_maximal a q qs ls apart)
  named_maximal a (q ∷ qs) ls apart r (inr m) =
      let z : q.last + 1 - 1 ≡ q.last = omega arith in
      let p : q.port ≡ f (q.last + 1 - 1) = sym (ap f z ∙ ls.0.one_port q.last ls.0.some (omega arith)) in
      named_maximal (q.last + 1) qs ls.2 (λ pos. subst (λ (j : ℕ). Apart j qs) p ls.1) r m

  -- a maximal run that begins within the first run of the listing is that run
  module _ (a : ℕ) (q : Run) (qs : List Run) (ls : Lists f n a (q ∷ qs)) (r : Run) (max : Maximal f n r) (from : a ≤ r.first)
      (here : r.first ≤ q.last) where
    port_is : r.port ≡ q.port
    port_is = sym (max.one_port r.first (omega arith) max.not_empty) ∙ ls.0.one_port r.first from here

    not_later : a < r.first → ⊥
    not_later h = max.no_longer_before (omega arith) (ls.0.one_port (r.first - 1) (omega arith) (omega arith) ∙ sym port_is)

    not_sooner : r.last < q.last → ⊥
    not_sooner h = max.no_longer_after (omega (arith, ls.0.within)) (ls.0.one_port (r.last + 1) (omega (arith, max.not_empty)) (omega arith) ∙ sym port_is)

    not_longer : q.last < r.last → ⊥
    not_longer h =
        next_port f n (q.last + 1) q.port qs ls.1 ls.2 (omega (arith, max.ends_within))
        (max.one_port (q.last + 1) (omega arith) (omega arith) ∙ port_is)

    is_head : r ≡ q
    is_head =
        let first : r.first ≡ q.first = omega (arith, not_later, ls.0.starts) in
        let last : r.last ≡ q.last = omega (arith, not_sooner, not_longer) in
        λ j. record { first = first j; last = last j; port = port_is j }

  maximal_named : (a : ℕ) (rs : List Run) → Lists f n a rs → (r : Run) → Maximal f n r → a ≤ r.first → Named r rs
  maximal_named a [] ls r max from = absurd (omega (arith, ls, max.not_empty, max.ends_within))
  maximal_named a (q ∷ qs) ls r max from =
      ⊎_elim
      (λ (t : ltb q.last r.first ≡ true). inr (maximal_named (q.last + 1) qs ls.2 r max (omega (arith, ltb-true q.last r.first t))))
      (λ (t : ltb q.last r.first ≡ false). inl (is_head a q qs ls r max from (ltb-false q.last r.first t)))
      (way (ltb q.last r.first))

  lists_names : (rs : List Run) → Lists f n 0 rs → NamesMaximal f n rs
  lists_names rs ls = record {
    each_and_no_other = λ r. (named_maximal 0 rs ls (λ pos. absurd (omega arith)) r, λ max. maximal_named 0 rs ls r max (omega arith));
    once_in_order = ascends 0 rs ls;
  }

-- two lists of runs that do so are one
names_unique : (f : ℕ → ℕ) (n : ℕ) (rs qs : List Run) → NamesMaximal f n rs → NamesMaximal f n qs → rs ≡ qs
names_unique f n rs qs x y =
    same_lists 0 rs qs x.once_in_order y.once_in_order (λ r m. (y.each_and_no_other r).1 ((x.each_and_no_other r).0 m)) (λ r m. (x.each_and_no_other r).1 ((y.each_and_no_other r).0 m))

names_lists : (f : ℕ → ℕ) (n : ℕ) (rs : List Run) → NamesMaximal f n rs → Lists f n 0 rs
names_lists f zero [] x = refl
names_lists f zero (r ∷ rs) x = absurd (omega (arith, ((x.each_and_no_other r).0 (inl refl)).ends_within))
names_lists f (suc n) rs x =
    let ls : Lists f (suc n) 0 (runs f (suc n)) = listing_exists f (suc n) (omega arith) in
    subst (Lists f (suc n) 0) (names_unique f (suc n) (runs f (suc n)) rs (lists_names f (suc n) (runs f (suc n)) ls) x) ls

pub listing_is_maximal : ListingIsMaximal
listing_is_maximal f n rs = (lists_names f n rs, names_lists f n rs)
