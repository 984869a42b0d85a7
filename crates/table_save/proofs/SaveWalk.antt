-- The walk that writes a table's routes, as the code takes it: one row, its two sides, and its own route put among them.
-- Assumes nothing.
use mathlib.Core.Path.{◌≡◌, refl, sym, ap, ap₂, ◌∙◌, subst}
use mathlib.Core.Bool.{Bool, true, cond}
use mathlib.Core.List.{List, [], ◌∷◌, ◌++◌, append_assoc}
use Prim.Native.Nat.{ℕ, zero, suc, ◌+◌, ◌-◌, ◌*◌, ◌<◌, ◌≤◌}
use native.Mathlib.Omega.{arith}
use native.Mathlib.Nat.{add-zero, zero-add}
use lib.ListN.{length, drop, length-append}
use lib.Seq.{sets, sets-eq, set-get_or, length-sets}
use borrow.Author.Tests.{eq-eqb, ne_eqb, le-leb, lt-leb}
use Rattle.promise.specs.Over.{over, outcome}
use Rattle.refusals.specs.Refusals.{no_room, refused, accepted}
use Rattle.routes.specs.Bounds.{most_routes}
use Rattle.routes.specs.declared.Route.{Route}
use Rattle.table_rules.specs.Rows.{Mem, child, route_of}
use Rattle.table_rules.specs.Check.{is_good}
use Rattle.table_lookup.proofs.Checked.{Wrong}
use Rattle.table_rules.specs.Save.{insert_route, saved_at, save_into}
use Rattle.routes.specs.Routes.{route_at, words_of, store_route}
use Rattle.table_rules.specs.declared.Row.{Row}
use Rattle.table_rules.specs.Walk.{saved_below}
use Rattle.table_rules.specs.Ascending.{Ascending}
use Rattle.table_rules.specs.Savable.{Savable}
use Rattle.table_rules.proofs.Good.{check_is_good}
use Rattle.table_rules.proofs.Save.{good_savable, saved_is}
use Rattle.table_rules.proofs.Ascending.{length_insert}
use Rattle.routes.proofs.Words.{length_words, words_append, store_sets}
use Rattle.lists.proofs.Sets.{sets_append}
use Rattle.list_insert.specs.Insertion.{placed, inserted}
use Rattle.list_insert.proofs.Loops.{inserted_within}
use Rattle.table_save.specs.Writing.{WroteRoutes}
use Rattle.table_save.proofs.Insertion.{placed_is}

pub ready_row : (M : Mem) (room k r : ℕ) → Savable M room k r → r < room
unfolding Savable
ready_row M room zero r h = h
ready_row M room (suc k) r h = h.0

-- a row at the full depth

saved_last : (M : Mem) (k r : ℕ) → k ≡ 0 → saved_at M k r ≡ route_of (M r) ∷ []
unfolding saved_at
saved_last M zero r z = refl
saved_last M (suc k) r z = absurd (omega arith)

pub size_last : (M : Mem) (k r : ℕ) → k ≡ 0 → length (saved_at M k r) ≡ 1
size_last M k r z = ap length (saved_last M k r z)

pub wrote_last : (M : Mem) (k r at : ℕ) (x : Row) (q : Route) (lent left : List ℕ) → k ≡ 0 → x ≡ M r → q ≡ route_of x
    → at * 3 + 3 ≤ length lent → left ≡ store_route lent at q → WroteRoutes (saved_at M k r) at (at + 1) lent left
wrote_last M k r at x q lent left z is eq room e = record {
  end = sym (ap (λ (n : ℕ). at + n) (size_last M k r z));
  words =
      e ∙ ap (store_route lent at) (eq ∙ ap route_of is) ∙ store_sets lent at (route_of (M r)) room
      ∙ ap (λ (rs : List Route). sets lent (at * 3) (words_of rs)) (sym (saved_last M k r z));
}

-- a row with bits left

saved_more : (M : Mem) (k r : ℕ) (x : Row) → (k ≡ 0 → ⊥) → x ≡ M r
    → saved_at M k r ≡ insert_route (route_of x) (saved_below M (k - 1) x.left ++ saved_below M (k - 1) x.right)
unfolding saved_at
saved_more M zero r x ne is = absurd (ne refl)
saved_more M (suc k) r x ne is =
    let e : suc k - 1 ≡ k = omega arith in
    rw e (ap (λ (y : Row). insert_route (route_of y) (saved_below M k y.left ++ saved_below M k y.right)) (sym is))

pub size_more : (M : Mem) (k r : ℕ) (x : Row) → (k ≡ 0 → ⊥) → x ≡ M r
    → length (saved_at M k r) ≡ length (saved_below M (k - 1) x.left) + length (saved_below M (k - 1) x.right) + 1
size_more M k r x ne is =
    ap length (saved_more M k r x ne is)
    ∙ length_insert (route_of x) (saved_below M (k - 1) x.left ++ saved_below M (k - 1) x.right)
    ∙ omega (arith, length-append (saved_below M (k - 1) x.left) (saved_below M (k - 1) x.right))

ready_rises : (M : Mem) (room k r : ℕ) (x : Row) → (k ≡ 0 → ⊥) → x ≡ M r → Savable M room k r
    → Ascending (saved_below M (k - 1) x.left ++ saved_below M (k - 1) x.right)
unfolding Savable
ready_rises M room zero r x ne is h = absurd (ne refl)
ready_rises M room (suc k) r x ne is h =
    let e : suc k - 1 ≡ k = omega arith in
    rw e (subst (λ (y : Row). Ascending (saved_below M k y.left ++ saved_below M k y.right)) (sym is) h.1)

pub savable_child : (M : Mem) (room k r : ℕ) (x : Row) → (k ≡ 0 → ⊥) → x ≡ M r → Savable M room k r
    → (b : Bool) → 0 < child x b → Savable M room (k - 1) (child x b)
unfolding Savable
savable_child M room zero r x ne is h = absurd (ne refl)
savable_child M room (suc k) r x ne is h =
    let e : suc k - 1 ≡ k = omega arith in
    rw e (subst (λ (y : Row). (b : Bool) → 0 < child y b → Savable M room k (child y b)) (sym is) h.2)

-- two stretches of routes written one after the other are one
wrote_both : (xs ys : List Route) (at middle end : ℕ) (lent mid left : List ℕ) → WroteRoutes xs at middle lent mid → WroteRoutes ys middle end mid left
    → WroteRoutes (xs ++ ys) at end lent left
wrote_both xs ys at middle end lent mid left h k = record {
  end = k.end ∙ omega (arith, h.end, length-append xs ys);
  words =
      let e : middle * 3 ≡ at * 3 + length (words_of xs) = omega (arith, h.end, length_words xs) in
      k.words
      ∙ ap₂ (λ (l : List ℕ) (i : ℕ). sets l i (words_of ys)) h.words e
      ∙ sets_append (words_of xs) (words_of ys) lent (at * 3)
      ∙ ap (sets lent (at * 3)) (sym (words_append xs ys));
}

-- a place that is left as it is
wrote_free : (ws : List ℕ) (i : ℕ) → WroteRoutes (route_at ws i ∷ []) i (i + 1) ws ws
wrote_free ws i =
    let e : i * 3 + 1 ≡ suc (i * 3) = omega arith in
    let f : i * 3 + 2 ≡ suc (suc (i * 3)) = omega arith in
    record {
      end = refl;
      words = sym (rw (e, f, set-get_or ws (i * 3) 0, set-get_or ws (suc (i * 3)) 0, set-get_or ws (suc (suc (i * 3))) 0) refl);
    }

-- The code's values: `middle` and `end` are where the sides ended, with a free place between them, `mid` and `low` the list then,
-- q the row's route.
pub wrote_more : (M : Mem) (room k r at : ℕ) (x : Row) (middle end : ℕ) (lent mid low left : List ℕ) (q : Route)
    → (k ≡ 0 → ⊥) → x ≡ M r → Savable M room k r → (at + length (saved_at M k r)) * 3 ≤ length lent
    → WroteRoutes (saved_below M (k - 1) x.left) at middle lent mid → WroteRoutes (saved_below M (k - 1) x.right) (middle + 1) end mid low
    → q ≡ route_of x → left ≡ inserted low at middle end q → WroteRoutes (saved_at M k r) at end lent left
wrote_more M room k r at x middle end lent mid low left q ne is ready room_for wl wr eq e = record {
  end = omega (arith, wl.end, wr.end, size_more M k r x ne is);
  words =
      e
      ∙ inserted_within low at middle end q (omega (arith, wl.end)) (omega (arith, wr.end))
      (omega (arith, size_more M k r x ne is, wl.end, wr.end, long))
      ∙ ap (λ (ws : List ℕ). placed ws at middle end q)
      (both.words ∙ ap (λ (rs : List Route). sets lent (at * 3) (words_of rs)) (append_assoc L (h ∷ []) R))
      ∙ ap₂ (λ (i j : ℕ). placed (sets lent (at * 3) (words_of (L ++ (h ∷ R)))) at i j q) wl.end (wr.end ∙ ap (λ (i : ℕ). i + 1 + length R) wl.end)
      ∙ placed_is lent at q h L R (ready_rises M room k r x ne is ready) (omega (arith, size_more M k r x ne is))
      ∙ ap (λ (rs : List Route). sets lent (at * 3) (words_of rs))
      (ap (λ (y : Route). insert_route y (L ++ R)) eq ∙ sym (saved_more M k r x ne is));
}
  where
    long : length low ≡ length lent
    long =
        ap (λ (ws : List ℕ). length ws) wr.words ∙ length-sets mid ((middle + 1) * 3) (words_of (saved_below M (k - 1) x.right))
        ∙ ap (λ (ws : List ℕ). length ws) wl.words ∙ length-sets lent (at * 3) (words_of (saved_below M (k - 1) x.left))

    L : List Route
    L = saved_below M (k - 1) x.left

    R : List Route
    R = saved_below M (k - 1) x.right

    h : Route
    h = route_at mid middle

    both : WroteRoutes (L ++ (h ∷ []) ++ R) at end lent low
    both = wrote_both (L ++ (h ∷ [])) R at (middle + 1) end lent mid low (wrote_both L (h ∷ []) at middle (middle + 1) lent mid mid wl (wrote_free mid middle)) wr

-- the routes below a row on one side

pub wrote_none : (M : Mem) (k c at : ℕ) (lent : List ℕ) → c ≡ 0 → WroteRoutes (saved_below M k c) at at lent lent
wrote_none M k c at lent z =
    subst (λ (b : Bool). WroteRoutes (cond b [] (saved_at M k c)) at at lent lent) (sym (eq-eqb c 0 z)) (record { end = sym (add-zero at); words = refl })

pub below_is : (M : Mem) (k c : ℕ) → (c ≡ 0 → ⊥) → saved_below M k c ≡ saved_at M k c
below_is M k c ne = rw (ne_eqb c 0 ne)

pub wrote_below : (M : Mem) (k c at next : ℕ) (lent left : List ℕ) → (c ≡ 0 → ⊥) → WroteRoutes (saved_at M k c) at next lent left
    → WroteRoutes (saved_below M k c) at next lent left
wrote_below M k c at next lent left ne h = subst (λ (rs : List Route). WroteRoutes rs at next lent left) (sym (below_is M k c ne)) h

-- the whole table

module _ (w capacity : ℕ) (M : Mem) (n : ℕ) (lent : List ℕ) where
  pub save_refused : (number place : ℕ) → Wrong w capacity M n number place
      → outcome (refused number place) lent ≡ save_into w capacity M n lent
  unfolding save_into
  save_refused number place h =
      rw h.wrong (ap₂ (λ (number place : ℕ). outcome (refused number place) lent) h.eleven h.at_zero)

  module _ (good : is_good w capacity M n ≡ true) where
    pub save_short : length lent < n * 3 → outcome (refused no_room 0) lent ≡ save_into w capacity M n lent
    unfolding save_into
    save_short h = rw (good, lt-leb (n * 3) (length lent) h)

    pub save_none : n ≡ 0 → outcome (accepted 0) lent ≡ save_into w capacity M n lent
    unfolding save_into
    save_none z = rw (good, le-leb (n * 3) (length lent) (omega arith), eq-eqb n 0 z) (ap (λ (k : ℕ). outcome (accepted k) lent) (sym z))

    -- the rows may be written, n of them
    pub save_ready : (n ≡ 0 → ⊥) → (room : ℕ) → capacity ≤ room → capacity ≤ most_routes → Savable M room w 0 × (length (saved_at M w 0) ≡ n)
    save_ready ne room le most =
        let g = (check_is_good w capacity M n).0 good in
        let few = g.1.few in (
          good_savable w capacity M n room g.0 g.1 (omega arith) (omega arith),
          sym (ap (λ (b : Bool). length (cond b [] (saved_at M w 0))) (ne_eqb n 0 ne)) ∙ (saved_is w capacity M n g.0 g.1 (omega arith)).size,
        )

    pub save_done : (n ≡ 0 → ⊥) → n * 3 ≤ length lent → length (saved_at M w 0) ≡ n → (next : ℕ) (left : List ℕ)
        → WroteRoutes (saved_at M w 0) 0 next lent left → outcome (accepted n) left ≡ save_into w capacity M n lent
    unfolding save_into
    save_done ne h size next left wrote =
        let rs : List Route = saved_at M w 0 in
        let e : sets lent 0 (words_of rs) ≡ over (words_of rs) lent =
        sets-eq (words_of rs) lent 0 (omega (arith, length_words rs)) ∙ ap (λ (k : ℕ). words_of rs ++ drop k lent) (zero-add (length (words_of rs))) in
        rw (good, le-leb (n * 3) (length lent) h, ne_eqb n 0 ne) (ap (outcome (accepted n)) (wrote.words ∙ e))
