-- The check answers yes exactly where the table is in good order, and a table in good order is so for one set of routes:
-- RULES, "Good order". Assumes nothing.
use mathlib.Core.Path.{◌≡◌, refl, sym, ap, ◌∙◌, subst, fun_ext}
use mathlib.Core.Logic.{◌⊎◌, inl, inr, ⊎_elim}
use mathlib.Core.Bool.{Bool, true, false, cond, not, true≢false}
use mathlib.Core.List.{[]}
use Prim.Native.Nat.{ℕ, ◌<◌, ◌≤◌}
use native.Mathlib.Omega.{arith}
use native.Mathlib.Nat.{zero-mul, zero-add}
use lib.Dec.{eqb, ltb}
use borrow.Author.Tests.{eq-eqb, eqb-true, eqb-false, lt-ltb, le-ltb, ltb-true, ltb-false, not-true}
use Rattle.bits.specs.Bits.{Bits}
use Rattle.lists.proofs.Tests.{way, both}
use Rattle.trie.specs.Routes.{Routes, no_routes}
use Rattle.trie.specs.Trie.{Trie, leaf, node, IsTrie}
use Rattle.trie.proofs.Routes.{none_or_some}
use Rattle.table_rules.specs.Rows.{Mem}
use Rattle.table_rules.specs.Holds.{Holds, times, Placed, HeldIn, GoodFor, GoodOrder}
use Rattle.table_rules.specs.Check.{seen_at, is_good}
use Rattle.table_rules.specs.Theorems.{CheckIsGood, GoodUnique}
use Rattle.table_rules.specs.Check.{Seen}
use Rattle.table_rules.proofs.Holds.{Below, below_once}
use Rattle.table_rules.specs.SetOf.{set_of}
use Rattle.table_rules.proofs.Ordered.{ordered, ordered→rule, rule→ordered}
use Rattle.lists.proofs.Sum.{sum_ones, sum_full}
use Rattle.table_rules.proofs.Reach.{reached, reached_once, reached_same, reached_all, size, sum_times}
use Rattle.table_rules.proofs.Place.{path_first}
use Rattle.table_rules.proofs.CheckWalk.{SeenAs, seen_is}
use Rattle.table_rules.proofs.GoodParts.{Root, built}

-- each row below n once, and no other
module _ (M : Mem) (n : ℕ) (t : Trie) (once : (i : ℕ) → times M 0 t i ≡ cond (ltb i n) 1 0) where
  pub once_in : (i : ℕ) → i < n → times M 0 t i ≡ 1
  once_in i h = once i ∙ ap (λ (b : Bool). cond b 1 0) (lt-ltb i n h)

  -- so there are as many nodes as rows
  pub once_size : size t ≡ n
  once_size = sym (sum_times M n t 0 (below_once M t n once)) ∙ sum_ones (times M 0 t) n once_in

-- the routes of a table are those of its trie's set
pub placed→held : (w : ℕ) (M : Mem) (n : ℕ) (S : Routes) → Placed w M n S → HeldIn w M n S
placed→held w M n S p = record {
  valid = λ i h. (reached w M t [] S 0 i p.holds p.rule (in_t i h)).valid;
  different = λ i j h l e. reached_same w M t [] S 0 i j p.holds p.rule (in_t i h) (in_t j l) e;
  here = λ i h.
      let r = reached w M t [] S 0 i p.holds p.rule (in_t i h) in ap S r.is ∙ r.port;
  only = λ q h.
      let a = reached_all w M t [] S 0 q p.holds p.rule h in
      (a.0, below_once M t n p.once a.0 a.1, a.2);
}
  where
    t : Trie
    t = p.trie

    in_t : (i : ℕ) → i < n → 0 < times M 0 t i
    in_t i h = omega (arith, once_in M n t p.once i h)

-- a table of no rows
good_none : (w capacity : ℕ) (M : Mem) (n : ℕ) → n ≡ 0 → n ≤ capacity → GoodFor w capacity M n no_routes
good_none w capacity M n z few = record {
  few = few;
  routes = placed→held w M n no_routes placed;
  placed = placed;
}
  where
    placed : Placed w M n no_routes
    placed = record {
      trie = leaf;
      rule = λ q. refl;
      holds = tt;
      once = λ i. sym (ap (λ (b : Bool). cond b 1 0) (le-ltb i n (omega arith)));
    }

-- what the walk from the root finds
module _ (w : ℕ) (M : Mem) (n : ℕ) where
  root_first : seen_at w M n w (path_first [] w) 0 ≡ seen_at w M n w 0 0
  root_first = ap (λ (v : ℕ). seen_at w M n w v 0) (zero-mul _)

  seen_root : (s : Bits) (p : ℕ) (c : Bool → Trie) → Holds w M [] 0 (node s p c) → Below M 0 (node s p c) n
      → SeenAs w [] (node s p c) (seen_at w M n w 0 0)
  seen_root s p c h low = subst (SeenAs w [] (node s p c)) root_first (seen_is w M n (node s p c) [] w 0 (zero-add w) h low)

  -- not wrong, and n rows: they hold the trie of the set that it holds, each row once
  placed_of : 0 < n → (seen_at w M n w 0 0).wrong ≡ false → (seen_at w M n w 0 0).rows ≡ n → (S : Routes) × Placed w M n S
  placed_of pos fine rows = go (seen_root r.bits r.port r.sides r.holds r.low)
    where
      r : Root w M n [] 0
      r = built w M n w [] 0 (zero-add w) pos (ap (λ (o : Seen). o.wrong) root_first ∙ fine)

      t : Trie
      t = node r.bits r.port r.sides

      once : IsTrie t (set_of t) → size t ≡ n → (i : ℕ) → times M 0 t i ≡ cond (ltb i n) 1 0
      once rule full i = by (way (ltb i n))
        where
          by : (ltb i n ≡ true) ⊎ (ltb i n ≡ false) → times M 0 t i ≡ cond (ltb i n) 1 0
          by (inl e) =
              sum_full (times M 0 t) n (λ j l. reached_once w M t [] (set_of t) 0 j r.holds rule) (sum_times M n t 0 r.low ∙ full) i (ltb-true i n e)
              ∙ sym (ap (λ (b : Bool). cond b 1 0) e)
          by (inr e) =
              ⊎_elim
              (λ (z : times M 0 t i ≡ 0). z ∙ sym (ap (λ (b : Bool). cond b 1 0) e))
              (λ (l : 0 < times M 0 t i). absurd (omega (arith, r.low i l, ltb-false i n e)))
              (none_or_some (times M 0 t i))

      go : SeenAs w [] t (seen_at w M n w 0 0) → (S : Routes) × Placed w M n S
      go (inl a) =
          let rule = ordered→rule t a.sound in
          (set_of t, record { trie = t; rule = rule; holds = r.holds; once = once rule (sym a.rows ∙ rows) })
      go (inr a) = absurd (true≢false (sym a.0 ∙ fine))

  -- and back
  seen_of : (t : Trie) (S : Routes) → IsTrie t S → Holds w M [] 0 t → ((i : ℕ) → times M 0 t i ≡ cond (ltb i n) 1 0)
      → (n ≡ 0) ⊎ (((seen_at w M n w 0 0).wrong ≡ false) × ((seen_at w M n w 0 0).rows ≡ n))
  seen_of leaf S rule holds once =
      let none : (0 < n → ⊥) = (λ h. omega (arith, once_in M n leaf once 0 h)) in inl (omega arith)
  seen_of (node s p c) S rule holds once = inr (go (seen_root s p c holds (below_once M (node s p c) n once)))
    where
      go : SeenAs w [] (node s p c) (seen_at w M n w 0 0) → ((seen_at w M n w 0 0).wrong ≡ false) × ((seen_at w M n w 0 0).rows ≡ n)
      go (inl a) = (a.fine, a.rows ∙ once_size M n (node s p c) once)
      go (inr a) = absurd (true≢false (sym (rule→ordered (node s p c) S rule) ∙ a.1))

check→good : (w capacity : ℕ) (M : Mem) (n : ℕ) → is_good w capacity M n ≡ true → GoodOrder w capacity M n
unfolding is_good
check→good w capacity M n e = go (way (ltb capacity n)) (way (eqb n 0))
  where
    full : n ≤ capacity → (n ≡ 0 → ⊥) → (S : Routes) × Placed w M n S → GoodOrder w capacity M n
    full few ne p = (p.0, record { few = few; routes = placed→held w M n p.0 p.1; placed = p.1 })

    go : (ltb capacity n ≡ true) ⊎ (ltb capacity n ≡ false) → (eqb n 0 ≡ true) ⊎ (eqb n 0 ≡ false) → GoodOrder w capacity M n
    go (inl t) u = absurd (true≢false (sym (rw t at e)))
    go (inr t) (inl u) = (no_routes, good_none w capacity M n (eqb-true n 0 u) (ltb-false capacity n t))
    go (inr t) (inr u) =
        let ne : (n ≡ 0 → ⊥) = eqb-false n 0 u in
        let s : Seen = seen_at w M n w 0 0 in
        let b = both (not s.wrong) (eqb s.rows n) (rw (t, u) at e) in
        full (ltb-false capacity n t) ne (placed_of w M n (omega arith) (not-true s.wrong b.0) (eqb-true s.rows n b.1))

good→check : (w capacity : ℕ) (M : Mem) (n : ℕ) → GoodOrder w capacity M n → is_good w capacity M n ≡ true
unfolding is_good
good→check w capacity M n g = go (way (eqb n 0)) (seen_of w M n p.trie g.0 p.rule p.holds p.once)
  where
    p : Placed w M n g.0
    p = g.1.placed

    go : (eqb n 0 ≡ true) ⊎ (eqb n 0 ≡ false) → (n ≡ 0) ⊎ (((seen_at w M n w 0 0).wrong ≡ false) × ((seen_at w M n w 0 0).rows ≡ n))
        → is_good w capacity M n ≡ true
    go (inl u) x = rw (le-ltb capacity n g.1.few, u)
    go (inr u) (inl z) = absurd (eqb-false n 0 u z)
    go (inr u) (inr x) = rw (le-ltb capacity n g.1.few, u, x.0, eq-eqb (seen_at w M n w 0 0).rows n x.1)

pub check_is_good : CheckIsGood
check_is_good w capacity M n = (check→good w capacity M n, good→check w capacity M n)

pub good_unique : GoodUnique
good_unique w capacity M n S T g h = fun_ext (λ q. go q (none_or_some (S q)) (none_or_some (T q)))
  where
    -- what one has, the other has
    same : (S T : Routes) → HeldIn w M n S → HeldIn w M n T → (q : Bits) → 0 < S q → S q ≡ T q
    same S T g h q k =
        let a = g.only q k in
        ap S (sym a.2) ∙ g.here a.0 a.1 ∙ sym (h.here a.0 a.1) ∙ ap T a.2

    go : (q : Bits) → (S q ≡ 0) ⊎ (0 < S q) → (T q ≡ 0) ⊎ (0 < T q) → S q ≡ T q
    go q (inr k) y = same S T g.routes h.routes q k
    go q (inl x) (inr k) = sym (same T S h.routes g.routes q k)
    go q (inl x) (inl y) = x ∙ sym y
