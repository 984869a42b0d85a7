-- Rows that the walk finds not wrong hold a trie, and each row reached is below n. Assumes nothing.
use mathlib.Core.Path.{◌≡◌, refl, sym, ap, ◌∙◌}
use mathlib.Core.Logic.{◌⊎◌, inl, inr}
use mathlib.Core.Bool.{Bool, true, false, cond, not, ◌||◌, true≢false}
use mathlib.Core.List.{[], ◌∷◌, ◌++◌}
use Prim.Native.Nat.{ℕ, zero, suc, ◌+◌, ◌-◌, ◌<◌}
use native.Mathlib.Omega.{arith}
use lib.Dec.{eqb}
use lib.ListN.{length, drop, length-append}
use borrow.Author.Tests.{eqb-true, eqb-false, not-false}
use Rattle.bits.specs.Bits.{Bits}
use Rattle.lists.proofs.Tests.{way, neither}
use Rattle.trie.specs.Trie.{Trie, leaf, node}
use Rattle.table_rules.specs.Rows.{Mem, child, row_bits}
use Rattle.table_rules.specs.Holds.{Names, Holds}
use Rattle.table_rules.specs.Lookup.{wrong_row}
use Rattle.table_rules.specs.Check.{no_rows, wrong_rows, path_on, seen_at}
use Rattle.table_rules.specs.Check.{Seen}
use Rattle.table_rules.proofs.Holds.{Below}
use Rattle.table_rules.specs.Walk.{last_seen, seen_below}
use Rattle.table_rules.proofs.Right.{Right, right}
use Rattle.table_rules.proofs.Reach.{Way, way_reached}
use Rattle.table_rules.proofs.Place.{path_first, path_on_lem, right_valid, right_bits}
use Rattle.table_rules.proofs.Walk.{beyond, seen_at_by}

-- what is not wrong under a test
not_wrong_of : (b : Bool) (o : Seen) → (cond b wrong_rows o).wrong ≡ false → (b ≡ false) × (o.wrong ≡ false)
not_wrong_of true o e = absurd (true≢false e)
not_wrong_of false o e = (refl, e)

module _ (w : ℕ) (M : Mem) (n : ℕ) where
  -- the child word c names a trie, or none
  pub record Sub (path : Bits) (c : ℕ) : Type 0 where
    pub trie : Trie
    pub names : Names c trie
    pub holds : Holds w M path c trie
    pub low : Below M c trie n

  -- row r holds a node
  pub record Root (path : Bits) (r : ℕ) : Type 0 where
    pub bits : Bits
    pub port : ℕ
    pub sides : Bool → Trie
    pub holds : Holds w M path r (node bits port sides)
    pub low : Below M r (node bits port sides) n

  sub_none : (path : Bits) (c : ℕ) → c ≡ 0 → Sub path c
  sub_none path c z = record { trie = leaf; names = z; holds = tt; low = λ i h. absurd (omega arith) }

  sub_root : (path : Bits) (c : ℕ) → (c ≡ 0 → ⊥) → Root path c → Sub path c
  sub_root path c ne r = record {
    trie = node r.bits r.port r.sides;
    names = omega arith;
    holds = r.holds;
    low = r.low;
  }

  module _ (path : Bits) (k r : ℕ) (deep : length path + k ≡ w) (lt : r < n) where
    -- a row that is not wrong, over its two sides
    root_of_lem : Right w (M r) n (path_first path k) (length path) → ((b : Bool) → Sub (path ++ (b ∷ [])) (child (M r) b)) → Root path r
    root_of_lem ok sub = record {
      bits = drop (length path) (row_bits w (M r));
      port = (M r).port;
      sides = λ b. (sub b).trie;
      holds = record {
        valid = right_valid w path k deep (M r) n ok;
        bits = right_bits w path k deep (M r) n ok;
        port = refl;
        below = λ b. ((sub b).names, (sub b).holds);
      };
      low = λ i h. go i (way_reached w M r (drop (length path) (row_bits w (M r))) (M r).port (λ b. (sub b).trie) i h);
    }
      where
        go : (i : ℕ) → Way w M r (λ b. (sub b).trie) i → i < n
        go i (inl e) = omega arith
        go i (inr x) = (sub x.0).low i x.1

    parts : (seen_at w M n k (path_first path k) r).wrong ≡ false
        → Right w (M r) n (path_first path k) (length path) × ((beyond w M n k (path_first path k) r).wrong ≡ false)
    parts e =
        let d : w - k ≡ length path = omega arith in
        let p = not_wrong_of (wrong_row w (M r) n (path_first path k) (w - k)) (beyond w M n k (path_first path k) r)
        (ap (λ (o : Seen). o.wrong) (sym (seen_at_by w M n k (path_first path k) r)) ∙ e) in
        (right w (M r) n (path_first path k) (length path) (ap (wrong_row w (M r) n (path_first path k)) (sym d) ∙ p.0), p.1)

  -- a row at the full depth has no children
  last_none : (r : ℕ) → (last_seen (M r)).wrong ≡ false → (b : Bool) → child (M r) b ≡ 0
  last_none r e b = go b (neither (not (eqb (M r).left 0)) (not (eqb (M r).right 0)) (not_wrong_of (not (eqb (M r).left 0) || not (eqb (M r).right 0)) _ e).0)
    where
      go : (b : Bool) → (not (eqb (M r).left 0) ≡ false) × (not (eqb (M r).right 0) ≡ false) → child (M r) b ≡ 0
      go false p = eqb-true (M r).left 0 (not-false (eqb (M r).left 0) p.0)
      go true p = eqb-true (M r).right 0 (not-false (eqb (M r).right 0) p.1)

  -- neither side of a row that is joined is wrong
  sides_fine : (k v r : ℕ) → (beyond w M n (suc k) v r).wrong ≡ false → (b : Bool) → (seen_below w M n k (path_on v k b) (child (M r) b)).wrong ≡ false
  sides_fine k v r e b =
      go b (neither (seen_below w M n k (path_on v k false) (M r).left).wrong (seen_below w M n k (path_on v k true) (M r).right).wrong (not_wrong_of _ _ e).0)
    where
      go : (b : Bool)
          → ((seen_below w M n k (path_on v k false) (M r).left).wrong ≡ false) × ((seen_below w M n k (path_on v k true) (M r).right).wrong ≡ false)
          → (seen_below w M n k (path_on v k b) (child (M r) b)).wrong ≡ false
      go false p = p.0
      go true p = p.1

  abbrev Builds : ℕ → Type 0
  Builds k =
      (path : Bits) (r : ℕ) → length path + k ≡ w → r < n → (seen_at w M n k (path_first path k) r).wrong ≡ false → Root path r

  sub_of : (k : ℕ) → Builds k → (path : Bits) (c v : ℕ) → length path + k ≡ w → c < n → v ≡ path_first path k → (seen_below w M n k v c).wrong ≡ false → Sub path c
  sub_of k ih path c v deep lt is e = go (way (eqb c 0))
    where
      go : (eqb c 0 ≡ true) ⊎ (eqb c 0 ≡ false) → Sub path c
      go (inl t) = sub_none path c (eqb-true c 0 t)
      go (inr t) =
          sub_root path c (eqb-false c 0 t)
          (ih path c deep lt
          (ap (λ (a : ℕ). (seen_at w M n k a c).wrong) (sym is) ∙ sym (ap (λ (b : Bool). (cond b no_rows (seen_at w M n k v c)).wrong) t) ∙ e))

  pub built : (k : ℕ) → Builds k
  built zero path r deep lt e =
      let p = parts path 0 r deep lt e in
      root_of_lem path 0 r deep lt p.0 (λ b. sub_none (path ++ (b ∷ [])) (child (M r) b) (last_none r p.1 b))
  built (suc k) path r deep lt e = more (built k) (parts path (suc k) r deep lt e)
    where
      more : Builds k → Right w (M r) n (path_first path (suc k)) (length path) × ((beyond w M n (suc k) (path_first path (suc k)) r).wrong ≡ false) → Root path r
      more ih p =
          root_of_lem path (suc k) r deep lt p.0
          (λ b.
          sub_of k ih (path ++ (b ∷ [])) (child (M r) b) (path_on (path_first path (suc k)) k b) (omega (arith, length-append path (b ∷ [])))
          (below b) (path_on_lem path k b) (sides_fine k (path_first path (suc k)) r p.1 b))
        where
          below : (b : Bool) → child (M r) b < n
          below false = p.0.left_lt
          below true = p.0.right_lt
