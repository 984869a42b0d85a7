-- The search on rows that hold a trie is the lookup on that trie. Assumes nothing.
use mathlib.Core.Path.{◌≡◌, refl, sym, ap, ap₂, ◌∙◌}
use mathlib.Core.Bool.{Bool, true, false, cond, ◌&&◌}
use mathlib.Core.List.{[], ◌∷◌, ◌++◌, append_assoc}
use Prim.Native.Nat.{ℕ, zero, suc, ◌+◌, ◌-◌, ◌%◌, ◌^◌, ◌<◌, ◌≤◌}
use native.Mathlib.Omega.{arith}
use native.Mathlib.Nat.{add-zero, zero-add, mod-one}
use lib.Dec.{eqb, ltb}
use lib.ListN.{length, length-append}
use lib.Seq.{take_all}
use borrow.Author.Tests.{eq-eqb, ne_eqb, lt-ltb, le-ltb, le-leb, lt-leb}
use Rattle.bits.specs.Bits.{Bits, bits, begins, bit_before}
use Rattle.bits.specs.Prefix.{head}
use Rattle.bits.proofs.Bits.{bit_at, length_bits}
use Rattle.trie.specs.Routes.{Routes}
use Rattle.trie.specs.Scan.{scan}
use Rattle.trie.specs.Trie.{Trie, leaf, node, IsTrie, is_priority, better, ends, port, reads}
use Rattle.trie.proofs.Lookup.{port_is_scan}
use Rattle.table_rules.specs.Rows.{Mem, child}
use Rattle.table_rules.specs.Holds.{Names, Holds, times}
use Rattle.table_rules.specs.Lookup.{wrong_row, row_matches, ends_at, better_of, visit, onward, walk, lookup_in}
use Rattle.refusals.specs.Refusals.{found, lost, not_in_order}
use Rattle.table_rules.specs.Theorems.{LookupIsScan, ReadsLe}
use Rattle.table_rules.specs.declared.Row.{Row}
use Rattle.refusals.specs.declared.found.Found.{Found}
use Rattle.table_rules.proofs.Paths.{At, at_len, head_path, at_priority, at_matches}
use Rattle.table_rules.proofs.Holds.{hit_same, row_at, child_lt, Below, below_child, below_once}
use Rattle.table_rules.proofs.Closed.{by_cond}

-- a row that is not wrong, by its tests
visit_on : (w : ℕ) (x : Row) (n a depth best rd : ℕ) (on : ℕ → Found) (m p : Bool) → wrong_row w x n a depth ≡ false
    → row_matches w x a ≡ m → ltb depth x.len ≡ p
    → visit w x n a depth best rd on ≡ cond (m && p) (found x.port rd) (on (cond m x.port best))
visit_on w x n a depth best rd on m p wrong em ep = rw (wrong, em, ep)

module _ (w : ℕ) (M : Mem) (n a : ℕ) (fits : a < 2 ^ w) where
  abbrev answer : Trie → Bits → ℕ → ℕ → Found
  answer t rest best rd = found (port t rest best) (rd + reads t rest)

  -- what is known at a row on the way
  module _ (path : Bits) (r : ℕ) (s : Bits) (p : ℕ) (c : Bool → Trie) (rest : Bits)
      (is : bits w a ≡ path ++ rest) (h : Holds w M path r (node s p c)) (low : Below M r (node s p c) n) where
    here : At w path (M r).value (M r).len s
    here = row_at w M path r s p c h

    deep : length path + length rest ≡ w
    deep = sym (length-append path rest) ∙ ap length (sym is) ∙ length_bits w a

    address_at : At w path a w rest
    address_at = record {
      valid = record { fits = fits; short = omega arith; zeros = ap (λ (k : ℕ). a % 2 ^ k) z ∙ mod-one a };
      is = take_all w (bits w a) (omega (arith, length_bits w a)) ∙ is;
    }
      where
        z : w - w ≡ 0
        z = omega arith

    fine : wrong_row w (M r) n a (length path) ≡ false
    fine =
        let v = h.valid in
        let same : head w (length path) (M r).value ≡ head w (length path) a =
        head_path w path (M r).value (M r).len s here ∙ sym (head_path w path a w rest address_at) in
        rw (
          lt-leb n (M r).left (child_lt w M path r s p c n h low false),
          lt-leb n (M r).right (child_lt w M path r s p c n h low true),
          le-ltb w (M r).len v.prefix.short,
          le-ltb (M r).len (length path) (omega (arith, at_len w path (M r).value (M r).len s here)),
          eq-eqb _ 0 v.prefix.zeros,
          lt-ltb 0 (M r).port v.some,
          le-leb (M r).port _ v.most,
          eq-eqb (head w (length path) (M r).value) (head w (length path) a) same,
        )

    visited : (best rd : ℕ) (on : ℕ → Found)
        → visit w (M r) n a (length path) best rd on ≡ cond (ends s rest) (found p rd) (on (better s p rest best))
    visited best rd on =
        visit_on w (M r) n a (length path) best rd on (begins s rest) (is_priority s) fine
        (at_matches w path (M r).value (M r).len a s rest here fits is)
        (sym (at_priority w path (M r).value (M r).len s here))
        ∙ ap (λ (q : ℕ). cond (ends s rest) (found q rd) (on (better s q rest best))) h.port

  -- no bit left
  last_row : (s : Bits) (p best rd : ℕ) → cond (ends s []) (found p rd) (found (better s p [] best) rd) ≡ found (better s p [] best) rd
  last_row [] p best rd = refl
  last_row (b ∷ s) p best rd = refl

  -- a step of both, where the rest agrees
  joined : (e : Bool) (p rd R : ℕ) (P : ℕ → ℕ) (b : ℕ) (on : ℕ → Found) → on b ≡ found (P b) (rd + 1 + R)
      → cond e (found p (rd + 1)) (on b) ≡ found (cond e p (P b)) (rd + cond e 1 (1 + R))
  joined true p rd R P b on h = refl
  joined false p rd R P b on h = h ∙ ap (found (P b)) (let z : rd + 1 + R ≡ rd + (1 + R) = omega arith in z)

  abbrev WalkIs : Trie → Type 0
  WalkIs leaf = Unit {0}
  WalkIs (node s p c) =
      (path rest : Bits) (k r best rd : ℕ) → bits w a ≡ path ++ rest → length rest ≡ k → Holds w M path r (node s p c)
      → Below M r (node s p c) n → walk w M n a k r best rd ≡ answer (node s p c) rest best rd

  -- on to a child
  to_child : (t : Trie) → WalkIs t → (path rest : Bits) (k c best rd : ℕ) → bits w a ≡ path ++ rest → length rest ≡ k
      → Names c t → Holds w M path c t → Below M c t n
      → onward c best rd (walk w M n a k c best rd) ≡ answer t rest best rd
  to_child leaf ih path rest k c best rd is len names h low =
      ap (λ (b : Bool). cond b (found best rd) (walk w M n a k c best rd)) (eq-eqb c 0 names)
      ∙ ap (found best) (sym (add-zero rd))
  to_child (node s p d) ih path rest k c best rd is len names h low =
      ap (λ (b : Bool). cond b (found best rd) (walk w M n a k c best rd)) (ne_eqb c 0 (λ z. omega arith))
      ∙ ih path rest k c best rd is len h low

  walk_node : (s : Bits) (p : ℕ) (c : Bool → Trie) → ((b : Bool) → WalkIs (c b)) → WalkIs (node s p c)
  unfolding walk
  walk_node s p c ih path [] zero r best rd is len h low =
      ap (λ (d : ℕ). visit w (M r) n a d best (rd + 1) (λ b. found b (rd + 1))) (sym (omega (arith, deep path r s p c [] is h low)))
      ∙ visited path r s p c [] is h low best (rd + 1) (λ b. found b (rd + 1))
      ∙ last_row s p best (rd + 1)
  walk_node s p c ih path [] (suc k) r best rd is len h low = absurd (omega arith)
  walk_node s p c ih path (b ∷ rest) zero r best rd is len h low = absurd (omega arith)
  walk_node s p c ih path (b ∷ rest) (suc k) r best rd is len h low =
      let e : length path + suc (length rest) ≡ w = deep path r s p c (b ∷ rest) is h low in
      let d : w - suc k ≡ length path = omega arith in
      let bit : bit_before a k ≡ b =
      bit_at path w k w a b rest (take_all w (bits w a) (omega (arith, length_bits w a)) ∙ is) (omega arith) in
      let next : bits w a ≡ path ++ (b ∷ []) ++ rest = is ∙ sym (append_assoc path (b ∷ []) rest) in
      let step : ((best' : ℕ) → onward (child (M r) (bit_before a k)) best' (rd + 1) (walk w M n a k (child (M r) (bit_before a k)) best' (rd + 1)) ≡ answer (c b) rest best' (rd + 1)) =
      (λ best'.
      ap (λ (x : Bool). onward (child (M r) x) best' (rd + 1) (walk w M n a k (child (M r) x) best' (rd + 1))) bit
      ∙ to_child (c b) (ih b) (path ++ (b ∷ [])) rest k (child (M r) b) best' (rd + 1) next (omega arith) (h.below b).0 (h.below b).1
      (below_child M r s p c n b low)) in
      ap (λ (x : ℕ). visit w (M r) n a x best (rd + 1) (λ q. onward (child (M r) (bit_before a k)) q (rd + 1) (walk w M n a k (child (M r) (bit_before a k)) q (rd + 1)))) d
      ∙ visited path r s p c (b ∷ rest) is h low best (rd + 1) (λ q. onward (child (M r) (bit_before a k)) q (rd + 1) (walk w M n a k (child (M r) (bit_before a k)) q (rd + 1)))
      ∙ joined (ends s (b ∷ rest)) p rd (reads (c b) rest) (port (c b) rest) (better s p (b ∷ rest) best)
      (λ q. onward (child (M r) (bit_before a k)) q (rd + 1) (walk w M n a k (child (M r) (bit_before a k)) q (rd + 1)))
      (step (better s p (b ∷ rest) best))

  walk_is : (t : Trie) → WalkIs t
  walk_is leaf = tt
  walk_is (node s p c) = walk_node s p c (λ b. walk_is (c b))

-- a table of no routes holds no trie, any other one a node
module _ (w capacity : ℕ) (M : Mem) (n a : ℕ) (S : Routes) (fits : a < 2 ^ w) (few : n ≤ capacity) where
  abbrev Answers : Trie → Type 0
  Answers t = IsTrie t S → Holds w M [] 0 t → ((i : ℕ) → times M 0 t i ≡ cond (ltb i n) 1 0)
      → lookup_in w capacity M n a ≡ found (scan S (bits w a)) (reads t (bits w a))

  answers_leaf : Answers leaf
  unfolding lookup_in
  answers_leaf rule holds once =
      let none : (0 < n → ⊥) = (λ h. omega (arith, once 0 ∙ ap (λ (b : Bool). cond b 1 0) (lt-ltb 0 n h))) in
      let z : n ≡ 0 = omega arith in
      rw (le-ltb capacity n few, eq-eqb n 0 z) (ap (λ (p : ℕ). found p 0) (port_is_scan leaf S (bits w a) rule))

  answers_node : (s : Bits) (p : ℕ) (c : Bool → Trie) → Answers (node s p c)
  unfolding lookup_in
  answers_node s p c rule holds once =
      let some : (n ≡ 0 → ⊥) = (λ z. omega (arith, hit_same 0, once 0 ∙ ap (λ (b : Bool). cond b 1 0) (le-ltb 0 n (omega arith)))) in
      rw (le-ltb capacity n few, ne_eqb n 0 some)
      (walk_is w M n a fits (node s p c) [] (bits w a) w 0 0 0 refl (length_bits w a) holds (below_once M (node s p c) n once)
      ∙ ap₂ found (port_is_scan (node s p c) S (bits w a) rule) (zero-add (reads (node s p c) (bits w a))))

  answers : (t : Trie) → Answers t
  answers leaf = answers_leaf
  answers (node s p c) = answers_node s p c

pub lookup_is_scan : LookupIsScan
lookup_is_scan w capacity M n a S good fits =
    answers w capacity M n a S fits good.few good.placed.trie good.placed.rule good.placed.holds good.placed.once

-- at most one row more than the bits that are left

visit_reads : (w : ℕ) (x : Row) (n a depth best rd most : ℕ) (on : ℕ → Found) → rd ≤ most → ((b : ℕ) → (on b).reads ≤ most)
    → (visit w x n a depth best rd on).reads ≤ most
visit_reads w x n a depth best rd most on h k =
    by_cond Few (wrong_row w x n a depth) _ _ (λ e. omega (arith, h))
    (λ e. by_cond Few (ends_at w x a depth) _ _ (λ f. h) (λ f. k (better_of w x a best)))
  where
    Few : Found → Type 0
    Few f = f.reads ≤ most

walk_reads : (w : ℕ) (M : Mem) (n a k r best rd : ℕ) → (walk w M n a k r best rd).reads ≤ rd + 1 + k
unfolding walk
walk_reads w M n a zero r best rd = visit_reads w (M r) n a w best (rd + 1) (rd + 1 + 0) (λ b. found b (rd + 1)) (omega arith) (λ b. omega arith)
walk_reads w M n a (suc k) r best rd =
    let c : ℕ = child (M r) (bit_before a k) in
    visit_reads w (M r) n a (w - suc k) best (rd + 1) (rd + 1 + suc k)
    (λ b. onward c b (rd + 1) (walk w M n a k c b (rd + 1))) (omega arith)
    (λ b. next c b (walk w M n a k c b (rd + 1)) (walk_reads w M n a k c b (rd + 1)))
  where
    next : (c b : ℕ) (f : Found) → f.reads ≤ rd + 1 + 1 + k → (onward c b (rd + 1) f).reads ≤ rd + 1 + suc k
    next c b f h = go (eqb c 0)
      where
        go : (e : Bool) → (cond e (found b (rd + 1)) f).reads ≤ rd + 1 + suc k
        go true = omega arith
        go false = omega arith

pub reads_le : ReadsLe
unfolding lookup_in
reads_le w capacity M n a = go (ltb capacity n) (eqb n 0)
  where
    go : (b e : Bool) → (cond b (lost not_in_order 0) (cond e (found 0 0) (walk w M n a w 0 0 0))).reads ≤ w + 1
    go true e = omega arith
    go false true = omega arith
    go false false = omega (arith, walk_reads w M n a w 0 0 0)
