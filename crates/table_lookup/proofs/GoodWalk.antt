-- The walk of the check as the code takes it: one row at its path, the halves of the path, and how many rows a walk can see.
-- Assumes nothing.
use mathlib.Core.Path.{◌≡◌, refl, sym, ap, ap₂, ◌∙◌}
use mathlib.Core.Bool.{Bool, true, false, cond, not, ◌&&◌, ◌||◌}
use Prim.Native.Nat.{ℕ, zero, suc, ◌+◌, ◌-◌, ◌*◌, ◌^◌, ◌<◌, ◌≤◌}
use native.Mathlib.Omega.{arith}
use native.Mathlib.Nat.{pow-suc}
use lib.Dec.{eqb, ltb}
use lib.Pow.{pow_mono, pow_pos}
use borrow.Author.Tests.{eq-eqb, ne_eqb, lt-ltb, le-ltb}
use Rattle.bits.specs.Prefix.{Valid, first, middle, ahead_of}
use Rattle.bits.proofs.Prefix.{first_valid, halves}
use Rattle.prefix.specs.Prefixes.{prefix, left_half, right_half}
use Rattle.prefix.specs.declared.Prefix.{Prefix}
use Rattle.table_rules.specs.Rows.{Mem, child}
use Rattle.table_rules.specs.Lookup.{wrong_row}
use Rattle.table_rules.specs.Check.{seen, no_rows, wrong_rows, first_seen, seen_join, path_on, seen_at, is_good}
use Rattle.table_rules.specs.declared.Row.{Row}
use Rattle.table_rules.specs.Check.{Seen}
use Rattle.table_rules.specs.Walk.{last_seen, seen_below}
use Rattle.table_rules.proofs.Walk.{beyond, seen_at_by}

-- the half of a path on a side
abbrev pub half_on : ℕ → Bool → Prefix → Prefix
half_on w b p = cond b (right_half w p) (left_half w p)

module _ (w : ℕ) (p : Prefix) (more : p.len < w) (ok : Valid w p.value p.len) where
  -- it is the path that the definition goes on with
  half_path : (b : Bool) → half_on w b p ≡ prefix (path_on p.value (w - (p.len + 1)) b) (p.len + 1)
  half_path false =
      let e : first w p.value p.len ≡ p.value + 0 * 2 ^ (w - (p.len + 1)) = omega (arith, first_valid w p.value p.len ok) in
      rw (lt-ltb p.len w more) (ap (λ (v : ℕ). prefix v (p.len + 1)) e)
  half_path true =
      let e : middle w p.value p.len ≡ p.value + 1 * 2 ^ (w - (p.len + 1)) = omega (arith, first_valid w p.value p.len ok) in
      rw (lt-ltb p.len w more) (ap (λ (v : ℕ). prefix v (p.len + 1)) e)

  -- and a valid prefix
  pub half_valid : (b : Bool) (h : Prefix) → h ≡ half_on w b p → Valid w h.value h.len
  half_valid false h e = rw (e, lt-ltb p.len w more) (halves w p.value p.len more ok.fits).left_valid
  half_valid true h e = rw (e, lt-ltb p.len w more) (halves w p.value p.len more ok.fits).right_valid

  pub half_len : (b : Bool) (h : Prefix) → h ≡ half_on w b p → h.len ≡ p.len + 1
  half_len b h e = ap (λ (q : Prefix). q.len) (e ∙ half_path b)

  pub below_half : (M : Mem) (n c : ℕ) (b : Bool) (h : Prefix) → h ≡ half_on w b p
      → seen_below w M n (w - h.len) h.value c
      ≡ seen_below w M n (w - (p.len + 1)) (path_on p.value (w - (p.len + 1)) b) c
  below_half M n c b h e = ap (λ (q : Prefix). seen_below w M n (w - q.len) q.value c) (e ∙ half_path b)

module _ (w : ℕ) (M : Mem) (n : ℕ) where
  beyond_last : (k v r : ℕ) → k ≡ 0 → beyond w M n k v r ≡ last_seen (M r)
  beyond_last zero v r z = refl
  beyond_last (suc k) v r z = absurd (omega arith)

  beyond_more : (k v r : ℕ) → 0 < k
      → beyond w M n k v r
      ≡ seen_join (M r) (w - k) (seen_below w M n (k - 1) (path_on v (k - 1) false) (M r).left)
      (seen_below w M n (k - 1) (path_on v (k - 1) true) (M r).right)
  beyond_more zero v r h = absurd (omega arith)
  beyond_more (suc k) v r h = let e : suc k - 1 ≡ k = omega arith in rw e

-- The code's values: p is the path, x row r, b the answer of `is_wrong`.
module _ (w : ℕ) (M : Mem) (n : ℕ) (p : Prefix) (r : ℕ) (ok : Valid w p.value p.len) (x : Row) (is : x ≡ M r)
    (b : Bool) (eb : b ≡ wrong_row w x n p.value p.len) where
  whole : seen_at w M n (w - p.len) p.value r ≡ cond b wrong_rows (beyond w M n (w - p.len) p.value r)
  whole =
      let d : w - (w - p.len) ≡ p.len = omega (arith, ok.short) in
      seen_at_by w M n (w - p.len) p.value r
      ∙ ap (λ (t : Bool). cond t wrong_rows (beyond w M n (w - p.len) p.value r))
      (ap₂ (λ (y : Row) (d : ℕ). wrong_row w y n p.value d) (sym is) d ∙ sym eb)

  pub to_wrong : b ≡ true → wrong_rows ≡ seen_at w M n (w - p.len) p.value r
  to_wrong t = sym (whole ∙ ap (λ (t : Bool). cond t wrong_rows (beyond w M n (w - p.len) p.value r)) t)

  module _ (fine : b ≡ false) where
    goes : seen_at w M n (w - p.len) p.value r ≡ beyond w M n (w - p.len) p.value r
    goes = whole ∙ ap (λ (t : Bool). cond t wrong_rows (beyond w M n (w - p.len) p.value r)) fine

    pub to_last : p.len ≡ w → (s : Seen) → s ≡ last_seen x → s ≡ seen_at w M n (w - p.len) p.value r
    to_last z s e = e ∙ ap last_seen is ∙ sym (goes ∙ beyond_last w M n (w - p.len) p.value r (omega arith))

    -- h is the half on the left, s what was seen there
    module _ (more : p.len < w) (h : Prefix) (eh : h ≡ left_half w p) (s : Seen) (es : s ≡ seen_below w M n (w - h.len) h.value x.left) where
      abbrev on : Bool → Seen
      on b = seen_below w M n (w - (p.len + 1)) (path_on p.value (w - (p.len + 1)) b) (child (M r) b)

      both_sides : seen_at w M n (w - p.len) p.value r ≡ seen_join (M r) p.len (on false) (on true)
      both_sides =
          let d : w - (w - p.len) ≡ p.len = omega arith in
          let k : w - p.len - 1 ≡ w - (p.len + 1) = omega arith in
          goes
          ∙ beyond_more w M n (w - p.len) p.value r (omega arith)
          ∙ ap₂ (λ (d k : ℕ). seen_join (M r) d (seen_below w M n k (path_on p.value k false) (M r).left) (seen_below w M n k (path_on p.value k true) (M r).right)) d k

      left_is : s ≡ on false
      left_is =
          es ∙ below_half w p more ok M n x.left false h eh
          ∙ ap (λ (y : Row). seen_below w M n (w - (p.len + 1)) (path_on p.value (w - (p.len + 1)) false) y.left) is

      pub to_left_wrong : s.wrong ≡ true → wrong_rows ≡ seen_at w M n (w - p.len) p.value r
      to_left_wrong t =
          sym (both_sides ∙ rw (sym (ap (λ (o : Seen). o.wrong) left_is) ∙ t))

      -- i is the half on the right, o what was seen there
      module _ (i : Prefix) (ei : i ≡ right_half w p) (o : Seen) (eo : o ≡ seen_below w M n (w - i.len) i.value x.right) where
        right_is : o ≡ on true
        right_is =
            eo ∙ below_half w p more ok M n x.right true i ei
            ∙ ap (λ (y : Row). seen_below w M n (w - (p.len + 1)) (path_on p.value (w - (p.len + 1)) true) y.right) is

        pub to_right_wrong : s.wrong ≡ false → o.wrong ≡ true → wrong_rows ≡ seen_at w M n (w - p.len) p.value r
        to_right_wrong f t =
            sym (both_sides ∙ rw (sym (ap (λ (o : Seen). o.wrong) left_is) ∙ f, sym (ap (λ (o : Seen). o.wrong) right_is) ∙ t))

        pub to_join : (all : Seen) → all ≡ seen_join x p.len s o → all ≡ seen_at w M n (w - p.len) p.value r
        to_join all e =
            e
            ∙ ap (λ (y : Row). seen_join y p.len s o) is
            ∙ ap₂ (seen_join (M r) p.len) left_is right_is
            ∙ sym both_sides

-- a walk with k bits left sees fewer than 2 ^ (k + 1) rows

join_rows : (x : Row) (depth : ℕ) (l r : Seen) → (seen_join x depth l r).rows ≤ l.rows + r.rows + 1
join_rows x depth l r = go (l.wrong || r.wrong) (eqb (first_seen l r).rows 0) (ltb depth x.len) (ahead_of x.value x.len (first_seen l r).value (first_seen l r).len)
  where
    go : (a b c d : Bool)
        → (cond a wrong_rows (cond b (seen (l.rows + r.rows + 1) x.value x.len) (cond c (cond d (seen (l.rows + r.rows + 1) x.value x.len) wrong_rows) (seen (l.rows + r.rows + 1) (first_seen l r).value (first_seen l r).len)))).rows
        ≤ l.rows + r.rows + 1
    go true b c d = omega arith
    go false true c d = omega arith
    go false false true true = omega arith
    go false false true false = omega arith
    go false false false d = omega arith

cond_rows : (b : Bool) (s t : Seen) (m : ℕ) → s.rows < m → t.rows < m → (cond b s t).rows < m
cond_rows true s t m hs ht = hs
cond_rows false s t m hs ht = ht

module _ (w : ℕ) (M : Mem) (n : ℕ) where
  seen_rows : (k v r : ℕ) → (seen_at w M n k v r).rows < 2 ^ suc k
  seen_rows zero v r =
      rw (seen_at_by w M n 0 v r)
      (cond_rows (wrong_row w (M r) n v (w - 0)) wrong_rows (last_seen (M r)) (2 ^ 1) (omega arith)
      (cond_rows (not (eqb (M r).left 0) || not (eqb (M r).right 0)) wrong_rows (seen 1 (M r).value (M r).len) (2 ^ 1) (omega arith) (omega arith)))
  seen_rows (suc k) v r =
      more k v r (λ b. cond_rows (eqb (child (M r) b) 0) no_rows (seen_at w M n k (path_on v k b) (child (M r) b)) (2 ^ suc k) (pow_pos (suc k)) (seen_rows k (path_on v k b) (child (M r) b)))
    where
      more : (k v r : ℕ) → ((b : Bool) → (seen_below w M n k (path_on v k b) (child (M r) b)).rows < 2 ^ suc k)
          → (seen_at w M n (suc k) v r).rows < 2 ^ suc (suc k)
      more k v r h =
          let m : 2 ^ suc (suc k) ≡ 2 ^ suc k * 2 = pow-suc 2 (suc k) in
          let j : (seen_join (M r) (w - suc k) (seen_below w M n k (path_on v k false) (M r).left) (seen_below w M n k (path_on v k true) (M r).right)).rows < 2 ^ suc (suc k) =
          omega (arith, join_rows (M r) (w - suc k) (seen_below w M n k (path_on v k false) (M r).left) (seen_below w M n k (path_on v k true) (M r).right), h false, h true, m) in
          rw (seen_at_by w M n (suc k) v r)
          (cond_rows (wrong_row w (M r) n v (w - suc k)) wrong_rows (beyond w M n (suc k) v r) (2 ^ suc (suc k)) (pow_pos (suc (suc k))) j)

  -- on a half of a path, fewer than 2 ^ w
  pub half_rows : (p : Prefix) → p.len < w → Valid w p.value p.len → (b : Bool) (h : Prefix) → h ≡ half_on w b p
      → (c : ℕ) (s : Seen) → s ≡ seen_below w M n (w - h.len) h.value c → s.rows < 2 ^ w
  half_rows p more ok b h eh c s e =
      let m : 2 ^ suc (w - h.len) ≤ 2 ^ w = pow_mono (omega (arith, half_len w p more ok b h eh)) in
      let j : (seen_below w M n (w - h.len) h.value c).rows < 2 ^ suc (w - h.len) =
      cond_rows (eqb c 0) no_rows (seen_at w M n (w - h.len) h.value c) (2 ^ suc (w - h.len)) (pow_pos (suc (w - h.len))) (seen_rows (w - h.len) h.value c) in
      omega (arith, ap (λ (o : Seen). o.rows) e)

-- the check's answers
module _ (w capacity : ℕ) (M : Mem) (n : ℕ) where
  pub good_past : capacity < n → false ≡ is_good w capacity M n
  unfolding is_good
  good_past h = rw (lt-ltb capacity n h)

  pub good_none : n ≤ capacity → n ≡ 0 → true ≡ is_good w capacity M n
  unfolding is_good
  good_none h z = rw (le-ltb capacity n h, eq-eqb n 0 z)

  pub good_seen : n ≤ capacity → (n ≡ 0 → ⊥) → (s : Seen) → s ≡ seen_at w M n w 0 0 → (not s.wrong && eqb s.rows n) ≡ is_good w capacity M n
  unfolding is_good
  good_seen h z s e =
      ap (λ (o : Seen). not o.wrong && eqb o.rows n) e ∙ sym (rw (le-ltb capacity n h, ne_eqb n 0 z))
