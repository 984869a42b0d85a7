-- A row that is not wrong at a path, by its numbers and by its bits: RULES, "Lookup in a table". Here the walk's numbers meet the
-- trie's bits. Assumes nothing.
use mathlib.Core.Path.{◌≡◌, sym, ap, ◌∙◌}
use mathlib.Core.Bool.{Bool, true, false}
use mathlib.Core.List.{[], ◌∷◌, ◌++◌}
use Prim.Native.Nat.{ℕ, suc, ◌+◌, ◌-◌, ◌*◌, ◌/◌, ◌^◌, ◌<◌, ◌≤◌}
use native.Mathlib.Omega.{arith}
use native.Mathlib.Nat.{add-mul, pow-suc, div-lt_iff_lt-mul}
use lib.ListN.{length, drop, take-append-drop}
use lib.Pow.{pow_pos, pow-add, shl-shr}
use lib.Seq.{take-take}
use Rattle.bits.specs.Bits.{Bits, bit, value, bits, prefix_bits}
use Rattle.bits.specs.Prefix.{head}
use Rattle.bits.proofs.Bits.{value_lt, bits_unique, length_take_bits, value_prefix_bits, value_append}
use Rattle.trie.specs.Trie.{Trie, node}
use Rattle.routes.specs.Routes.{ValidRoute}
use Rattle.table_rules.specs.Rows.{Mem, route_of, row_bits}
use Rattle.table_rules.specs.Holds.{Holds}
use Rattle.table_rules.specs.Check.{path_on}
use Rattle.table_rules.specs.declared.Row.{Row}
use Rattle.table_rules.proofs.Paths.{at_len, head_path}
use Rattle.table_rules.proofs.Holds.{row_at, child_lt, Below}
use Rattle.table_rules.proofs.Right.{Right}

-- the first address of a path, with k bits after it
abbrev pub path_first : Bits → ℕ → ℕ
path_first path k = value path * 2 ^ k

-- on a side it is the path that the walk goes on with
pub path_on_lem : (path : Bits) (k : ℕ) (b : Bool) → path_on (path_first path (suc k)) k b ≡ path_first (path ++ (b ∷ [])) k
path_on_lem path k b =
    let e : value (path ++ (b ∷ [])) ≡ value path * 2 + bit b = value_append path (b ∷ []) ∙ omega arith in
    omega (
      arith,
      ap (λ (x : ℕ). x * 2 ^ k) e,
      add-mul (value path * 2) (bit b) (2 ^ k),
      ap (λ (x : ℕ). value path * x) (pow-suc 2 k),
    )

module _ (w : ℕ) (path : Bits) (k : ℕ) (deep : length path + k ≡ w) where
  left_over : w - length path ≡ k
  left_over = omega arith

  -- the first bits of the path's first address are the path
  head_first : head w (length path) (path_first path k) ≡ value path
  head_first = ap (λ (j : ℕ). path_first path k / 2 ^ j) left_over ∙ shl-shr (value path) k

  module _ (x : Row) (n : ℕ) (r : Right w x n (path_first path k) (length path)) where
    head_is : x.value / 2 ^ k ≡ value path
    head_is = ap (λ (j : ℕ). x.value / 2 ^ j) (sym left_over) ∙ r.path ∙ head_first

    fits : x.value < 2 ^ w
    fits =
        let e : 2 ^ w ≡ 2 ^ length path * 2 ^ k = ap (λ (j : ℕ). 2 ^ j) (sym deep) ∙ pow-add 2 (length path) k in
        rw e ((div-lt_iff_lt-mul (pow_pos k)).0 (rw head_is (value_lt path)))

    -- its route is valid
    pub right_valid : ValidRoute w (route_of x)
    right_valid = record {
      prefix = record { fits = fits; short = r.short; zeros = r.zeros };
      some = r.some;
      most = r.most;
    }

    -- and its prefix goes on from the path
    pub right_bits : row_bits w x ≡ path ++ drop (length path) (row_bits w x)
    right_bits =
        let m : length path ≤ w = omega arith in
        let e : prefix_bits w x.value (length path) ≡ path =
        bits_unique (prefix_bits w x.value (length path)) path (length_take_bits (length path) w x.value m)
        (value_prefix_bits w x.value (length path) m fits ∙ r.path ∙ head_first) in
        sym (take-append-drop (length path) (row_bits w x))
        ∙ ap (λ (s : Bits). s ++ drop (length path) (row_bits w x)) (take-take (length path) x.len (bits w x.value) r.deep ∙ e)

  -- back: a row that holds a node there is not wrong
  pub holds_right : (M : Mem) (r : ℕ) (s : Bits) (p : ℕ) (c : Bool → Trie) (n : ℕ) → Holds w M path r (node s p c)
      → Below M r (node s p c) n → Right w (M r) n (path_first path k) (length path)
  holds_right M r s p c n h low =
      let at = row_at w M path r s p c h in
      record {
        left_lt = child_lt w M path r s p c n h low false;
        right_lt = child_lt w M path r s p c n h low true;
        short = h.valid.prefix.short;
        deep = omega (arith, at_len w path (M r).value (M r).len s at);
        zeros = h.valid.prefix.zeros;
        some = h.valid.some;
        most = h.valid.most;
        path = head_path w path (M r).value (M r).len s at ∙ sym head_first;
      }

-- no row holds a node at a path longer than the width
pub holds_deep : (w : ℕ) (M : Mem) (path : Bits) (r : ℕ) (s : Bits) (p : ℕ) (c : Bool → Trie) → Holds w M path r (node s p c) → length path ≤ w
holds_deep w M path r s p c h =
    omega (arith, at_len w path (M r).value (M r).len s (row_at w M path r s p c h), h.valid.prefix.short)
