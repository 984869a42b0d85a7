-- What a row says that is not wrong where it is read: RULES, "Lookup in a table". Assumes nothing.
use mathlib.Core.Path.{◌≡◌, sym, ◌∙◌}
use mathlib.Core.Bool.{Bool, true, false, not}
use Prim.Native.Nat.{ℕ, ◌%◌, ◌<◌, ◌≤◌}
use lib.Dec.{leb, ltb}
use borrow.Author.Tests.{eq-eqb, eqb-true, lt-ltb, le-ltb, ltb-true, ltb-false, le-leb, lt-leb, leb-true, leb-false, not-false}
use Rattle.bits.specs.Prefix.{span, head, clear, matches}
use Rattle.lists.proofs.Tests.{both, none_of_seven}
use Rattle.routes.specs.Bounds.{last_port}
use Rattle.routes.specs.Check.{is_port}
use Rattle.table_rules.specs.Rows.{child}
use Rattle.table_rules.specs.Lookup.{wrong_row}
use Rattle.table_rules.specs.declared.Row.{Row}

-- the row's children are below n, its route is valid but for the size of its value, and its prefix begins with the address's
-- first (depth) bits
pub record Right (w : ℕ) (x : Row) (n a depth : ℕ) : Type 0 where
  pub left_lt : x.left < n
  pub right_lt : x.right < n
  pub short : x.len ≤ w
  pub deep : depth ≤ x.len
  pub zeros : x.value % span w x.len ≡ 0
  pub some : 0 < x.port
  pub most : x.port ≤ last_port
  pub path : head w depth x.value ≡ head w depth a

module _ (w : ℕ) (x : Row) (n a depth : ℕ) where
  pub right : wrong_row w x n a depth ≡ false → Right w x n a depth
  right e =
      let o =
      none_of_seven (leb n x.left) (leb n x.right) (ltb w x.len) (ltb x.len depth) (not (clear w x.value x.len))
      (not (is_port x.port)) (not (matches w a depth x.value)) e in
      let p = both (ltb 0 x.port) (leb x.port last_port) (not-false (is_port x.port) o.5) in
      record {
        left_lt = leb-false n x.left o.0;
        right_lt = leb-false n x.right o.1;
        short = ltb-false w x.len o.2;
        deep = ltb-false x.len depth o.3;
        zeros = eqb-true (x.value % span w x.len) 0 (not-false (clear w x.value x.len) o.4);
        some = ltb-true 0 x.port p.0;
        most = leb-true x.port last_port p.1;
        path =
            eqb-true (head w depth x.value) (head w depth a) (not-false (matches w a depth x.value) o.6);
      }

  pub not_wrong : Right w x n a depth → wrong_row w x n a depth ≡ false
  not_wrong r =
      rw (
        lt-leb n x.left r.left_lt,
        lt-leb n x.right r.right_lt,
        le-ltb w x.len r.short,
        le-ltb x.len depth r.deep,
        eq-eqb _ 0 r.zeros,
        lt-ltb 0 x.port r.some,
        le-leb x.port _ r.most,
        eq-eqb (head w depth x.value) (head w depth a) r.path,
      )

  -- where the test t says that the row is not wrong, it names rows below n
  pub child_lt : (t : Bool) → t ≡ wrong_row w x n a depth → t ≡ false → (b : Bool) → child x b < n
  child_lt t e fine false = (right (sym e ∙ fine)).left_lt
  child_lt t e fine true = (right (sym e ∙ fine)).right_lt
