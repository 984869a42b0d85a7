-- A node that is lent whole, and one that is not, by the code's tests; a node's words stored one by one. Assumes nothing.
use mathlib.Core.Path.{◌≡◌}
use mathlib.Core.Bool.{true}
use mathlib.Core.List.{List}
use Prim.Native.Nat.{ℕ, ◌+◌}
use native.Mathlib.Numerals.{add-one}
use lib.ListN.{set}
use borrow.Author.Tests.{lt-ltb, le-leb}
use Rattle.image_rules.specs.Node.{node_words, node_count, node_start, is_node, bitmap_of, offset_of, store_nodes, store_node}
use Rattle.image_nodes.specs.Words.{two_words, node_at}
use Rattle.image_nodes.specs.Needs.{Lent}

module _ (nodes : List ℕ) (a : ℕ) where
  lent_node : Lent nodes a → is_node nodes a ≡ true
  lent_node h = rw (lt-ltb 0 a h.positive, le-leb a (node_count nodes) h.within)

  -- where node a is lent whole
  pub node_at_lent : Lent nodes a → node_at nodes a ≡ two_words (bitmap_of nodes a) (offset_of nodes a)
  unfolding node_at
  node_at_lent h = rw (lent_node h)

  pub store_node_lent : (words : List ℕ) → Lent nodes a → store_node nodes a words ≡ store_nodes nodes a words
  unfolding store_node
  store_node_lent words h = rw (lent_node h)

  -- the code's two stores are those of a node
  pub stored_two : Lent nodes a → (start bitmap offset : ℕ) → start ≡ node_start a
      → set (set nodes start bitmap) (start + 1) offset ≡ store_node nodes a (node_words bitmap offset)
  stored_two h start bitmap offset e = rw (store_node_lent (node_words bitmap offset) h, e) (simp add-one)
