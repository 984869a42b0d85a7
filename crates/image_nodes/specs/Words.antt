-- Defines a node's two words as the struct of the code: RULES, "Nodes". Where they lie, image_rules says. Assumes nothing.
use Rattle.std.specs.Prelude.{cond, List, ℕ}
use Rattle.image_rules.specs.Node.{node_words, is_node, bitmap_of, offset_of}
use Rattle.image_nodes.specs.declared.NodeWords.{NodeWords}

abbrev pub two_words : ℕ → ℕ → NodeWords
two_words bitmap offset = record { bitmap = bitmap; offset = offset }

-- the words of node a; zeros where it is not lent whole
unfoldable pub node_at : List ℕ → ℕ → NodeWords
node_at nodes a = cond (is_node nodes a) (two_words (bitmap_of nodes a) (offset_of nodes a)) (two_words 0 0)

-- the struct's words, one after the other
abbrev pub words_of_node : NodeWords → List ℕ
words_of_node x = node_words x.bitmap x.offset
