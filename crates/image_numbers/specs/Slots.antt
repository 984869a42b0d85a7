-- Defines how many slots the nodes of a stride have: RULES, "The image". Assumes nothing.
use Rattle.std.specs.Prelude.{ℕ, ◌^◌, cond}
use Rattle.image_rules.specs.Lookup.{is_stride}

-- "A node has 2^s slots"; what is no stride has none
abbrev pub slots_of : ℕ → ℕ
slots_of s = cond (is_stride s) (2 ^ s) 0
