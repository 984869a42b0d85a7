-- What the lookup's functions rely on between themselves: for the proofs. Assumes nothing.
use Rattle.std.specs.Prelude.{◌≡◌, ℕ, ◌+◌, ◌-◌, ◌*◌, ◌%◌, ◌^◌, ◌<◌, ◌≤◌, List}
use Rattle.image_rules.specs.Node.{next_of}

-- slot j is one of a bitmap's slots, and the bitmap has no bits above them
pub record InSlots (slots bitmap j : ℕ) : Type 0 where
  pub at_most16 : slots ≤ 16
  pub within : j < slots
  pub none_above : bitmap < 2 ^ slots

-- the slots of all nodes before one that is lent are at most so many: a node is two words of memory
abbrev pub most_slots_before : ℕ
most_slots_before = 2 ^ 64 - 32

-- what the code counts at node a: its next number, the slots of all nodes before it, and those of them that hold a child
pub record Counted (slots : ℕ) (nodes : List ℕ) (a next before children : ℕ) : Type 0 where
  pub next_is : next ≡ next_of nodes a
  pub low : next < 2 ^ 62
  pub before_is : before ≡ slots * (a - 1)
  pub few : before ≤ most_slots_before
  pub children_are : children ≡ (next + 2 ^ 64 - 2) % 2 ^ 64
