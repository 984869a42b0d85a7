-- What functions rely on between themselves: for the proofs. Assumes nothing.
use Rattle.std.specs.Prelude.{◌≡◌, ℕ, ◌<◌, ◌≤◌, true}
use Rattle.image_rules.specs.Lookup.{is_stride}

-- s is a stride, with the bounds that follow from it
pub record Stride (s : ℕ) : Type 0 where
  pub positive : 0 < s
  pub at_most4 : s ≤ 4
  pub listed : is_stride s ≡ true
