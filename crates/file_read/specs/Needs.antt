-- Defines what the parts of the reader ask. Assumes nothing.
use Rattle.std.specs.Prelude.{List, ℕ, ◌+◌, ◌*◌, ◌≤◌, ◌<◌, length}
use Rattle.routes.specs.Bounds.{most_routes}
use Rattle.file_rules.specs.File.{head_size, size_for}
use Rattle.file_rules.specs.Check.{Whole}
use Rattle.file_read.specs.declared.step.Cursor.{Cursor}

-- a cursor at a byte of the file, whose offset fits a place
pub record Standing (w : ℕ) (file : List ℕ) (c : Cursor) : Type 0 where
  pub within : c.at < length file
  pub early : c.at ≤ head_size + c.count * size_for w
  pub few : c.count ≤ most_routes

-- a whole file of n routes, and room for their words
pub record FitsList (w : ℕ) (file list : List ℕ) (n : ℕ) : Type 0 where
  pub whole : Whole w file n
  pub room : n * 3 ≤ length list
