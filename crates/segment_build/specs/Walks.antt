-- Defines the pass over the segments after one more of them: RULES, "Segment tables". Assumes nothing.
use Rattle.std.specs.Prelude.{Bool, cond, ℕ, ◌+◌}
use Rattle.segment_build.specs.declared.segments.Walk.{Walk}

abbrev pub walk : ℕ → ℕ → ℕ → ℕ → ℕ → Walk
walk next packed plain last run = record { next = next; packed = packed; plain = plain; last = last; run = run }

-- segment x has a number among the packed ones or among the plain ones
abbrev pub walk_after : Walk → ℕ → Bool → ℕ → ℕ → Walk
walk_after w x packed last run =
    cond packed (walk (x + 1) (w.packed + 1) w.plain last run) (walk (x + 1) w.packed (w.plain + 1) last run)
