-- Defines a step of the reader at a cursor: the cursor after the route, or the refusal with its place. Assumes nothing.
use Rattle.std.specs.Prelude.{Bool, true, cond, List, ℕ, ◌+◌, eqb, Option, Some, None, Result, Ok, Err}
use Rattle.bits.specs.Prefix.{precedes}
use Rattle.refusals.specs.Refusals.{refused, number_of}
use Rattle.refusals.specs.declared.Answer.{Answer}
use Rattle.refusals.specs.declared.Refusal.{Refusal}
use Rattle.routes.specs.declared.Route.{Route}
use Rattle.file_rules.specs.File.{size_for, read_at}
use Rattle.file_rules.specs.Check.{frame_fault, content_fault}
use Rattle.file_read.specs.declared.step.Cursor.{Cursor}
use Rattle.prefix.specs.Prefixes.{prefix}
use Rattle.prefix.specs.declared.Prefix.{Prefix}

-- whether a route is above the one before it, which has a prefix; the first has none before it
abbrev pub rises : Option Prefix → Route → Bool
rises (Some p) r = precedes p.value p.len r.value r.len
rises None r = true

-- the fault of the route at a cursor, 0 if it has none
unfoldable pub fault_after : ℕ → List ℕ → Cursor → ℕ
fault_after w file c =
    frame_fault w file c.count c.at
    (content_fault (read_at w file c.at) (rises c.past (read_at w file c.at)))

abbrev pub cursor_after : Cursor → Route → Cursor
cursor_after c r = record { at = c.at + size_for r.len; count = c.count + 1; past = Some (prefix r.value r.len) }

-- each case's values: the cursor after the route read, or the published number at the route's first byte
unfoldable pub step_at : ℕ → List ℕ → Cursor → Result Cursor Answer
step_at w file c =
    cond (eqb (fault_after w file c) 0)
    (Ok (cursor_after c (read_at w file c.at)))
    (Err (refused (fault_after w file c) c.at))

-- what a step answers, with the refusal as C is told it
abbrev pub stepped : Result Cursor Refusal → Result Cursor Answer
stepped (Ok next) = Ok next
stepped (Err r) = Err (refused (number_of r.fault) r.place)
