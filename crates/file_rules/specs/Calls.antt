-- Defines what reading a file into a list and writing a list into a file answer and leave: RULES, "The route file", "Calls" and
-- "Order of the checks". Assumes nothing.
use Rattle.std.specs.Prelude.{cond, List, ℕ, eqb, leb, length}
use Rattle.promise.specs.Over.{over, Outcome, outcome}
use Rattle.refusals.specs.Refusals.{no_room, refused, accepted}
use Rattle.routes.specs.Routes.{route_at, route_count, list_of_routes}
use Rattle.routes.specs.Check.{list_check}
use Rattle.refusals.specs.declared.Answer.{Answer}
use Rattle.file_rules.specs.File.{file_route, file_of}
use Rattle.file_rules.specs.Check.{file_check}

-- the checks, "then 9", then the output. A refusal "writes no lent memory".
unfoldable pub checked_then : Answer → List ℕ → ℕ → List ℕ → Outcome Answer
checked_then checked out count lent =
    cond (eqb checked.number 0)
    (cond (leb (length out) (length lent)) (outcome (accepted count) (over out lent)) (outcome (refused no_room 0) lent))
    (outcome checked lent)

-- reading: the routes' words, and how many routes
unfoldable pub read_file : ℕ → List ℕ → List ℕ → Outcome Answer
read_file w file list =
    checked_then (file_check w file) (list_of_routes (file_route w file) (file_check w file).count) (file_check w file).count list

-- writing: the file's bytes, and how many bytes
unfoldable pub write_file : ℕ → List ℕ → List ℕ → Outcome Answer
write_file w list file =
    checked_then (list_check w list) (file_of w (route_at list) (route_count list)) (length (file_of w (route_at list) (route_count list))) file
