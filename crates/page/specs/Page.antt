-- Defines the page that the program `runs` prints for a route file: RULES, "Program runs". Assumes nothing.
use Rattle.std.specs.Prelude.{cond, List, [], ◌∷◌, ◌++◌, ℕ, ◌+◌, ◌*◌, eqb, leb, length}
use Rattle.promise.specs.Over.{Outcome, outcome, over}
use Rattle.lists.specs.Flat.{flat}
use Rattle.refusals.specs.Refusals.{no_room, refused}
use Rattle.refusals.specs.declared.Answer.{Answer}
use Rattle.file_rules.specs.File.{file_route}
use Rattle.file_rules.specs.Check.{file_check}
use Rattle.runs_rules.specs.Runs.{Run}
use Rattle.runs_rules.specs.Listing.{listed}
use Rattle.page.specs.Text.{newline, space, most_digits, numeral, address, address_room}

-- a line: "first address, last address, port"
abbrev pub line_of : Run → List ℕ
line_of r = address r.first ++ space ++ address r.last ++ space ++ numeral r.port ++ newline

abbrev pub lines_of : List Run → List ℕ
lines_of rs = flat line_of rs

-- "a line `runs` with the number of runs, then a line for each run"
abbrev pub header : ℕ → List ℕ
header n = (114 ∷ 117 ∷ 110 ∷ 115 ∷ 32 ∷ []) ++ numeral n ++ newline

abbrev pub runs_text : List Run → List ℕ
runs_text rs = header (length rs) ++ lines_of rs

-- "`refused`, the number and the place"
abbrev pub refused_text : Answer → List ℕ
refused_text a =
    (114 ∷ 101 ∷ 102 ∷ 117 ∷ 115 ∷ 101 ∷ 100 ∷ 32 ∷ []) ++ numeral a.number ++ space ++ numeral a.place ++ newline

-- "More than 1,797 bytes", "more than 256 routes"
abbrev pub most_bytes : ℕ
most_bytes = 1797

abbrev pub most_routes_shown : ℕ
most_routes_shown = 256

-- "n routes have at most 2n+1 runs"
abbrev pub most_runs_shown : ℕ
most_runs_shown = 2 * most_routes_shown + 1

-- bytes that hold any header: `runs`, a space, a number and a newline
abbrev pub header_room : ℕ
header_room = 5 + most_digits + 1

-- any line: two addresses and a number, each with one byte after it
abbrev pub line_room : ℕ
line_room = address_room + 1 + (address_room + 1) + (most_digits + 1)

-- any refusal: `refused`, a space, and two numbers, each with one byte after it
abbrev pub refusal_room : ℕ
refusal_room = 8 + (most_digits + 1) + (most_digits + 1)

-- any page: a header and the lines, which is more than a refusal takes
abbrev pub page_room : ℕ
page_room = header_room + most_runs_shown * line_room

-- the page of a file of w-bit addresses: too long; refused; too many routes; else the listing of its routes
unfoldable pub page_text : ℕ → List ℕ → List ℕ
page_text w file =
    cond (leb (length file) most_bytes)
    (cond (eqb (file_check w file).number 0)
    (cond (leb (file_check w file).count most_routes_shown)
    (runs_text (listed w (file_route w file) (file_check w file).count))
    (refused_text (refused no_room 0)))
    (refused_text (file_check w file)))
    (refused_text (refused no_room 0))

-- how many bytes the page has, over the front of the lent ones; where fewer than any page's are lent, none
unfoldable pub page_of : ℕ → List ℕ → List ℕ → Outcome ℕ
page_of w file out =
    cond (leb page_room (length out)) (outcome (length (page_text w file)) (over (page_text w file) out)) (outcome 0 out)
