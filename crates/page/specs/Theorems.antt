-- States what this layer is there for: RULES, "Program runs". Proofs are in proofs/. Assumes nothing.
use Rattle.std.specs.Prelude.{◌≡◌, List, [], ◌∷◌, ℕ, ◌*◌, ◌+◌, ◌^◌, ◌≤◌, ◌<◌, length}
use Rattle.promise.specs.Over.{outcome}
use Rattle.refusals.specs.Refusals.{no_room, refused}
use Rattle.file_rules.specs.File.{file_route}
use Rattle.file_rules.specs.Check.{file_check}
use Rattle.runs_rules.specs.Runs.{Run, run, Lists}
use Rattle.routes.specs.Scan.{scan_of}
use Rattle.page.specs.Page.{line_of, runs_text, refused_text, most_bytes, most_routes_shown, page_text, page_of}

-- "More than 1,797 bytes: `refused 9 0`", whatever the bytes are
abbrev pub PageLong : Type 0
PageLong = (w : ℕ) (file : List ℕ) → most_bytes < length file → page_text w file ≡ refused_text (refused no_room 0)

-- "A valid file of more than 256 routes: `refused 9 0`"
abbrev pub PageMany : Type 0
PageMany =
    (w : ℕ) (file : List ℕ) → length file ≤ most_bytes → (file_check w file).number ≡ 0 → most_routes_shown < (file_check w file).count
    → page_text w file ≡ refused_text (refused no_room 0)

-- "A file that is refused: `refused`, the number and the place"
abbrev pub PageRefused : Type 0
PageRefused =
    (w : ℕ) (file : List ℕ) → length file ≤ most_bytes → ((file_check w file).number ≡ 0 → ⊥) → page_text w file ≡ refused_text (file_check w file)

-- "Any other": the lines of THE listing of the plain scan of the file's routes
abbrev pub PageListed : Type 0
PageListed =
    (w : ℕ) (file : List ℕ) (rs : List Run) → length file ≤ most_bytes → (file_check w file).number ≡ 0
    → (file_check w file).count ≤ most_routes_shown
    → Lists (scan_of w (file_route w file) (file_check w file).count) (2 ^ w) 0 rs → page_text w file ≡ runs_text rs

-- a page lies within the bytes lent for it
abbrev pub PageWithin : Type 0
PageWithin =
    (w : ℕ) (file out left : List ℕ) (r : ℕ) → outcome r left ≡ page_of w file out → length left ≡ length out → r ≤ length out

-- "10.1.2.0 10.1.2.255 7"
abbrev pub ExampleLine : Type 0
ExampleLine =
    line_of (run (10 * 2 ^ 24 + 2 ^ 16 + 2 * 2 ^ 8) (10 * 2 ^ 24 + 2 ^ 16 + 2 * 2 ^ 8 + 255) 7)
    ≡ 49 ∷ 48 ∷ 46 ∷ 49 ∷ 46 ∷ 50 ∷ 46 ∷ 48 ∷ 32 ∷ 49 ∷ 48 ∷ 46 ∷ 49 ∷ 46 ∷ 50 ∷ 46 ∷ 50 ∷ 53 ∷ 53 ∷ 32 ∷ 55 ∷ 10 ∷ []
