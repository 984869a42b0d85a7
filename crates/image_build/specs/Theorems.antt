-- States what a build is there for: RULES, "The image". Proofs are in proofs/. Assumes nothing.
use Rattle.std.specs.Prelude.{◌≡◌, List, [], ℕ, ◌+◌, ◌/◌, ◌^◌, ◌<◌}
use Rattle.bits.specs.Bits.{bits}
use Rattle.routes.specs.Routes.{route_at, route_count, Words}
use Rattle.routes.specs.Scan.{scan_of}
use Rattle.image_rules.specs.Image.{passed}
use Rattle.image_rules.specs.Lookup.{lookup_words, Strided}
use Rattle.refusals.specs.Refusals.{found}
use Rattle.image_build.specs.Build.{list_routes, build_image}

-- after a build that is done, every address gets the plain scan's port of the list, and the nodes read are the non-leaf slots passed
-- and one; whatever else is in the memories lent
abbrev pub BuiltIsScan : Type 0
BuiltIsScan =
    (w s : ℕ) (list nodes ports : List ℕ) (a : ℕ) → Strided w s → Words w list → a < 2 ^ w
    → (build_image w s list nodes ports).built.number ≡ 0
    → lookup_words w s (build_image w s list nodes ports).nodes (build_image w s list nodes ports).ports a
    ≡ found (scan_of w (route_at list) (route_count list) a) (passed (list_routes w list) s (w / s) [] (bits w a) + 1)

-- "A refusal … writes no lent memory"
abbrev pub RefusalWritesNothing : Type 0
RefusalWritesNothing =
    (w s : ℕ) (list nodes ports : List ℕ) → ((build_image w s list nodes ports).built.number ≡ 0 → ⊥)
    → ((build_image w s list nodes ports).nodes ≡ nodes) × ((build_image w s list nodes ports).ports ≡ ports)
