-- Defines what a build of segment tables answers and leaves: RULES, "Segment tables", "Order of the checks" and "Refusals". Assumes nothing.
use Rattle.std.specs.Prelude.{◌≡◌, Bool, cond, ◌&&◌, List, ℕ, ◌^◌, ◌<◌, eqb, leb, length, Result, Ok, Err}
use Rattle.promise.specs.Over.{over}
use Rattle.lists.specs.Below.{number_below}
use Rattle.refusals.specs.Refusals.{no_room, found, number_of}
use Rattle.refusals.specs.declared.Refusal.{Refusal}
use Rattle.refusals.specs.declared.found.Found.{Found}
use Rattle.routes.specs.Routes.{route_at, route_count, Words}
use Rattle.routes.specs.Check.{list_check}
use Rattle.routes.specs.Scan.{scan_of}
use Rattle.routes.specs.declared.Route.{Route}
use Rattle.segment_rules.specs.declared.Built.{Built}
use Rattle.segment_rules.specs.declared.Written.{Written}
use Rattle.segment_rules.specs.Tables.{has_last, has_packed, has_plain, first_table, packed_store, plain_store, last_store}
use Rattle.segment_rules.specs.Lookup.{lookup_in}
use Rattle.segment_rules.specs.Theorems.{reads_of}

-- the four stores
pub record Stores : Type 0 where
  pub first : List ℕ
  pub packed : List ℕ
  pub plain : List ℕ
  pub last : List ℕ

abbrev pub stores : List ℕ → List ℕ → List ℕ → List ℕ → Stores
stores first packed plain last = record { first = first; packed = packed; plain = plain; last = last }

-- what a build answers, and what it leaves in the stores that it was lent to write
pub record Left : Type 0 where
  pub built : Built
  pub stores : Stores

abbrev pub left : Built → Stores → Left
left built stores = record { built = built; stores = stores }

-- "A refusal returns its number and a place, all other results 0"
abbrev pub refused_build : ℕ → ℕ → Built
refused_build number place = record { number = number; place = place; packed = 0; plain = 0; last = 0 }

-- "0 | done | 0", with the packed segments, the plain ones and the last blocks
abbrev pub done_build : ℕ → ℕ → ℕ → Built
done_build packed plain last = record { number = 0; place = 0; packed = packed; plain = plain; last = last }

-- what C is told of a build
abbrev pub built_of : Result Written Refusal → Built
built_of (Ok w) = done_build w.packed w.plain w.last
built_of (Err r) = refused_build (number_of r.fault) r.place

module _ (R : ℕ → Route) (n : ℕ) where
  -- how many blocks there are of each kind
  abbrev pub blocks_built : Built
  blocks_built = done_build (number_below (has_packed R n) (2 ^ 16)) (number_below (has_plain R n) (2 ^ 16)) (number_below (has_last R n) (2 ^ 24))

  -- "9 as for the image, each store in turn"
  abbrev pub have_room : Stores → Bool
  have_room s =
      leb (length (first_table R n)) (length s.first) && leb (length (packed_store R n)) (length s.packed)
      && leb (length (plain_store R n)) (length s.plain) && leb (length (last_store R n)) (length s.last)

  -- the tables, and what was lent past them
  abbrev pub tables_over : Stores → Stores
  tables_over s =
      stores (over (first_table R n) s.first) (over (packed_store R n) s.packed) (over (plain_store R n) s.plain)
      (over (last_store R n) s.last)

  unfoldable pub segments_into : Stores → Left
  segments_into s = cond (have_room s) (left blocks_built (tables_over s)) (left (refused_build no_room 0) s)

-- the list checks, then 9. A refusal "writes no lent memory".
unfoldable pub build_segments : List ℕ → Stores → Left
build_segments list s =
    cond (eqb (list_check 32 list).number 0)
    (segments_into (route_at list) (route_count list) s)
    (left (refused_build (list_check 32 list).number (list_check 32 list).place) s)

-- a lookup in some stores
abbrev pub lookup_stores : Stores → ℕ → Found
lookup_stores s a = lookup_in s.first s.packed s.plain s.last a

-- "Lookup equals the plain scan": after a build that is done, every address gets the port that the plain scan of the list gives, and its
-- exact reads
abbrev pub BuiltIsScan : Type 0
BuiltIsScan =
    (list : List ℕ) (s : Stores) (a : ℕ) → Words 32 list → (build_segments list s).built.number ≡ 0 → a < 2 ^ 32
    → lookup_stores (build_segments list s).stores a
    ≡ found (scan_of 32 (route_at list) (route_count list) a) (reads_of (route_at list) (route_count list) a)

-- a refused build leaves every word as it was
abbrev pub RefusalWritesNothing : Type 0
RefusalWritesNothing =
    (list : List ℕ) (s : Stores) → ((build_segments list s).built.number ≡ 0 → ⊥) → (build_segments list s).stores ≡ s
