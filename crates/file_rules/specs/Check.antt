-- Defines the checks of a route file: RULES, "Order of the checks". Assumes nothing.
use Rattle.std.specs.Prelude.{◌≡◌, Bool, cond, List, ℕ, zero, suc, ◌+◌, ◌-◌, ◌<◌, ◌≤◌, eqb, leb, ltb, length, get_or}
use Rattle.refusals.specs.Refusals.{short_file, wrong_version, wrong_size, long_prefix, wrong_port, not_above, too_many_routes, refused, accepted, unless}
use Rattle.routes.specs.Bounds.{most_routes}
use Rattle.routes.specs.Check.{is_port, above}
use Rattle.refusals.specs.declared.Answer.{Answer}
use Rattle.octets.specs.Octets.{len_at}
use Rattle.file_rules.specs.File.{version, head_size, stated_size, size_for, read_at, place_of, file_route}
use Rattle.routes.specs.declared.Route.{Route}

-- "1, 2, 3 (size)"
unfoldable pub head_fault : List ℕ → ℕ
head_fault file =
    unless (leb head_size (length file)) short_file
    (unless (eqb (get_or file 0 0) version) wrong_version
    (unless (eqb (stated_size file) (length file - head_size)) wrong_size 0))

-- "8, 4, 3 (cut)" on route i, whose first byte is at an offset, then what follows: whether there is a whole route to read
abbrev pub frame_fault : ℕ → List ℕ → ℕ → ℕ → ℕ → ℕ
frame_fault w file i at rest =
    unless (ltb i most_routes) too_many_routes
    (unless (leb (len_at file at) w) long_prefix
    (unless (leb (at + size_for (len_at file at)) (length file)) wrong_size rest))

-- "6, 7" on what was read
abbrev pub content_fault : Route → Bool → ℕ
content_fault r rises = unless (is_port r.port) wrong_port (unless rises not_above 0)

-- the first fault of route i, 0 if it has none
unfoldable pub file_fault : ℕ → List ℕ → ℕ → ℕ
file_fault w file i =
    frame_fault w file i (place_of file i) (content_fault (read_at w file (place_of file i)) (above (file_route w file) i))

-- from route i on, the first with a fault, at the offset of its first byte; k routes are left at most
unfoldable pub check_from : ℕ → List ℕ → ℕ → ℕ → Answer
check_from w file zero i = accepted i
check_from w file (suc k) i =
    cond (ltb (place_of file i) (length file))
    (cond (eqb (file_fault w file i) 0) (check_from w file k (i + 1)) (refused (file_fault w file i) (place_of file i)))
    (accepted i)

-- the check of a file: it answers how many routes there are
unfoldable pub file_check : ℕ → List ℕ → Answer
file_check w file =
    cond (eqb (head_fault file) 0) (check_from w file (length file - head_size) 0) (refused (head_fault file) 0)

-- "file under 5 bytes", "version byte not 1", "stated size differs from the bytes present": none of them
pub record Headed (file : List ℕ) : Type 0 where
  pub long : head_size ≤ length file
  pub versioned : get_or file 0 0 ≡ version
  pub sized : stated_size file ≡ length file - head_size

-- a whole route stands at an offset
pub record Entire (w : ℕ) (file : List ℕ) (at : ℕ) : Type 0 where
  pub short : len_at file at ≤ w
  pub uncut : at + size_for (len_at file at) ≤ length file

-- the route at offset p has fault m, and no route before it has one
pub record FirstRoute (w : ℕ) (file : List ℕ) (m p : ℕ) : Type 0 where
  pub number : ℕ
  pub place : place_of file number ≡ p
  pub within : p < length file
  pub here : file_fault w file number ≡ m
  pub none : (j : ℕ) → j < number → file_fault w file j ≡ 0

-- a file of n routes: none of them has a fault, and the last one ends where the file does
pub record Whole (w : ℕ) (file : List ℕ) (n : ℕ) : Type 0 where
  pub headed : Headed file
  pub none : (j : ℕ) → j < n → file_fault w file j ≡ 0
  pub end : place_of file n ≡ length file
