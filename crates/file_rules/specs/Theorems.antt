-- States what this layer is there for: RULES, "The route file", the refusals of a file, and the two round trips. Proofs are in
-- proofs/. Assumes nothing.
use Rattle.std.specs.Prelude.{◌≡◌, List, [], ◌∷◌, ◌⊎◌, ◌↔◌, ℕ, ◌-◌, ◌*◌, ◌≤◌, ◌<◌, length, get_or, take}
use Rattle.promise.specs.Over.{over, outcome}
use Rattle.refusals.specs.Refusals.{short_file, wrong_version, wrong_size, spare_bits, too_many_routes, refused, accepted}
use Rattle.routes.specs.Routes.{route_count, ValidList, Words}
use Rattle.routes.specs.declared.Route.{Route}
use Rattle.octets.specs.Bytes.{Bytes}
use Rattle.file_rules.specs.File.{version, head_size, stated_size, file_route, file_of, FileWidth}
use Rattle.file_rules.specs.Check.{file_check, Headed, FirstRoute, Whole}
use Rattle.file_rules.specs.Cleared.{cleared_file, SpareZero}
use Rattle.file_rules.specs.Calls.{read_file, write_file}

-- 1, 2 and 3 (size), each before the next and before any route, at place 0
abbrev pub FileUnheaded : Type 0
FileUnheaded =
    (w : ℕ) (file : List ℕ)
    → (length file < head_size → file_check w file ≡ refused short_file 0)
    × (head_size ≤ length file → (get_or file 0 0 ≡ version → ⊥) → file_check w file ≡ refused wrong_version 0)
    × (head_size ≤ length file → get_or file 0 0 ≡ version → (stated_size file ≡ length file - head_size → ⊥) → file_check w file ≡ refused wrong_size 0)

-- a headed file is refused m at p if and only if the route at p is the first at fault, and m its first fault
abbrev pub FileRefused : Type 0
FileRefused =
    (w : ℕ) (file : List ℕ) (m p : ℕ) → Headed file → (m ≡ 0 → ⊥)
    → (file_check w file ≡ refused m p) ↔ FirstRoute w file m p

-- done with n routes if and only if the file is headed and made of n routes without a fault
abbrev pub FileDone : Type 0
FileDone = (w : ℕ) (file : List ℕ) (n : ℕ) → (file_check w file ≡ accepted n) ↔ Whole w file n

-- and nothing else: a headed file is done, or refused 3 to 8 at a route
abbrev pub FileHeaded : Type 0
FileHeaded =
    (w : ℕ) (file : List ℕ) → Headed file
    → ((file_check w file).number ≡ 0)
    ⊎ ((wrong_size ≤ (file_check w file).number) × ((file_check w file).number ≤ too_many_routes)
    × (head_size ≤ (file_check w file).place) × ((file_check w file).place < length file))

-- "5 no longer arises from a file", whatever its bytes and the list lent
abbrev pub NeverSpare : Type 0
NeverSpare = (w : ℕ) (file list : List ℕ) → (read_file w file list).answer.number ≡ spare_bits → ⊥

-- the routes of an accepted file are a valid list
abbrev pub FileValid : Type 0
FileValid =
    (w : ℕ) (file : List ℕ) (n : ℕ) → FileWidth w → Bytes file → Whole w file n → ValidList w (file_route w file) n

-- the file of a valid list is accepted, and has its routes
abbrev pub FileBack : Type 0
FileBack =
    (w : ℕ) (R : ℕ → Route) (n : ℕ) → FileWidth w → ValidList w R n
    → Whole w (file_of w R n) n × ((i : ℕ) → i < n → file_route w (file_of w R n) i ≡ R i)

-- the file of an accepted file's routes is that file with its spare bits cleared
abbrev pub FileCleared : Type 0
FileCleared =
    (w : ℕ) (file : List ℕ) (n : ℕ) → FileWidth w → Bytes file → Whole w file n → file_of w (file_route w file) n ≡ cleared_file file n

-- which has as many bytes
abbrev pub ClearedLength : Type 0
ClearedLength = (file : List ℕ) (n : ℕ) → length (cleared_file file n) ≡ length file

-- and is the file itself exactly where they were zero
abbrev pub ClearedSame : Type 0
ClearedSame = (w : ℕ) (file : List ℕ) (n : ℕ) → Whole w file n → (cleared_file file n ≡ file) ↔ SpareZero file n

-- so an accepted file without spare bits is that of its routes
abbrev pub FileSame : Type 0
FileSame =
    (w : ℕ) (file : List ℕ) (n : ℕ) → FileWidth w → Bytes file → Whole w file n → SpareZero file n
    → file_of w (file_route w file) n ≡ file

-- "Reading a written file returns the same routes": their words, all of them, and their number
abbrev pub ReadWritten : Type 0
ReadWritten =
    (w : ℕ) (list file lent : List ℕ) → FileWidth w → Words w list
    → (write_file w list file).answer.number ≡ 0 → length list ≤ length lent
    → read_file w (take (write_file w list file).answer.count (write_file w list file).lent) lent
    ≡ outcome (accepted (route_count list)) (over list lent)

-- "others come back with them cleared": writing what was read returns all the bytes and their number, with the spare bits cleared
abbrev pub WriteRead : Type 0
WriteRead =
    (w : ℕ) (file list lent : List ℕ) → FileWidth w → Bytes file
    → (read_file w file list).answer.number ≡ 0 → length file ≤ length lent
    → write_file w (take ((read_file w file list).answer.count * 3) (read_file w file list).lent) lent
    ≡ outcome (accepted (length file)) (over (cleared_file file (read_file w file list).answer.count) lent)

-- "return of the same bytes then holds for files whose spare bits are zero"
abbrev pub WriteReadSame : Type 0
WriteReadSame =
    (w : ℕ) (file list lent : List ℕ) → FileWidth w → Bytes file
    → (read_file w file list).answer.number ≡ 0 → SpareZero file (read_file w file list).answer.count → length file ≤ length lent
    → write_file w (take ((read_file w file list).answer.count * 3) (read_file w file list).lent) lent
    ≡ outcome (accepted (length file)) (over file lent)

-- "01 00 00 00 00 is the empty list."
abbrev pub empty_file : List ℕ
empty_file = 1 ∷ 0 ∷ 0 ∷ 0 ∷ 0 ∷ []

abbrev pub EmptyFile : Type 0
EmptyFile =
    (w : ℕ) (lent : List ℕ)
    → (read_file w empty_file lent ≡ outcome (accepted 0) lent)
    × (length empty_file ≤ length lent → write_file w [] lent ≡ outcome (accepted (length empty_file)) (over empty_file lent))

-- "A refusal ... writes no lent memory."
abbrev pub RefusalWritesNothing : Type 0
RefusalWritesNothing =
    (w : ℕ) (from lent : List ℕ)
    → (((read_file w from lent).answer.number ≡ 0 → ⊥) → (read_file w from lent).lent ≡ lent)
    × (((write_file w from lent).answer.number ≡ 0 → ⊥) → (write_file w from lent).lent ≡ lent)
