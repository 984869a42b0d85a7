-- Defines the published refusals and what a call answers: RULES, "Refusals". Assumes nothing.
use Rattle.std.specs.Prelude.{Bool, cond, ℕ, eqb, Result, Ok, Err}
use Rattle.refusals.specs.declared.Answer.{Answer}
use Rattle.refusals.specs.declared.Fault.{Fault}
use Rattle.refusals.specs.declared.Fault.TheVariants.{ShortFile, WrongVersion, WrongSize, LongPrefix, SpareBits, WrongPort, NotAbove, TooManyRoutes, NoRoom, NotHeld, NotInOrder, WrongStride, BadMessage}
use Rattle.refusals.specs.declared.Refusal.{Refusal}
use Rattle.refusals.specs.declared.found.Found.{Found}
use Rattle.refusals.specs.declared.found.Reached.{Reached}
use Rattle.refusals.specs.declared.found.Lost.{Lost}

-- the column "When" of the table, line by line
abbrev pub short_file : ℕ
short_file = 1

abbrev pub wrong_version : ℕ
wrong_version = 2

abbrev pub wrong_size : ℕ
wrong_size = 3

abbrev pub long_prefix : ℕ
long_prefix = 4

abbrev pub spare_bits : ℕ
spare_bits = 5

abbrev pub wrong_port : ℕ
wrong_port = 6

abbrev pub not_above : ℕ
not_above = 7

abbrev pub too_many_routes : ℕ
too_many_routes = 8

abbrev pub no_room : ℕ
no_room = 9

abbrev pub not_held : ℕ
not_held = 10

abbrev pub not_in_order : ℕ
not_in_order = 11

abbrev pub wrong_stride : ℕ
wrong_stride = 12

-- 13 is not given, and no other refusal takes the number: it was for more than 8,193 runs, which 4,096 routes cannot have

abbrev pub bad_message : ℕ
bad_message = 14

-- the number of a fault in that table
abbrev pub number_of : Fault → ℕ
number_of ShortFile = short_file
number_of WrongVersion = wrong_version
number_of WrongSize = wrong_size
number_of LongPrefix = long_prefix
number_of SpareBits = spare_bits
number_of WrongPort = wrong_port
number_of NotAbove = not_above
number_of TooManyRoutes = too_many_routes
number_of NoRoom = no_room
number_of NotHeld = not_held
number_of NotInOrder = not_in_order
number_of WrongStride = wrong_stride
number_of BadMessage = bad_message

-- the number of what is wrong, 0 if nothing is
abbrev pub fault_number : Result Unit Fault → ℕ
fault_number (Ok _) = 0
fault_number (Err fault) = number_of fault

-- "A refusal returns its number and a place, all other results 0"
abbrev pub refused : ℕ → ℕ → Answer
refused number place = record { number = number; place = place; count = 0 }

-- of an update: "all other results 0 (n as it was ...)"
abbrev pub keeping_at : ℕ → ℕ → ℕ → Answer
keeping_at number place n = record { number = number; place = place; count = n }

-- "0 | done | 0"
abbrev pub accepted : ℕ → Answer
accepted count = record { number = 0; place = 0; count = count }

-- the order of checks: the first test that fails gives the number, 0 if none does
abbrev pub unless : Bool → ℕ → ℕ → ℕ
unless fine number rest = cond fine rest number

-- what comes after a check, if that accepts
abbrev pub and_then : Answer → Answer → Answer
and_then checked next = cond (eqb checked.number 0) next checked

-- what a lookup answers that is done: the port, and the rows or nodes read
abbrev pub found : ℕ → ℕ → Found
found port reads = record { number = 0; port = port; reads = reads }

-- a refused one: "all other results 0 (.. for a lookup the rows or nodes read so far)"
abbrev pub lost : ℕ → ℕ → Found
lost number reads = record { number = number; port = 0; reads = reads }

-- a refusal of a fault, at a place
abbrev pub refusal_at : Fault → ℕ → Refusal
refusal_at fault place = record { fault = fault; place = place }

-- what a call answers that has no other result, one that has, and an update of a table of n routes
abbrev pub checked : Result Unit Refusal → Answer
checked (Ok _) = accepted 0
checked (Err r) = refused (number_of r.fault) r.place

abbrev pub answered : Result ℕ Refusal → Answer
answered (Ok count) = accepted count
answered (Err r) = refused (number_of r.fault) r.place

abbrev pub updated : ℕ → Result ℕ Refusal → Answer
updated n (Ok count) = accepted count
updated n (Err r) = keeping_at (number_of r.fault) r.place n

-- what a lookup answers
abbrev pub found_of : Result Reached Lost → Found
found_of (Ok x) = found x.port x.reads
found_of (Err x) = lost (number_of x.fault) x.reads
