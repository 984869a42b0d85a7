-- States the starred bench examples of the rules as one table: what is asked through which call, and what the rules print. Where a call
-- writes, it is lent memory that holds other words before, and more of it than is needed. Assumes nothing.
use Rattle.std.specs.Prelude.{◌≡◌, List, [], ◌∷◌, ◌++◌, ℕ, ◌+◌, ◌-◌, ◌*◌, ◌^◌, replicate}
use Rattle.promise.specs.Over.{Outcome}
use Rattle.refusals.specs.Reply.{Reply}
use Rattle.table_rows.specs.Words.{five_words}
use Rattle.table_update.specs.History.{withdrawing}
use Rattle.message_calls.specs.History.{single}
use Rattle.count_rules.specs.Counted.{counts_of}
use Rattle.maftehon.specs.Reply.{Imaged, Booked}
use Rattle.demands.specs.Boundary.{Boundary}
use Rattle.demands.specs.Exports.{exports}

-- a call, and what it is handed
pub data Question : Type 0 where
  table-lookup : (rows : List ℕ) (n address : ℕ) → Question
  table_withdraw : (rows : List ℕ) (n value len : ℕ) → Question
  image-build : (stride : ℕ) (list nodes ports : List ℕ) → Question
  image-lookup : (stride : ℕ) (nodes ports : List ℕ) (address : ℕ) → Question
  list-runs : (list runs : List ℕ) → Question

-- what may be seen of it: the number returned, the words of `answer`, and every word of the memory lent to be written; a withdrawal is lent
-- the counts of its table, and its rows are seen
abbrev pub Answers : Boundary → Question → List ℕ → Type 0
Answers B (table-lookup rows n address) words = (x : Reply) × B.table-lookup rows n address x × (x.number ∷ x.answer ≡ words)
Answers B (table_withdraw rows n value len) words =
    (x : Booked) × B.update rows n (counts_of five_words 32 rows n) (single (withdrawing value len)) x
    × ((x.reply.number ∷ x.reply.answer) ++ x.rows ≡ words)
Answers B (image-build stride list nodes ports) words =
    (x : Imaged) × B.image-build stride list nodes ports x × ((x.reply.number ∷ x.reply.answer) ++ x.nodes ++ x.ports ≡ words)
Answers B (image-lookup stride nodes ports address) words =
    (x : Reply) × B.image-lookup stride nodes ports address x × (x.number ∷ x.answer ≡ words)
Answers B (list-runs list runs) words =
    (o : Outcome Reply) × B.list-runs list runs o × ((o.answer.number ∷ o.answer.answer) ++ o.lent ≡ words)

pub record Example : Type 0 where
  pub number : ℕ
  pub question : Question
  pub printed : List ℕ

abbrev pub example : ℕ → Question → List ℕ → Example
example number question printed = record { number = number; question = question; printed = printed }

-- so many words that were there before
abbrev pub dirt : ℕ → List ℕ
dirt k = replicate k 9

-- a prefix as the rules write it: its bits as a number, and how many they are; "Addresses below go on with zeros."
abbrev pub address : ℕ → ℕ → ℕ
address bits len = bits * 2 ^ (32 - len)

-- a row, and the words after it
abbrev pub row : ℕ → ℕ → ℕ → ℕ → ℕ → List ℕ → List ℕ
row bits len port left right rest = address bits len ∷ len ∷ port ∷ left ∷ right ∷ rest

-- "rows 0..9 hold 100110, 00, 10010, 01, 10011, 11, 1000, 101, 1110, 1111; children (1,2), (-,3), (4,5), -, (6,7), (-,8), -, -,
-- (-,9), -. In the stored rows a dash is 0, and row r has port r+1." A row and two words more are lent.
abbrev pub table_i : List ℕ
table_i =
    row 38 6 1 1 2
    (row 0 2 2 0 3
    (row 18 5 3 4 5
    (row 1 2 4 0 0
    (row 19 5 5 6 7
    (row 3 2 6 0 8
    (row 8 4 7 0 0
    (row 5 3 8 0 0
    (row 14 4 9 0 9
    (row 15 4 10 0 0 (dirt 7))))))))))

-- a lookup in it
abbrev pub in_table_i : ℕ → ℕ → Question
in_table_i bits len = table-lookup table_i 10 (address bits len)

-- number and place 0, the port, and the rows or nodes read
abbrev pub found : ℕ → ℕ → List ℕ
found port reads = 0 ∷ 0 ∷ port ∷ reads ∷ []

-- "Routes 01, 10, 000, 001, 111, 1100, 1101 with ports 1..7", in list order
abbrev pub seven : List ℕ
seven =
    address 0 3 ∷ 3 ∷ 3 ∷ address 1 3 ∷ 3 ∷ 4 ∷ address 1 2 ∷ 2 ∷ 1 ∷ address 2 2 ∷ 2 ∷ 2 ∷ address 12 4 ∷ 4 ∷ 6
    ∷ address 13 4 ∷ 4 ∷ 7 ∷ address 7 3 ∷ 3 ∷ 5 ∷ []

-- its nodes at stride 1: "bitmaps 0,1,2,3,1,3", and "offsets become 1,2,2,2,1,1"
abbrev pub six_nodes : List ℕ
six_nodes = 0 ∷ 1 ∷ 1 ∷ 2 ∷ 2 ∷ 2 ∷ 3 ∷ 2 ∷ 1 ∷ 1 ∷ 3 ∷ 1 ∷ dirt 4

-- "ports 1..7"
abbrev pub seven_ports : List ℕ
seven_ports = 1 ∷ 2 ∷ 3 ∷ 4 ∷ 5 ∷ 6 ∷ 7 ∷ dirt 2

-- number and place 0, nodes and ports, and the two memories
abbrev pub image_of : ℕ → ℕ → List ℕ → List ℕ → List ℕ
image_of nodes ports node_words portWords = (0 ∷ 0 ∷ nodes ∷ ports ∷ []) ++ node_words ++ portWords

-- "10.0.0.0/9 and 10.128.0.0/9, both port 7: three runs"
abbrev pub two_halves : List ℕ
two_halves = (10 * 2 ^ 24) ∷ 9 ∷ 7 ∷ (10 * 2 ^ 24 + 2 ^ 23) ∷ 9 ∷ 7 ∷ []

abbrev pub starred : List Example
starred =
    example 1 (in_table_i 38 6) (found 1 1)
    ∷ example 2 (in_table_i 0 2) (found 2 2)
    ∷ example 3 (in_table_i 18 5) (found 3 2)
    ∷ example 4 (in_table_i 8 4) (found 7 4)
    ∷ example 5 (in_table_i 5 3) (found 8 4)
    ∷ example 6 (in_table_i 13 4) (found 6 3)
    ∷ example 7 (in_table_i 15 4) (found 10 5)
    ∷ example 8 (table_withdraw table_i 10 (address 38 6) 6)
    (0 ∷ 0 ∷ 9 ∷
    row 18 5 3 1 2
    (row 0 2 2 0 3
    (row 19 5 5 4 5
    (row 1 2 4 0 0
    (row 8 4 7 0 7
    (row 3 2 6 0 8
    (row 15 4 10 0 0
    (row 5 3 8 0 0
    (row 14 4 9 0 6
    (row 0 0 0 0 0 (dirt 7)))))))))))
    ∷ example 9 (image-build 1 seven (dirt 16) (dirt 9)) (image_of 6 7 six_nodes seven_ports)
    ∷ example 9 (image-lookup 1 six_nodes seven_ports (address 5 4)) (found 1 2)
    ∷ example 10 (image-build 2 seven (dirt 8) (dirt 12))
    (image_of 3 10 (6 ∷ 1 ∷ 15 ∷ 2 ∷ 15 ∷ 1 ∷ dirt 2) (1 ∷ 2 ∷ 3 ∷ 3 ∷ 4 ∷ 4 ∷ 6 ∷ 7 ∷ 5 ∷ 5 ∷ dirt 2))
    ∷ example 11 (image-build 4 [] (dirt 3) (dirt 17)) (image_of 1 16 (65535 ∷ 1 ∷ dirt 1) (replicate 16 0 ++ dirt 1))
    ∷ example 12 (list-runs two_halves (dirt 11))
    (0 ∷ 0 ∷ 3
    ∷ 0 ∷ (address 10 8 - 1) ∷ 0
    ∷ address 10 8 ∷ (address 11 8 - 1) ∷ 7
    ∷ address 11 8 ∷ (2 ^ 32 - 1) ∷ 0 ∷ dirt 2)
    ∷ []

-- the calls of a boundary answer every example of a table as printed, and in no other way
abbrev pub AllHold : Boundary → List Example → Type 0
AllHold B [] = Unit {0}
AllHold B (x ∷ xs) = ((words : List ℕ) → Answers B x.question words → words ≡ x.printed) × AllHold B xs

abbrev pub StarredHold : Type 0
StarredHold = AllHold exports starred
