-- The starred bench examples hold. The withdrawal goes a step at a time, so that each computes with rows that are written out. Assumes
-- nothing.
use mathlib.Core.Path.{◌≡◌, refl, sym, ap, ap₂, ◌∙◌}
use mathlib.Core.Bool.{true, false}
use mathlib.Core.List.{List, [], ◌∷◌, ◌++◌}
use Prim.Native.Nat.{ℕ, ◌-◌, ◌^◌}
use lib.Count.{ones, ones_in}
use lib.ListN.{replicate}
use Rattle.promise.specs.Over.{Outcome, outcome}
use Rattle.bits.specs.Bits.{Bits, bits}
use Rattle.trie.specs.Scan.{longest, plain_scan}
use Rattle.trie.specs.Routes.{Route as BitRoute}
use Rattle.refusals.specs.Refusals.{accepted, found as answered}
use Rattle.refusals.specs.Reply.{Reply, looked, replied}
use Rattle.routes.specs.Routes.{route, route_at, no_route}
use Rattle.lists.specs.Numbered.{list_of}
use Rattle.routes.specs.Check.{fault_at, first_fault, routes_check, list_check}
use Rattle.routes.specs.declared.Route.{Route}
use Rattle.table_rows.specs.Words.{capacity, row_at, store_row, five_words}
use Rattle.table_rules.specs.Announce.{held_at}
use Rattle.table_rules.specs.Check.{seen, no_rows, seen_at, is_good}
use Rattle.demands.proofs.Steps.{seen_row, best_none, best_own, best_below_lem, cut_on_lem, cut_last, relink_on, relink_here}
use Rattle.table_rules.specs.Withdraw.{cut, relink, close_gap, withdrawn}
use Rattle.table_rules.specs.Lookup.{walk, lookup_in}
use Rattle.table_rules.proofs.Good.{check_is_good}
use Rattle.table_update.specs.Calls.{withdraw_in, withdraw_into}
use Rattle.table_update.specs.History.{withdrawing}
use Rattle.message_calls.specs.History.{single}
use Rattle.count_rules.specs.Counted.{counts_of, counted_on}
use Rattle.refusals.specs.declared.Answer.{Answer}
use Rattle.image_rules.specs.Image.{some_longer}
use Rattle.image_rules.specs.Lookup.{lookup_words}
use Rattle.image_rules.specs.Lookup as breadth
use Rattle.image_build.specs.Build.{Left, left, done_build, list_routes, build_image}
use Rattle.runs_rules.specs.Boundaries.{insert, boundaries, runs_by}
use Rattle.runs_rules.specs.Listing as runs
use Rattle.runs_rules.specs.Runs.{run}
use Rattle.runs_rules.proofs.Listing.{listed_boundaries}
use Rattle.maftehon.specs.Reply.{Imaged, replied_image, Booked, replied_book}
use Rattle.demands.specs.Exports.{exports}
use Rattle.demands.specs.Examples.{image-build, Answers, dirt, address, row, table_i, in_table_i, found, seven, six_nodes, seven_ports, two_halves, StarredHold}
use Rattle.demands.proofs.Follows.{exports_follow}
use Rattle.demands.proofs.Images.{image_is}
use Rattle.demands.proofs.OfCounts.{fresh_is_plain}
use Rattle.demands.proofs.Accepted.{no_routes_fine}

-- the route that a row of the rules' table holds
abbrev holding : ℕ → ℕ → ℕ → Route
holding bits len port = route (address bits len) len port

-- Table I is in good order: what the check has seen, row by row from below
good : is_good 32 11 (row_at table_i) 10 ≡ true
unfolding is_good row_at store_row
good =
    let M = row_at table_i in
    let row9 : seen_at 32 M 10 28 (address 15 4) 9 ≡ seen 1 (address 15 4) 4 = seen_row 32 M 10 27 (address 15 4) 9 no_rows no_rows refl refl refl in
    let row8 : seen_at 32 M 10 29 (address 7 3) 8 ≡ seen 2 (address 14 4) 4 = seen_row 32 M 10 28 (address 7 3) 8 no_rows (seen 1 (address 15 4) 4) refl refl row9 in
    let row5 : seen_at 32 M 10 30 (address 3 2) 5 ≡ seen 3 (address 14 4) 4 = seen_row 32 M 10 29 (address 3 2) 5 no_rows (seen 2 (address 14 4) 4) refl refl row8 in
    let row6 : seen_at 32 M 10 29 (address 4 3) 6 ≡ seen 1 (address 8 4) 4 = seen_row 32 M 10 28 (address 4 3) 6 no_rows no_rows refl refl refl in
    let row7 : seen_at 32 M 10 29 (address 5 3) 7 ≡ seen 1 (address 5 3) 3 = seen_row 32 M 10 28 (address 5 3) 7 no_rows no_rows refl refl refl in
    let row4 : seen_at 32 M 10 30 (address 2 2) 4 ≡ seen 3 (address 19 5) 5 = seen_row 32 M 10 29 (address 2 2) 4 (seen 1 (address 8 4) 4) (seen 1 (address 5 3) 3) refl row6 row7 in
    let row2 : seen_at 32 M 10 31 (address 1 1) 2 ≡ seen 7 (address 18 5) 5 = seen_row 32 M 10 30 (address 1 1) 2 (seen 3 (address 19 5) 5) (seen 3 (address 14 4) 4) refl row4 row5 in
    let row3 : seen_at 32 M 10 30 (address 1 2) 3 ≡ seen 1 (address 1 2) 2 = seen_row 32 M 10 29 (address 1 2) 3 no_rows no_rows refl refl refl in
    let row1 : seen_at 32 M 10 31 (address 0 1) 1 ≡ seen 2 (address 0 2) 2 = seen_row 32 M 10 30 (address 0 1) 1 no_rows (seen 1 (address 1 2) 2) refl refl row3 in
    let row0 : seen_at 32 M 10 32 0 0 ≡ seen 10 (address 38 6) 6 = seen_row 32 M 10 31 0 0 (seen 2 (address 0 2) 2) (seen 7 (address 18 5) 5) refl row1 row2 in
    rw row0

-- Table I with other rows 0, 2, 4, 6, 8 and 9
abbrev Fill : Type 0
Fill = List ℕ → List ℕ

abbrev table_with : Fill → Fill → Fill → Fill → Fill → Fill → List ℕ
table_with r0 r2 r4 r6 r8 r9 =
    r0 (row 0 2 2 0 3 (r2 (row 1 2 4 0 0 (r4 (row 3 2 6 0 8 (r6 (row 5 3 8 0 0 (r8 (r9 (dirt 7))))))))))

-- 10010 goes up to row 0
abbrev first : List ℕ
first = table_with (row 18 5 3 1 2) (row 18 5 3 4 5) (row 19 5 5 6 7) (row 8 4 7 0 0) (row 14 4 9 0 9) (row 15 4 10 0 0)

-- 10011 to row 2, since 11 is ordinary and hides 1110, which is shorter
abbrev second : List ℕ
second = table_with (row 18 5 3 1 2) (row 19 5 5 4 5) (row 19 5 5 6 7) (row 8 4 7 0 0) (row 14 4 9 0 9) (row 15 4 10 0 0)

-- 1000 to row 4, and row 6 falls away
abbrev third : List ℕ
third = table_with (row 18 5 3 1 2) (row 19 5 5 4 5) (row 8 4 7 0 7) (row 8 4 7 0 0) (row 14 4 9 0 9) (row 15 4 10 0 0)

-- row 8's right child is 6, to which 1111 moves
abbrev fourth : List ℕ
fourth = table_with (row 18 5 3 1 2) (row 19 5 5 4 5) (row 8 4 7 0 7) (row 8 4 7 0 0) (row 14 4 9 0 6) (row 15 4 10 0 0)

abbrev fifth : List ℕ
fifth = table_with (row 18 5 3 1 2) (row 19 5 5 4 5) (row 8 4 7 0 7) (row 15 4 10 0 0) (row 14 4 9 0 6) (row 0 0 0 0 0)

cut_is : cut five_words 32 32 table_i 0 (holding 38 6 0) ≡ record { rows = third; freed = 6 }
unfolding row_at store_row
cut_is =
    let M = row_at table_i in
    let F = row_at first in
    let S = row_at second in
    cut_on_lem 31 0 table_i (holding 38 6 0) (holding 0 2 2) (holding 18 5 3) (holding 18 5 3) refl (best_own 32 M 30 1 refl refl) (best_own 32 M 30 2 refl refl) refl 2 refl
    first refl refl
    ∙ cut_on_lem 30 2 first (holding 18 5 3) (holding 19 5 5) (holding 14 4 9) (holding 19 5 5) refl (best_own 32 F 29 4 refl refl)
    (best_below_lem 32 F 29 5 no_route (holding 14 4 9) refl refl (best_none 32 F 29 0 refl) (best_own 32 F 28 8 refl refl)) refl 4 refl second refl refl
    ∙ cut_last 29 4 second (holding 19 5 5) (holding 8 4 7) (holding 5 3 8) (holding 8 4 7) refl (best_own 32 S 28 6 refl refl)
    (best_below_lem 32 S 28 7 no_route no_route refl refl (best_none 32 S 28 0 refl) (best_none 32 S 28 0 refl)) refl 6 refl third refl refl

relink_is : relink five_words 32 32 third 0 (address 15 4) 9 6 ≡ fourth
unfolding row_at store_row
relink_is =
    relink_on 31 0 third (address 15 4) 9 6 2 refl refl
    ∙ relink_on 30 2 third (address 15 4) 9 6 5 refl refl
    ∙ relink_on 29 5 third (address 15 4) 9 6 8 refl refl
    ∙ relink_here 28 8 third (address 15 4) 9 6 9 refl fourth refl refl

withdrawn_is : withdrawn five_words 32 table_i 10 (holding 38 6 0) ≡ fifth
unfolding withdrawn close_gap row_at store_row
withdrawn_is = rw (cut_is, relink_is)

withdrawal_is : withdraw_into five_words 32 table_i 10 (address 38 6) 6 ≡ outcome (accepted 9) fifth
unfolding withdraw_into withdraw_in held_at row_at store_row
withdrawal_is = rw (good, withdrawn_is)

-- the seven routes, by their bits
abbrev of_bits : Bits → ℕ → BitRoute
of_bits bits port = record { prefix = bits; port = port }

abbrev seven_bits : List BitRoute
seven_bits =
    of_bits (false ∷ false ∷ false ∷ []) 3 ∷ of_bits (false ∷ false ∷ true ∷ []) 4 ∷ of_bits (false ∷ true ∷ []) 1
    ∷ of_bits (true ∷ false ∷ []) 2 ∷ of_bits (true ∷ true ∷ false ∷ false ∷ []) 6 ∷ of_bits (true ∷ true ∷ false ∷ true ∷ []) 7
    ∷ of_bits (true ∷ true ∷ true ∷ []) 5 ∷ []

seven_listed : list_routes 32 seven ≡ seven_bits
unfolding list_of bits
seven_listed = refl

seven_fine : list_check 32 seven ≡ accepted 0
unfolding list_check routes_check first_fault fault_at
seven_fine = refl

nine : build_image 32 1 seven (dirt 16) (dirt 9) ≡ left (done_build 6 7) six_nodes seven_ports
unfolding some_longer list_of bits longest plain_scan
nine =
    image_is 1 seven (0 ∷ 1 ∷ 1 ∷ 2 ∷ 2 ∷ 2 ∷ 3 ∷ 2 ∷ 1 ∷ 1 ∷ 3 ∷ 1 ∷ []) (1 ∷ 2 ∷ 3 ∷ 4 ∷ 5 ∷ 6 ∷ 7 ∷ []) seven_bits seven_listed
    seven_fine refl refl refl (dirt 16) (dirt 9) refl

ten : build_image 32 2 seven (dirt 8) (dirt 12)
    ≡ left (done_build 3 10) (6 ∷ 1 ∷ 15 ∷ 2 ∷ 15 ∷ 1 ∷ dirt 2) (1 ∷ 2 ∷ 3 ∷ 3 ∷ 4 ∷ 4 ∷ 6 ∷ 7 ∷ 5 ∷ 5 ∷ dirt 2)
unfolding some_longer list_of bits longest plain_scan
ten =
    image_is 2 seven (6 ∷ 1 ∷ 15 ∷ 2 ∷ 15 ∷ 1 ∷ []) (1 ∷ 2 ∷ 3 ∷ 3 ∷ 4 ∷ 4 ∷ 6 ∷ 7 ∷ 5 ∷ 5 ∷ []) seven_bits seven_listed seven_fine refl refl refl
    (dirt 8) (dirt 12) refl

eleven : build_image 32 4 [] (dirt 3) (dirt 17) ≡ left (done_build 1 16) (65535 ∷ 1 ∷ dirt 1) (replicate 16 0 ++ dirt 1)
unfolding some_longer list_of bits longest plain_scan
eleven = image_is 4 [] (65535 ∷ 1 ∷ []) (replicate 16 0) [] refl no_routes_fine refl refl refl (dirt 3) (dirt 17) refl

three_runs : runs.listed 32 (route_at two_halves) 2
    ≡ run 0 (address 10 8 - 1) 0 ∷ run (address 10 8) (address 11 8 - 1) 7 ∷ run (address 11 8) (2 ^ 32 - 1) 0 ∷ []
unfolding boundaries insert runs_by list_of longest plain_scan
three_runs = listed_boundaries 32 (route_at two_halves) 2

two_halves_fine : list_check 32 two_halves ≡ accepted 0
unfolding list_check routes_check first_fault fault_at
two_halves_fine = refl

twelve : runs.list_runs 32 two_halves (dirt 11)
    ≡ outcome (accepted 3)
    (0 ∷ (address 10 8 - 1) ∷ 0 ∷ address 10 8 ∷ (address 11 8 - 1) ∷ 7 ∷ address 11 8 ∷ (2 ^ 32 - 1) ∷ 0 ∷ dirt 2)
unfolding runs.list_runs runs.write_runs
twelve = rw (two_halves_fine, three_runs)

-- an answer that the contract allows is the definition's, and that is computed
looked_is : (bits len port reads : ℕ) → lookup_in 32 (capacity table_i) (row_at table_i) 10 (address bits len) ≡ answered port reads
    → (words : List ℕ) → Answers exports (in_table_i bits len) words → words ≡ found port reads
looked_is bits len port reads is words x =
    sym x.2 ∙ ap (λ (y : Reply). y.number ∷ y.answer) (exports_follow.table-lookup table_i 10 (address bits len) x.0 x.1 ∙ ap looked is)

abbrev image_words : Imaged → List ℕ
image_words x = (x.reply.number ∷ x.reply.answer) ++ x.nodes ++ x.ports

imaged_is : (s : ℕ) (list nodes ports : List ℕ) (y : Left) → build_image 32 s list nodes ports ≡ y
    → (words : List ℕ) → Answers exports (image-build s list nodes ports) words → words ≡ image_words (replied_image y)
imaged_is s list nodes ports y is words x =
    sym x.2 ∙ ap image_words (exports_follow.image-build s list nodes ports x.0 x.1 ∙ ap replied_image is)

abbrev whole_words : Outcome Reply → List ℕ
whole_words o = (o.answer.number ∷ o.answer.answer) ++ o.lent

-- lent the counts of its table, the withdrawal answers and leaves what it does without counts
abbrev book_words : Booked → List ℕ
book_words x = (x.reply.number ∷ x.reply.answer) ++ x.rows

eight : book_words (replied_book (counted_on five_words 32 table_i 10 (counts_of five_words 32 table_i 10) (single (withdrawing (address 38 6) 6))))
    ≡ whole_words (replied (outcome (accepted 9) fifth))
eight =
    let order = (check_is_good 32 (capacity table_i) (row_at table_i) 10).0 good in
    let k = fresh_is_plain table_i 10 (single (withdrawing (address 38 6) 6)) order.0 order.1 in
    ap₂ (λ (a : Answer) (rows : List ℕ). whole_words (replied (outcome a rows))) k.0 k.1 ∙ ap (λ (o : Outcome Answer). whole_words (replied o)) withdrawal_is

nine_found : lookup_words 32 1 six_nodes seven_ports (address 5 4) ≡ answered 1 2
unfolding breadth.walk lookup_words ones ones_in
nine_found = refl

pub starred_hold : StarredHold
unfolding walk lookup_in row_at store_row
starred_hold = (
  looked_is 38 6 1 1 refl,
  (
    looked_is 0 2 2 2 refl,
    (
      looked_is 18 5 3 2 refl,
      (
        looked_is 8 4 7 4 refl,
        (
          looked_is 5 3 8 4 refl,
          (
            looked_is 13 4 6 3 refl,
            (
              looked_is 15 4 10 5 refl,
              (
                λ words x.
                    sym x.2 ∙ ap book_words (exports_follow.update table_i 10 _ (single (withdrawing (address 38 6) 6)) x.0 x.1) ∙ eight,
                (
                  imaged_is 1 seven (dirt 16) (dirt 9) _ nine,
                  (
                    λ words x.
                        sym x.2
                        ∙ ap (λ (y : Reply). y.number ∷ y.answer)
                        (exports_follow.image-lookup 1 six_nodes seven_ports (address 5 4) x.0 x.1 ∙ ap looked nine_found),
                    (
                      imaged_is 2 seven (dirt 8) (dirt 12) _ ten,
                      (
                        imaged_is 4 [] (dirt 3) (dirt 17) _ eleven,
                        (
                          λ words x.
                              sym x.2 ∙ ap whole_words (exports_follow.list-runs two_halves (dirt 11) x.0 x.1 ∙ ap replied twelve),
                          tt,
                        ),
                      ),
                    ),
                  ),
                ),
              ),
            ),
          ),
        ),
      ),
    ),
  ),
)
