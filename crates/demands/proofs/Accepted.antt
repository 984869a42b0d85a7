-- Something that each call may not refuse, by its checks: an empty file, list, table or image, or the whole space to port 1. Assumes
-- nothing.
use mathlib.Core.Path.{◌≡◌, refl, ap, subst, ◌∙◌}
use mathlib.Core.Bool.{true}
use mathlib.Core.List.{List, [], ◌∷◌}
use Prim.Native.Nat.{ℕ, ◌-◌, ◌^◌, ◌≤◌}
use native.Mathlib.Omega.{arith}
use lib.Count.{ones, ones_in}
use lib.ListN.{length, get_or, replicate}
use borrow.Author.Tests.{le-leb}
use Rattle.promise.specs.Over.{Outcome}
use Rattle.bits.specs.Bits.{bits}
use Rattle.trie.specs.Scan.{longest, plain_scan}
use Rattle.trie.specs.Routes.{Route as BitRoute}
use Rattle.refusals.specs.Refusals.{accepted}
use Rattle.refusals.specs.Reply.{Reply}
use Rattle.refusals.specs.declared.Answer.{Answer}
use Rattle.refusals.specs.declared.found.Found.{Found}
use Rattle.routes.specs.Routes.{route_at}
use Rattle.lists.specs.Numbered.{list_of, in_order}
use Rattle.routes.specs.Check.{fault_at, first_fault, routes_check, list_check}
use Rattle.routes.specs.Scan.{scan_of}
use Rattle.file_rules.specs.Theorems.{empty_file}
use Rattle.file_rules.proofs.Trips.{empty_file_lem}
use Rattle.table_rows.specs.Words.{row_at, store_row, five_words}
use Rattle.table_rules.specs.Check.{is_good}
use Rattle.table_rules.specs.Save.{save_into}
use Rattle.table_rules.proofs.Good.{check_is_good}
use Rattle.table_update.specs.Calls.{build_into}
use Rattle.many_rules.specs.Many.{lookup_many}
use Rattle.many_rules.proofs.Many.{many_done}
use Rattle.image_rules.specs.Image.{some_longer}
use Rattle.image_rules.specs.Lookup as image
use Rattle.image_rules.specs.Lookup.{lookup_words}
use Rattle.image_lookup.specs.Many.{many_words}
use Rattle.image_build.specs.Build.{Left, left, done_build, build_image}
use Rattle.runs_rules.specs.Runs.{Run, run, Lists}
use Rattle.runs_rules.specs.Listing.{write_runs}
use Rattle.runs_rules.specs.TableRuns.{table_routes, table_runs}
use Rattle.runs_rules.proofs.Listing.{listed_lists, listed_none, list_runs_done}
use Rattle.segment_rules.specs.Tables.{first_size}
use Rattle.segment_rules.specs.Build.{Stores, build_segments, lookup_stores}
use Rattle.octets.specs.Bytes.{digits}
use Rattle.message_rules.specs.Written.{write_message}
use Rattle.message_calls.specs.History.{message}
use Rattle.count_rules.specs.Tally.{ports}
use Rattle.count_rules.specs.Counted.{counts_of, make_counts, counted_on}
use Rattle.count_rules.proofs.Counted.{length_counts}
use Rattle.maftehon.specs.Reply.{Segmented}
use Rattle.demands.specs.SegmentChecks.{SixteenBits}
use Rattle.demands.specs.Boundary.{Boundary}
use Rattle.demands.specs.Demands.{Demand1}
use Rattle.demands.specs.Impostors.{NoCallRefusesAll}
use Rattle.demands.proofs.Decided.{demand_1_decides}
use Rattle.demands.proofs.OfLists.{read_refuses, write_refuses, check_refuses, list_runs_refuses}
use Rattle.demands.proofs.OfTables.{table_check_refuses, build_refuses, save_refuses, table_runs_refuses}
use Rattle.demands.proofs.OfImages.{image_build_refuses, image_lookup_refuses}
use Rattle.demands.proofs.OfSegments.{segments_build_refuses, words_on}
use Rattle.demands.proofs.OfMany.{many_refuses, image_many_refuses, many_strided}
use Rattle.demands.proofs.OfMessages.{withdrawal_refuses}
use Rattle.demands.proofs.OfCounts.{make_refuses, update_refuses, fresh_is_plain}
use Rattle.demands.proofs.Messages.{nothing, nothing_bytes, nothing_applied}
use Rattle.demands.proofs.Images.{image_is}
use Rattle.demands.proofs.Roomy.{Roomy, few_built, zero_found, zero_stores, zeros_roomy, zeros_bits}

abbrev pub whole_space : List ℕ
whole_space = 0 ∷ 0 ∷ 1 ∷ []

pub no_routes_fine : list_check 32 [] ≡ accepted 0
unfolding list_check routes_check first_fault
no_routes_fine = refl

pub whole_space_fine : list_check 32 whole_space ≡ accepted 0
unfolding list_check routes_check first_fault fault_at
whole_space_fine = refl

-- their tables
abbrev number_of : Outcome Answer → ℕ
number_of o = o.answer.number

pub no_routes_built : number_of (build_into five_words 32 [] []) ≡ 0
unfolding build_into
no_routes_built = rw no_routes_fine

pub whole_space_built : number_of (build_into five_words 32 whole_space (replicate 5 0)) ≡ 0
unfolding build_into
whole_space_built = rw whole_space_fine

-- the message that withdraws none
none_written : number_of (write_message 32 [] (replicate 23 0)) ≡ 0
unfolding write_message in_order digits
none_written = rw no_routes_fine

-- and their images, at stride 1
abbrev whole_bits : List BitRoute
whole_bits = record { prefix = []; port = 1 } ∷ []

pub no_routes_imaged : build_image 32 1 [] (replicate 2 0) (replicate 2 0) ≡ left (done_build 1 2) (3 ∷ 1 ∷ []) (0 ∷ 0 ∷ [])
unfolding some_longer list_of bits longest plain_scan
no_routes_imaged = image_is 1 [] (3 ∷ 1 ∷ []) (0 ∷ 0 ∷ []) [] refl no_routes_fine refl refl refl (replicate 2 0) (replicate 2 0) refl

pub whole_space_imaged : build_image 32 1 whole_space (replicate 2 0) (replicate 2 0) ≡ left (done_build 1 2) (3 ∷ 1 ∷ []) (1 ∷ 1 ∷ [])
unfolding some_longer list_of bits longest plain_scan
whole_space_imaged =
    image_is 1 whole_space (3 ∷ 1 ∷ []) (1 ∷ 1 ∷ []) whole_bits refl whole_space_fine refl refl refl (replicate 2 0) (replicate 2 0) refl

image_found : (lookup_words 32 1 (3 ∷ 1 ∷ []) (0 ∷ 0 ∷ []) 0).number ≡ 0
unfolding lookup_words image.walk ones ones_in
image_found = refl

-- their segment tables, in stores with room
pub no_routes_segmented : (s : Stores) → Roomy s → (build_segments [] s).built.number ≡ 0
no_routes_segmented s room = few_built [] s no_routes_fine (omega arith) room

pub whole_space_segmented : (s : Stores) → Roomy s → (build_segments whole_space s).built.number ≡ 0
whole_space_segmented s room = few_built whole_space s whole_space_fine (omega arith) room

module _ (B : Boundary) (d : Demand1 B) (s : Stores) where
  segments_built : Roomy s → (x : Segmented) → B.segments-build [] s x → x.reply.number ≡ 0
  segments_built room x m =
      (demand_1_decides.segments-build [] s _ _ _ _ (d.segments-build [] s x m).exact (segments_build_refuses [] s).exact).0
      ∙ no_routes_segmented s room

  segments_found : SixteenBits s → first_size ≤ length s.first → get_or s.first 0 0 ≡ 0 → (x : Reply) → B.segments-lookup s 0 x → x.number ≡ 0
  segments_found bits long is x m =
      (demand_1_decides.segments-lookup s 0 _ _ _ _ (d.segments-lookup s 0 x bits m).exact (words_on (λ _. 0) s 0 bits).exact).0
      ∙ zero_found s long is

-- the runs of no route
one_run : Lists (scan_of 32 (route_at []) 0) (2 ^ 32) 0 (run 0 (2 ^ 32 - 1) 0 ∷ [])
one_run = subst (Lists (scan_of 32 (route_at []) 0) (2 ^ 32) 0) (listed_none 32 (route_at [])) (listed_lists 32 (route_at []) 0)

-- a table of no route is in good order, and its listing is the one run
no_rows_listed : table_runs 32 0 (row_at []) 0 (replicate 3 0) ≡ write_runs (run 0 (2 ^ 32 - 1) 0 ∷ []) (replicate 3 0)
unfolding table_runs is_good row_at store_row
no_rows_listed = ap (λ (rs : List Run). write_runs rs (replicate 3 0)) (listed_none 32 (table_routes 32 (row_at []) 0))

one_run_fits : number_of (write_runs (run 0 (2 ^ 32 - 1) 0 ∷ []) (replicate 3 0)) ≡ 0
unfolding write_runs
one_run_fits = refl

-- the counts of a table of no route, made afresh and lent to a message with nothing in it
abbrev no_counts : List ℕ
no_counts = counts_of five_words 32 [] 0

no_rows_good : is_good 32 0 (row_at []) 0 ≡ true
unfolding is_good row_at store_row
no_rows_good = refl

none_counted : number_of (make_counts five_words 32 [] 0 no_counts) ≡ 0
unfolding make_counts
none_counted = rw (le-leb ports (length no_counts) (omega (arith, length_counts 32 (row_at []) 0)), no_rows_good)

nothing_counted : (counted_on five_words 32 [] 0 no_counts (message nothing 1)).answer.number ≡ 0
nothing_counted =
    ap (λ (a : Answer). a.number)
    (fresh_is_plain [] 0 (message nothing 1) ((check_is_good 32 0 (row_at []) 0).0 no_rows_good).0 ((check_is_good 32 0 (row_at []) 0).0 no_rows_good).1).0
    ∙ nothing_applied

-- one address, with room for its element
one_with_room : (look : ℕ → Found) → (lookup_many look (0 ∷ []) (0 ∷ [])).answer.number ≡ 0
one_with_room look = ap (λ (o : Outcome Answer). o.answer.number) (many_done look (0 ∷ []) (0 ∷ []) (omega arith))

one_looked : (many_words 32 1 (3 ∷ 1 ∷ []) (0 ∷ 0 ∷ []) (0 ∷ []) (0 ∷ [])).answer.number ≡ 0
one_looked =
    ap (λ (o : Outcome Answer). o.answer.number) (many_strided 32 1 (3 ∷ 1 ∷ []) (0 ∷ 0 ∷ []) (0 ∷ []) (0 ∷ []) refl)
    ∙ one_with_room (lookup_words 32 1 (3 ∷ 1 ∷ []) (0 ∷ 0 ∷ []))

pub no_call_refuses_all : NoCallRefusesAll
unfolding is_good save_into row_at store_row
no_call_refuses_all B d =
    let D = demand_1_decides in record {
      file-read = (
        empty_file,
        [],
        λ o m. (D.file-read empty_file [] _ _ _ _ (d.file-read empty_file [] o m).exact (read_refuses 32 empty_file []).exact).0 ∙ ap number_of (empty_file_lem 32 []).0,
      );
      file-write = (
        [],
        replicate 5 0,
        λ o m. (D.file-write [] (replicate 5 0) _ _ _ _ (d.file-write [] (replicate 5 0) o m).exact (write_refuses 32 [] (replicate 5 0)).exact).0
            ∙ ap number_of ((empty_file_lem 32 (replicate 5 0)).1 (omega arith)),
      );
      list-check = (
        [],
        λ x m. (D.list-check [] _ _ _ _ (d.list-check [] x m).exact (check_refuses 32 []).exact).0 ∙ ap (λ (y : Answer). y.number) no_routes_fine,
      );
      list-scan = (
        [],
        0,
        λ x m. (D.list-check [] _ _ _ _ (d.list-scan [] 0 x m).exact (check_refuses 32 []).exact).0 ∙ ap (λ (y : Answer). y.number) no_routes_fine,
      );
      list-runs = (
        [],
        replicate 3 0,
        λ o m. (D.list-runs [] (replicate 3 0) _ _ _ _ (d.list-runs [] (replicate 3 0) o m).exact (list_runs_refuses 32 [] (replicate 3 0)).exact).0
            ∙ ap number_of (list_runs_done 32 [] (replicate 3 0) (run 0 (2 ^ 32 - 1) 0 ∷ []) (ap (λ (y : Answer). y.number) no_routes_fine) one_run (omega arith)),
      );
      table-check = ([], 0, λ x m. (D.table-check [] 0 _ _ _ _ (d.table-check [] 0 x m).exact (table_check_refuses 32 [] 0).exact).0);
      table-build = ([], [], λ o m. (D.table-build [] [] _ _ _ _ (d.table-build [] [] o m).exact (build_refuses 32 [] []).exact).0 ∙ no_routes_built);
      table-save = ([], 0, [], λ o m. (D.table-save [] 0 [] _ _ _ _ (d.table-save [] 0 [] o m).exact (save_refuses 32 [] 0 []).exact).0);
      table-runs = (
        [],
        0,
        replicate 3 0,
        λ o m. (D.table-runs [] 0 (replicate 3 0) _ _ _ _ (d.table-runs [] 0 (replicate 3 0) o m).exact (table_runs_refuses 32 [] 0 (replicate 3 0)).exact).0
            ∙ ap number_of no_rows_listed ∙ one_run_fits,
      );
      image-build = (
        1,
        [],
        replicate 2 0,
        replicate 2 0,
        λ x m. (D.image-build 1 [] (replicate 2 0) (replicate 2 0) _ _ _ _ (d.image-build 1 [] (replicate 2 0) (replicate 2 0) x m).exact
            (image_build_refuses 32 1 [] (replicate 2 0) (replicate 2 0)).exact).0
            ∙ ap (λ (y : Left). y.built.number) no_routes_imaged,
      );
      image-lookup = (
        1,
        3 ∷ 1 ∷ [],
        0 ∷ 0 ∷ [],
        0,
        λ x m. (D.image-lookup 1 (3 ∷ 1 ∷ []) (0 ∷ 0 ∷ []) 0 _ _ _ _ (d.image-lookup 1 (3 ∷ 1 ∷ []) (0 ∷ 0 ∷ []) 0 x m).exact
            (image_lookup_refuses 32 1 (3 ∷ 1 ∷ []) (0 ∷ 0 ∷ []) 0).exact).0
            ∙ image_found,
      );
      image-lookup-many = (
        1,
        3 ∷ 1 ∷ [],
        0 ∷ 0 ∷ [],
        0 ∷ [],
        0 ∷ [],
        λ o m. (D.image-lookup-many 1 (0 ∷ []) (0 ∷ []) _ _ _ _ (d.image-lookup-many 1 (3 ∷ 1 ∷ []) (0 ∷ 0 ∷ []) (0 ∷ []) (0 ∷ []) o m).exact
            (image_many_refuses 32 1 (3 ∷ 1 ∷ []) (0 ∷ 0 ∷ []) (0 ∷ []) (0 ∷ [])).exact).0
            ∙ one_looked,
      );
      segments-build = ([], zero_stores, segments_built B d zero_stores zeros_roomy);
      segments-lookup = (zero_stores, 0, segments_found B d zero_stores zeros_bits zeros_roomy.first refl);
      segments-lookup-many = (
        zero_stores,
        0 ∷ [],
        0 ∷ [],
        λ o m. (D.segments-lookup-many (0 ∷ []) (0 ∷ []) _ _ _ _ (d.segments-lookup-many zero_stores (0 ∷ []) (0 ∷ []) o m).exact
            (many_refuses (lookup_stores zero_stores) (0 ∷ []) (0 ∷ [])).exact).0
            ∙ one_with_room (lookup_stores zero_stores),
      );
      segments-entries = ([], [], 0, λ x m. (d.segments-entries [] [] 0 x m).exact.0);
      message-write = (
        [],
        replicate 23 0,
        λ o m. (D.message-write [] (replicate 23 0) _ _ _ _ (d.message-write [] (replicate 23 0) o m).exact (withdrawal_refuses 32 [] (replicate 23 0)).exact).0
            ∙ none_written,
      );
      counts-make = (
        [],
        0,
        no_counts,
        λ o m. (D.counts-make [] 0 no_counts _ _ _ _ (d.counts-make [] 0 no_counts o m).exact (make_refuses 32 [] 0 no_counts).exact).0 ∙ none_counted,
      );
      message_applied = (
        [],
        0,
        no_counts,
        nothing,
        1,
        λ x m. (D.update [] 0 no_counts (message nothing 1) _ _ _ _ (d.update [] 0 no_counts (message nothing 1) x nothing_bytes m).exact
            (update_refuses 32 refl [] 0 no_counts (message nothing 1) nothing_bytes).exact).0
            ∙ nothing_counted,
      );
    }
