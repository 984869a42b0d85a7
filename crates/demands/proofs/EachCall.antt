-- What holds of one check of a call and of two ways to go on holds of the checks of every call. None of them shows the
-- unused number. Assumes nothing.
use mathlib.Core.Path.{◌≡◌, refl}
use mathlib.Core.Bool.{false}
use mathlib.Core.List.{List}
use Prim.Native.Nat.{ℕ, zero, suc, ◌+◌, ◌-◌, ◌/◌}
use lib.Dec.{eqb}
use lib.ListN.{length}
use Rattle.routes.specs.Routes.{route_at, route_count}
use Rattle.routes.specs.declared.Route.{Route}
use Rattle.file_rules.specs.File.{head_size}
use Rattle.table_rules.specs.Rows.{Mem}
use Rattle.table_rows.specs.Words.{row_at}
use Rattle.demands.specs.Lamp.{Verdict, shows, done, whether, refuse}
use Rattle.demands.specs.Checks.{route_checks, each_route, list_checks, each_in_file, file_checks, row_checks, node_checks}
use Rattle.segment_rules.specs.Build.{Stores}
use Rattle.demands.specs.SegmentChecks.{port_checks, entry_checks, word_checks}
use Rattle.octets.specs.Octets.{prefix_size, len_at}
use Rattle.message_rules.specs.Message.{withdrawn_at, announced_at, withdrawn_part, announced_part}
use Rattle.demands.specs.MessageChecks.{each_prefix, message_checks}
use Rattle.table_update.specs.History.{announcing, withdrawing}
use Rattle.message_calls.specs.History.{Event, single, message}
use Rattle.demands.specs.CountChecks.{step_checks, after_room}
use Rattle.demands.specs.EachCall.{EachCall}
use Rattle.demands.specs.Unused.{unused}

module _ (Such : Verdict → Type 0) (shown : (number place : ℕ) → eqb number unused ≡ false → Such (shows number place))
    (either : (P : Type 0) (then else : Verdict) → Such then → Such else → Such (whether P then else)) where
  check : (number place : ℕ) (Wrong : Type 0) (rest : Verdict) → eqb number unused ≡ false → Such rest → Such (refuse number place Wrong rest)
  check number place Wrong rest other r = either Wrong (shows number place) rest (shown number place other) r

  accepts : Such done
  accepts = shown 0 0 refl

  last_check : (number : ℕ) (Wrong : Type 0) → eqb number unused ≡ false → Such (refuse number 0 Wrong done)
  last_check number Wrong other = check number 0 Wrong done other accepts

  of_route : (w place : ℕ) (r : Route) (rest : Verdict) → Such rest → Such (route_checks w place r rest)
  of_route w place r rest x = check _ _ _ _ refl (check _ _ _ _ refl (check _ _ _ _ refl x))

  of_routes : (w : ℕ) (R : ℕ → Route) (k i : ℕ) (rest : Verdict) → Such rest → Such (each_route w R k i rest)
  of_routes w R zero i rest x = x
  of_routes w R (suc k) i rest x = of_route w i (R i) _ (check _ _ _ _ refl (of_routes w R k (i + 1) rest x))

  of_list : (w : ℕ) (words : List ℕ) (rest : Verdict) → Such rest → Such (list_checks w words rest)
  of_list w words rest x = check _ _ _ _ refl (check _ _ _ _ refl (of_routes w (route_at words) (route_count words) 0 rest x))

  of_routes_in_file : (w : ℕ) (file : List ℕ) (k i : ℕ) (rest : ℕ → Verdict) → ((n : ℕ) → Such (rest n)) → Such (each_in_file w file k i rest)
  of_routes_in_file w file zero i rest x = x i
  of_routes_in_file w file (suc k) i rest x =
      either _ _ _
      (check _ _ _ _ refl (check _ _ _ _ refl (check _ _ _ _ refl (check _ _ _ _ refl (check _ _ _ _ refl
      (of_routes_in_file w file k (i + 1) rest x))))))
      (x i)

  of_file : (w : ℕ) (file : List ℕ) (rest : ℕ → Verdict) → ((n : ℕ) → Such (rest n)) → Such (file_checks w file rest)
  of_file w file rest x =
      check _ _ _ _ refl (check _ _ _ _ refl (check _ _ _ _ refl (of_routes_in_file w file (length file - head_size) 0 rest x)))

  of_rows : (w : ℕ) (M : Mem) (n a k r : ℕ) → Such (row_checks w M n a k r)
  of_rows w M n a zero r = last_check _ _ refl
  of_rows w M n a (suc k) r = check _ _ _ _ refl (either _ _ _ accepts (either _ _ _ accepts (of_rows w M n a k _)))

  of_nodes : (s : ℕ) (nodes ports : List ℕ) (a k i : ℕ) → Such (node_checks s nodes ports a k i)
  of_nodes s nodes ports a zero i = shown _ 0 refl
  of_nodes s nodes ports a (suc k) i =
      check _ _ _ _ refl (check _ _ _ _ refl (either _ _ _ (check _ _ _ _ refl (last_check _ _ refl)) (of_nodes s nodes ports a k _)))

  module _ (seen : ℕ → ℕ) (s : Stores) (a : ℕ) where
    of_port : (reads port : ℕ) → Such (port_checks seen s a reads port)
    of_port reads port = check _ _ _ _ refl (shown 0 (seen reads) refl)

    of_entry : (reads entry : ℕ) → Such (entry_checks seen s a reads entry)
    of_entry reads entry = either _ _ _ (of_port reads entry) (check _ _ _ _ refl (of_port (reads + 1) _))

    of_words : Such (word_checks seen s a)
    of_words =
        check _ _ _ _ refl
        (either _ _ _ (of_port 1 _) (either _ _ _ (check _ _ _ _ refl (check _ _ _ _ refl (of_entry 3 _))) (check _ _ _ _ refl (of_entry 2 _))))

  of_prefixes : (w : ℕ) (part : List ℕ) (from k at : ℕ) (rest : Verdict) → Such rest → Such (each_prefix w part from k at rest)
  of_prefixes w part from zero at rest x = x
  of_prefixes w part from (suc k) at rest x =
      either _ _ _ (check _ _ _ _ refl (check _ _ _ _ refl (of_prefixes w part from k (at + prefix_size (len_at part at)) rest x))) x

  of_message : (w : ℕ) (bytes : List ℕ) (rest : Verdict) → Such rest → Such (message_checks w bytes rest)
  of_message w bytes rest x =
      check _ _ _ _ refl (check _ _ _ _ refl (check _ _ _ _ refl (check _ _ _ _ refl (check _ _ _ _ refl (check _ _ _ _ refl
      (of_prefixes w (withdrawn_part bytes) withdrawn_at (length (withdrawn_part bytes)) 0 _
      (of_prefixes w (announced_part bytes) (announced_at bytes) (length (announced_part bytes)) 0 rest x)))))))

  -- 11 twice, and then a last check
  of_step : (w : ℕ) (rows : List ℕ) (n : ℕ) (counts : List ℕ) (number : ℕ) (Wrong : Type 0) → eqb number unused ≡ false
      → Such (step_checks w rows n counts (refuse number 0 Wrong done))
  of_step w rows n counts number Wrong other = check _ _ _ _ refl (check _ _ _ _ refl (last_check _ _ other))

  of_update : (rows : List ℕ) (n : ℕ) (counts : List ℕ) (e : Event) → Such (after_room 32 rows n counts e)
  of_update rows n counts (single (announcing q)) = of_route 32 0 q _ (of_step 32 rows n counts _ _ refl)
  of_update rows n counts (single (withdrawing value len)) = check _ _ _ _ refl (check _ _ _ _ refl (of_step 32 rows n counts _ _ refl))
  of_update rows n counts (message bytes port) = of_message 32 bytes _ (check _ _ _ _ refl (of_step 32 rows n counts _ _ refl))

  pub each_call : EachCall Such
  each_call = record {
    file-read = λ file list. of_file 32 file _ (λ n. last_check _ _ refl);
    file-write = λ list file. of_list 32 list _ (last_check _ _ refl);
    list-check = λ list. of_list 32 list _ accepts;
    list-runs = λ list runs. of_list 32 list _ (last_check _ _ refl);
    table-check = λ rows n. last_check _ _ refl;
    table-lookup = λ rows n a. check _ _ _ _ refl (either _ _ _ accepts (of_rows 32 (row_at rows) n a 32 0));
    table-build = λ list rows. of_list 32 list _ (last_check _ _ refl);
    table-save = λ rows n list. check _ _ _ _ refl (last_check _ _ refl);
    table-runs = λ rows n runs. check _ _ _ _ refl (last_check _ _ refl);
    image-build = λ s list nodes ports. check _ _ _ _ refl (of_list 32 list _ (last_check _ _ refl));
    image-lookup = λ s nodes ports a. check _ _ _ _ refl (of_nodes s nodes ports a (32 / s) 1);
    image-lookup-many = λ s addresses out. check _ _ _ _ refl (last_check _ _ refl);
    segments-build = λ list lent.
        of_list 32 list _ (check _ _ _ _ refl (check _ _ _ _ refl (check _ _ _ _ refl (last_check _ _ refl))));
    segments-lookup = λ s a. of_words (λ _. 0) s a;
    segments_reads = λ s a. of_words (λ reads. reads) s a;
    segments-lookup-many = λ addresses out. last_check _ _ refl;
    segments-entries = accepts;
    message-write = λ list message. of_list 32 list _ (last_check _ _ refl);
    counts-make = λ rows n counts. check _ _ _ _ refl (last_check _ _ refl);
    update = λ rows n counts e. check _ _ _ _ refl (of_update rows n counts e);
  }
