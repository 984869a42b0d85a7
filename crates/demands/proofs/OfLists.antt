-- Demand 1 of the calls on a file or a list. Assumes nothing.
use mathlib.Core.Path.{◌≡◌, refl}
use mathlib.Core.Bool.{Bool, cond}
use mathlib.Core.List.{List}
use Prim.Native.Nat.{ℕ, ◌*◌, ◌/◌, ◌<◌}
use native.Mathlib.Omega.{arith}
use lib.Dec.{eqb, leb}
use lib.ListN.{length}
use borrow.Author.Tests.{ne_eqb}
use Rattle.promise.specs.Over.{Outcome, outcome, over}
use Rattle.refusals.specs.Refusals.{no_room, refused, accepted}
use Rattle.routes.specs.Routes.{route_at, route_count, route_words, list_of_routes}
use Rattle.routes.specs.Check.{list_check}
use Rattle.routes.specs.Scan.{scan_of, list_scan}
use Rattle.refusals.specs.declared.Answer.{Answer}
use Rattle.file_rules.specs.File.{file_route, file_of}
use Rattle.file_rules.specs.Calls.{checked_then, read_file, write_file}
use Rattle.lists.proofs.InOrder.{length_in_order}
use Rattle.runs_rules.specs.Runs.{Run, run_words}
use Rattle.runs_rules.specs.Listing.{listed, write_runs, list_runs}
use Rattle.demands.specs.Lamp.{shows, done}
use Rattle.demands.specs.Checks.{list_checks, room_for, read_checks, write_checks, runs_checks, list_runs_checks}
use Rattle.demands.proofs.Tells.{tells_as, tells_le}
use Rattle.demands.proofs.Shown.{On, Refuses, RefusesOnly, alone, writing, on_accepted, on_refused, on_test}
use Rattle.demands.proofs.Listed.{on_list, on_file}

-- a refusal of the checks, in a call that goes on only where they accept
pub refusal_on : (lent : List ℕ) (next : Outcome Answer) (m p : ℕ) → 0 < m
    → On (writing 0 lent) (shows m p) (cond (eqb m 0) next (outcome (refused m p) lent))
refusal_on lent next m p some = rw (ne_eqb m 0 (λ e. omega arith)) (on_refused lent m p)

-- "then 9"
pub room_on : (lent out : List ℕ) (count needed : ℕ) (b : Bool) → b ≡ leb needed (length lent)
    → On (writing 0 lent) (room_for needed lent) (cond b (outcome (accepted count) out) (outcome (refused no_room 0) lent))
room_on lent out count needed b is =
    rw is
    (on_test (writing 0 lent) (leb needed (length lent)) (length lent < needed) (tells_le needed (length lent)) no_room 0 done
    (λ c. cond c (outcome (accepted count) out) (outcome (refused no_room 0) lent)) (on_accepted 0 lent count out) (on_refused lent no_room 0))

pub read_refuses : (w : ℕ) (file list : List ℕ) → Refuses (read_checks w file list) 0 list (read_file w file list)
unfolding read_file checked_then
read_refuses w file list =
    on_file (writing 0 list) (λ c. checked_then c (list_of_routes (file_route w file) c.count) c.count list)
    (λ m p some. refusal_on list _ m p some) w file (λ n. room_for (n * 3) list)
    (λ n.
    room_on list (over (list_of_routes (file_route w file) n) list) n (n * 3) (leb (length (list_of_routes (file_route w file) n)) (length list))
    (rw (length_in_order route_words (file_route w file) 3 n (λ _. refl))))

pub write_refuses : (w : ℕ) (list file : List ℕ) → Refuses (write_checks w list file) 0 file (write_file w list file)
unfolding write_file checked_then
write_refuses w list file =
    let out = file_of w (route_at list) (route_count list) in
    on_list (writing 0 file) (λ c. checked_then c out (length out) file) (λ m p some. refusal_on file _ m p some) w list
    (room_for (length out) file) (room_on file (over out file) (length out) (length out) (leb (length out) (length file)) refl)

pub check_refuses : (w : ℕ) (list : List ℕ) → RefusesOnly (list_checks w list done) (list_check w list)
check_refuses w list =
    on_list alone (λ c. c) (λ m p some. record { exact = (refl, refl); kept = λ _. refl }) w list done
    (record { exact = (refl, refl); kept = λ _. refl })

pub scan_refuses : (w : ℕ) (list : List ℕ) (a : ℕ) → RefusesOnly (list_checks w list done) (list_scan w list a)
unfolding list_scan
scan_refuses w list a =
    let port = accepted (scan_of w (route_at list) (route_count list) a) in
    on_list alone (λ c. cond (eqb c.number 0) port c)
    (λ m p some. rw (ne_eqb m 0 (λ e. omega arith)) (record { exact = (refl, refl); kept = λ _. refl })) w list done
    (record { exact = (refl, refl); kept = λ wrong. absurd (wrong refl) })

-- "then 9", where the room is counted in whole runs
pub runs_on : (rs : List Run) (lent : List ℕ) → On (writing 0 lent) (runs_checks rs lent) (write_runs rs lent)
unfolding write_runs
runs_on rs lent =
    let whole = leb (length rs) (length lent / 3) in
    on_test (writing 0 lent) whole (length lent < length rs * 3)
    (tells_as whole (length lent / 3 < length rs) (length lent < length rs * 3) (λ h. omega arith) (λ h. omega arith) (tells_le (length rs) (length lent / 3)))
    no_room 0 done (λ c. cond c (outcome (accepted (length rs)) (over (run_words rs) lent)) (outcome (refused no_room 0) lent))
    (on_accepted 0 lent (length rs) (over (run_words rs) lent)) (on_refused lent no_room 0)

pub list_runs_refuses : (w : ℕ) (list runs : List ℕ) → Refuses (list_runs_checks w list runs) 0 runs (list_runs w list runs)
unfolding list_runs
list_runs_refuses w list runs =
    let rs = listed w (route_at list) (route_count list) in
    on_list (writing 0 runs) (λ c. cond (eqb c.number 0) (write_runs rs runs) (outcome c runs))
    (λ m p some. refusal_on runs (write_runs rs runs) m p some) w list (runs_checks rs runs) (runs_on rs runs)
