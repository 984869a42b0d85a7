-- The two round trips, the empty list, and that a refusal writes nothing: RULES, "Demands" and "The route file". Assumes nothing.
use mathlib.Core.Path.{◌≡◌, refl, sym, ap, ◌∙◌}
use mathlib.Core.Logic.{◌⊎◌, inl, inr}
use mathlib.Core.Bool.{true, false}
use mathlib.Core.List.{List, ◌++◌}
use Prim.Native.Nat.{ℕ, ◌+◌, ◌*◌, ◌≤◌, ◌<◌}
use native.Mathlib.Omega.{arith}
use lib.Dec.{eqb, leb}
use lib.ListN.{length}
use borrow.Author.Tests.{eq-eqb, ne_eqb, eqb-true, eqb-false, le-leb, lt-leb, leb-true, leb-false}
use Rattle.lists.proofs.Tests.{way}
use Rattle.promise.specs.Over.{over, Outcome, outcome}
use Rattle.promise.proofs.Over.{over_taken}
use Rattle.refusals.specs.Refusals.{spare_bits, no_room, refused, accepted}
use Rattle.routes.specs.Routes.{route_at, route_count, ValidList, list_of_routes}
use Rattle.routes.specs.Check.{list_check, routes_check, first_fault}
use Rattle.refusals.specs.declared.Answer.{Answer}
use Rattle.routes.specs.declared.Route.{Route}
use Rattle.routes.proofs.Check.{accepted_sized, accepted_valid, check_done}
use Rattle.octets.specs.Bytes.{number, digits}
use Rattle.file_rules.specs.File.{file_route, head_of, file_of}
use Rattle.lists.specs.Numbered.{in_order}
use Rattle.file_rules.specs.Check.{head_fault, check_from, file_check, Whole}
use Rattle.file_rules.specs.Cleared.{cleared_file}
use Rattle.file_rules.specs.Calls.{checked_then, read_file, write_file}
use Rattle.file_rules.specs.Theorems.{NeverSpare, ReadWritten, WriteRead, WriteReadSame, EmptyFile, RefusalWritesNothing}
use Rattle.lists.proofs.InOrder.{in_order_same}
use Rattle.file_rules.proofs.Walk.{check_whole, accepted_whole, check_never_spare}
use Rattle.file_rules.proofs.Cleared.{file_cleared, cleared_length, cleared_same}
use Rattle.file_rules.proofs.Whole.{file_valid}
use Rattle.file_rules.proofs.WriteRead.{file_back}
use Rattle.file_rules.proofs.Words.{words_list}
use Rattle.routes.proofs.Words.{length_list, count_list, route_in_list, list_same}

-- the three answers of a call that checks and then writes
module _ (checked : Answer) (out : List ℕ) (count : ℕ) (lent : List ℕ) where
  pub checked_refused : (checked.number ≡ 0 → ⊥) → checked_then checked out count lent ≡ outcome checked lent
  unfolding checked_then
  checked_refused n = rw (ne_eqb checked.number 0 n)

  pub checked_short : checked.number ≡ 0 → length lent < length out → checked_then checked out count lent ≡ outcome (refused no_room 0) lent
  unfolding checked_then
  checked_short z h = rw (eq-eqb checked.number 0 z, lt-leb (length out) (length lent) h)

  pub checked_done : checked.number ≡ 0 → length out ≤ length lent
      → checked_then checked out count lent ≡ outcome (accepted count) (over out lent)
  unfolding checked_then
  checked_done z h = rw (eq-eqb checked.number 0 z, le-leb (length out) (length lent) h)

  -- done only where the check accepts and there is room
  pub done_checked : (checked_then checked out count lent).answer.number ≡ 0 → (checked.number ≡ 0) × (length out ≤ length lent)
  done_checked e = go (way (eqb checked.number 0)) (way (leb (length out) (length lent)))
    where
      go : (eqb checked.number 0 ≡ true) ⊎ (eqb checked.number 0 ≡ false)
          → (leb (length out) (length lent) ≡ true) ⊎ (leb (length out) (length lent) ≡ false)
          → (checked.number ≡ 0) × (length out ≤ length lent)
      go (inl s) (inl t) = (eqb-true checked.number 0 s, leb-true (length out) (length lent) t)
      go (inl s) (inr t) =
          absurd (omega (arith, ap (λ (o : Outcome Answer). o.answer.number) (checked_short (eqb-true checked.number 0 s) (leb-false (length out) (length lent) t)), e))
      go (inr s) t =
          let n = eqb-false checked.number 0 s in
          absurd (n (sym (ap (λ (o : Outcome Answer). o.answer.number) (checked_refused n)) ∙ e))

  pub refused_writes_nothing : ((checked_then checked out count lent).answer.number ≡ 0 → ⊥) → (checked_then checked out count lent).lent ≡ lent
  refused_writes_nothing n = go (way (eqb checked.number 0)) (way (leb (length out) (length lent)))
    where
      go : (eqb checked.number 0 ≡ true) ⊎ (eqb checked.number 0 ≡ false)
          → (leb (length out) (length lent) ≡ true) ⊎ (leb (length out) (length lent) ≡ false)
          → (checked_then checked out count lent).lent ≡ lent
      go (inl s) (inl t) =
          absurd (n (ap (λ (o : Outcome Answer). o.answer.number) (checked_done (eqb-true checked.number 0 s) (leb-true (length out) (length lent) t))))
      go (inl s) (inr t) =
          ap (λ (o : Outcome Answer). o.lent) (checked_short (eqb-true checked.number 0 s) (leb-false (length out) (length lent) t))
      go (inr s) t = ap (λ (o : Outcome Answer). o.lent) (checked_refused (eqb-false checked.number 0 s))

-- a call that checks and then writes answers what its check answers, 9 or 0
pub checked_number : (checked : Answer) (out : List ℕ) (count : ℕ) (lent : List ℕ) (m : ℕ) → (checked_then checked out count lent).answer.number ≡ m
    → (m ≡ 0 → ⊥) → (m ≡ no_room → ⊥) → checked.number ≡ m
unfolding checked_then
checked_number checked out count lent m e done room = go (way (eqb checked.number 0)) (way (leb (length out) (length lent)))
  where
    go : (eqb checked.number 0 ≡ true) ⊎ (eqb checked.number 0 ≡ false)
        → (leb (length out) (length lent) ≡ true) ⊎ (leb (length out) (length lent) ≡ false)
        → checked.number ≡ m
    go (inl s) (inl t) = absurd (done (sym (rw (s, t) at e)))
    go (inl s) (inr t) = absurd (room (sym (rw (s, t) at e)))
    go (inr s) t = rw s at e

pub never_spare : NeverSpare
unfolding read_file
never_spare w file list e =
    check_never_spare w file (checked_number (file_check w file) _ _ list spare_bits e (λ z. omega (arith, z)) (λ z. omega (arith, z)))

pub refusal_writes_nothing : RefusalWritesNothing
unfolding read_file write_file
refusal_writes_nothing w from lent = (refused_writes_nothing _ _ _ lent, refused_writes_nothing _ _ _ lent)

pub empty_file_lem : EmptyFile
unfolding checked_then read_file write_file file_check head_fault check_from number digits in_order list_check routes_check first_fault
empty_file_lem w lent = (rw (le-leb 0 (length lent) (omega arith)), λ room. rw (le-leb 5 (length lent) room))

-- routes that agree are valid together
valid_same : (w : ℕ) (R Q : ℕ → Route) (n : ℕ) → ((i : ℕ) → i < n → Q i ≡ R i) → ValidList w R n → ValidList w Q n
valid_same w R Q n same ok = record {
  few = ok.few;
  each = λ i h. rw (same i h) (ok.each i h);
  rises = λ i h. rw (same i (omega arith), same (i + 1) h) (ok.rises i h);
}

-- a whole file that is read where there is room
pub read_whole : (w : ℕ) (file lent : List ℕ) (n : ℕ) → Whole w file n → n * 3 ≤ length lent
    → read_file w file lent ≡ outcome (accepted n) (over (list_of_routes (file_route w file) n) lent)
unfolding read_file
read_whole w file lent n ok room =
    rw (check_whole w file n ok)
    (checked_done (accepted n) (list_of_routes (file_route w file) n) n lent refl (omega (arith, length_list (file_route w file) n)))

-- a list whose file is known, written where there is room
pub write_done : (w : ℕ) (list file lent : List ℕ) → (list_check w list).number ≡ 0 → file_of w (route_at list) (route_count list) ≡ file
    → length file ≤ length lent → write_file w list lent ≡ outcome (accepted (length file)) (over file lent)
unfolding write_file
write_done w list file lent z out room =
    ap (λ (f : List ℕ). checked_then (list_check w list) f (length f) lent) out
    ∙ checked_done (list_check w list) file (length file) lent z room

pub read_written : ReadWritten
unfolding write_file
read_written w list file lent wide fits e room =
    let n = route_count list in
    let out = file_of w (route_at list) n in
    let d = done_checked (list_check w list) out (length out) file e in
    let whole = (accepted_sized w list d.0).whole in
    let back = file_back w (route_at list) n wide (accepted_valid w list fits d.0) in
    rw (checked_done (list_check w list) out (length out) file d.0 d.1, over_taken out file (length out) refl)
    (read_whole w out lent n back.0 (omega arith)
    ∙ ap (λ (l : List ℕ). outcome (accepted n) (over l lent)) (in_order_same _ _ _ n back.1 ∙ list_same list whole))

pub write_read : WriteRead
unfolding read_file
write_read w file list lent wide bytes e room =
    let n = (file_check w file).count in
    let R = file_route w file in
    let words = list_of_routes R n in
    let d = done_checked (file_check w file) words n list e in
    let ok = accepted_whole w file d.0 in
    let valid = file_valid w file n wide bytes ok in
    let same : ((i : ℕ) → i < n → route_at words i ≡ R i) = route_in_list R n in
    let fits = words_list w R n wide valid.each in
    let count : route_count words ≡ n = count_list R n in
    let checked : list_check w words ≡ accepted 0 =
    (check_done w words fits).1 (omega (arith, length_list R n), rw count (valid_same w R (route_at words) n same valid)) in
    let out : file_of w (route_at words) (route_count words) ≡ cleared_file file n =
    rw count (ap (λ (b : List ℕ). head_of (length b) ++ b) (in_order_same _ _ _ n same) ∙ file_cleared w file n wide bytes ok) in
    rw (checked_done (file_check w file) words n list d.0 d.1, over_taken words list (n * 3) (length_list R n))
    (write_done w words (cleared_file file n) lent (ap (λ (a : Answer). a.number) checked) out (omega (arith, cleared_length file n))
    ∙ ap (λ (k : ℕ). outcome (accepted k) (over (cleared_file file n) lent)) (cleared_length file n))

-- the count that a read which is done answers
read_count_lem : (w : ℕ) (file list : List ℕ) → (read_file w file list).answer.number ≡ 0 → Whole w file (read_file w file list).answer.count
unfolding read_file
read_count_lem w file list e =
    let n = (file_check w file).count in
    let words = list_of_routes (file_route w file) n in
    let d = done_checked (file_check w file) words n list e in
    rw (checked_done (file_check w file) words n list d.0 d.1) (accepted_whole w file d.0)

pub write_read_same : WriteReadSame
write_read_same w file list lent wide bytes e none room =
    let n = (read_file w file list).answer.count in
    write_read w file list lent wide bytes e room
    ∙ ap (λ (f : List ℕ). outcome (accepted (length file)) (over f lent)) ((cleared_same w file n (read_count_lem w file list e)).1 none)
