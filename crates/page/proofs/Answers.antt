-- The page for a file, from what its calls answer: RULES, "Program runs". Assumes nothing.
use mathlib.Core.Path.{◌≡◌, refl, sym, ap, ap₂, ◌∙◌}
use mathlib.Core.Logic.{◌⊎◌, inl, inr}
use mathlib.Core.Bool.{true, false, cond}
use mathlib.Core.List.{List, ◌++◌}
use Prim.Native.Nat.{ℕ, ◌*◌, ◌≤◌, ◌<◌}
use native.Mathlib.Omega.{arith}
use lib.Dec.{eqb, leb}
use lib.ListN.{length, take, drop}
use lib.Seq.{take_at}
use borrow.Author.Tests.{eq-eqb, eqb-true, eqb-false, le-leb, lt-leb, leb-true, leb-false}
use Rattle.promise.specs.Over.{Outcome, outcome, over}
use Rattle.lists.proofs.Tests.{way}
use Rattle.std.proofs.Common.{Result, Ok, Err, IsOk, rules}
use Rattle.refusals.specs.Refusals.{no_room, refused, accepted, answered}
use Rattle.refusals.specs.declared.Refusal.{Refusal}
use Rattle.refusals.proofs.Numbers.{number_ne0}
use Rattle.routes.specs.Routes.{route_size, route_at, route_count, list_of_routes}
use Rattle.lists.specs.Numbered.{list_of}
use Rattle.refusals.specs.declared.Answer.{Answer}
use Rattle.routes.specs.declared.Route.{Route}
use Rattle.octets.specs.Bytes.{Bytes}
use Rattle.file_rules.specs.File.{file_route, FileWidth}
use Rattle.file_rules.specs.Check.{file_check}
use Rattle.file_rules.specs.Calls.{checked_then, read_file}
use Rattle.routes.proofs.Words.{length_list, count_list, route_in_list}
use Rattle.file_rules.proofs.Trips.{checked_refused, checked_short, checked_done, done_checked}
use Rattle.file_rules.proofs.Walk.{accepted_whole}
use Rattle.file_rules.proofs.Whole.{file_valid}
use Rattle.runs_rules.specs.Runs.{Run, run_size, run_words, run_at}
use Rattle.runs_rules.specs.Listing.{listed, list_runs}
use Rattle.runs_rules.proofs.Listing.{listed_lists, listed_few, list_runs_done}
use Rattle.runs_rules.proofs.Same.{words_accepted, words_listed}
use Rattle.runs_rules.proofs.Words.{runs_of_words}
use Rattle.page.specs.Page.{lines_of, header, runs_text, refused_text, most_bytes, most_routes_shown, most_runs_shown, header_room, page_text, page_room, page_of}
use Rattle.page.specs.Needs.{Wrote, Lined, Shown}
use Rattle.page.proofs.Wrote.{wrote_over}

-- what the listing of few routes leaves in words that hold it
module _ (w : ℕ) (list lent : List ℕ) {left out : List ℕ} {a : Answer} (shown : Shown w list out) (size : length lent ≡ most_runs_shown * run_size)
    (is : outcome a left ≡ list_runs w list lent) where
  abbrev rs : List Run
  rs = listed w (route_at list) (route_count list)

  few : length rs ≤ most_runs_shown
  few = omega (arith, listed_few w (route_at list) (route_count list), shown.few)

  done : outcome a left ≡ outcome (accepted (length rs)) (over (run_words rs) lent)
  done =
      is ∙ list_runs_done w list lent rs shown.accepted (listed_lists w (route_at list) (route_count list)) (omega (arith, few, size))

  count_is : a.count ≡ length rs
  count_is = ap (λ (o : Outcome Answer). o.answer.count) done

  left_is : left ≡ over (run_words rs) lent
  left_is = ap (λ (o : Outcome Answer). o.lent) done

  number_is : a.number ≡ 0
  number_is = ap (λ (o : Outcome Answer). o.answer.number) done

  pub listing_ok : (r : Result ℕ Refusal) → answered r ≡ a → IsOk r
  listing_ok (Ok count) e = search rules
  listing_ok (Err r) e = absurd (number_ne0 r.fault (ap (λ (x : Answer). x.number) e ∙ number_is))

  pub listing_lined : length left ≡ length lent → Lined out header_room left a.count
  listing_lined same = record {
    there = omega (arith, count_is, few, same, size);
    few = omega (arith, count_is, few);
    room = omega (arith, count_is, few, shown.room);
  }

  pub listing_shown : header a.count ++ lines_of (list_of (run_at left) a.count 0) ≡ runs_text rs
  listing_shown =
      ap₂ (λ (k : ℕ) (ws : List ℕ). header k ++ lines_of (list_of (run_at ws) k 0)) count_is left_is
      ∙ ap (λ (qs : List Run). header (length rs) ++ lines_of qs) (runs_of_words rs (drop (length (run_words rs)) lent))

-- what was written from the front on is the page
pub page_is : (w : ℕ) (file : List ℕ) {out text left : List ℕ} {r : ℕ} → page_room ≤ length out → Wrote out 0 text r left → text ≡ page_text w file
    → outcome r left ≡ page_of w file out
unfolding page_of
page_is w file {out} {text} {left} {r} room p e =
    let k : r ≡ length (page_text w file) = omega (arith, p.next_is_lem, ap length e) in
    ap₂ (λ (k : ℕ) (ws : List ℕ). outcome k ws) k (wrote_over p ∙ ap (λ (s : List ℕ). over s out) e)
    ∙ simp (le-leb page_room (length out) room)

pub page_none : (w : ℕ) (file out : List ℕ) → length out < page_room → outcome 0 out ≡ page_of w file out
unfolding page_of
page_none w file out h = simp (lt-leb page_room (length out) h)

pub page_long : (w : ℕ) (file : List ℕ) → most_bytes < length file → refused_text (refused no_room 0) ≡ page_text w file
unfolding page_text
page_long w file h = simp (lt-leb (length file) most_bytes h)

-- the routes of a file, how many, and their words
abbrev routes_in : ℕ → List ℕ → ℕ → Route
routes_in w file = file_route w file

abbrev count_in : ℕ → List ℕ → ℕ
count_in w file = (file_check w file).count

abbrev words_in : ℕ → List ℕ → List ℕ
words_in w file = list_of_routes (file_route w file) (file_check w file).count

-- the page of a file that is not too long
abbrev after_check : ℕ → List ℕ → List ℕ
after_check w file =
    cond (eqb (file_check w file).number 0)
    (cond (leb (count_in w file) most_routes_shown) (runs_text (listed w (routes_in w file) (count_in w file))) (refused_text (refused no_room 0)))
    (refused_text (file_check w file))

-- a file that is not too long, read into a list of as many routes as a page shows
module _ (w : ℕ) (file lent : List ℕ) {left : List ℕ} {a : Answer} (short : length file ≤ most_bytes) (size : length lent ≡ most_routes_shown * route_size)
    (is : outcome a left ≡ read_file w file lent) where
  is_read : outcome a left ≡ checked_then (file_check w file) (words_in w file) (count_in w file) lent
  unfolding read_file
  is_read = is

  -- it is refused, or there are too many routes
  pub page_refused : (a.number ≡ 0 → ⊥) → refused_text (refused a.number a.place) ≡ page_text w file
  unfolding page_text
  page_refused wrong = rw (le-leb (length file) most_bytes short) (go (way (eqb (file_check w file).number 0)) (way (leb (count_in w file) most_routes_shown)))
    where
      go : (eqb (file_check w file).number 0 ≡ true) ⊎ (eqb (file_check w file).number 0 ≡ false)
          → (leb (count_in w file) most_routes_shown ≡ true) ⊎ (leb (count_in w file) most_routes_shown ≡ false)
          → refused_text (refused a.number a.place) ≡ after_check w file
      go (inr t) u =
          let e : a ≡ file_check w file =
          ap (λ (o : Outcome Answer). o.answer) (is_read ∙ checked_refused (file_check w file) (words_in w file) (count_in w file) lent (eqb-false (file_check w file).number 0 t)) in
          rw t (ap refused_text e)
      go (inl t) (inl u) =
          let e : a ≡ accepted (count_in w file) =
          ap (λ (o : Outcome Answer). o.answer)
          (is_read ∙ checked_done (file_check w file) (words_in w file) (count_in w file) lent (eqb-true (file_check w file).number 0 t) (omega (arith, length_list (routes_in w file) (count_in w file), leb-true (count_in w file) most_routes_shown u, size))) in
          absurd (wrong (ap (λ (x : Answer). x.number) e))
      go (inl t) (inr u) =
          let e : a ≡ refused no_room 0 =
          ap (λ (o : Outcome Answer). o.answer)
          (is_read ∙ checked_short (file_check w file) (words_in w file) (count_in w file) lent (eqb-true (file_check w file).number 0 t) (omega (arith, length_list (routes_in w file) (count_in w file), leb-false (count_in w file) most_routes_shown u, size))) in
          rw (t, u) (ap refused_text e)

  -- its routes are in the list
  module _ (fine : a.number ≡ 0) where
    passed : ((file_check w file).number ≡ 0) × (length (words_in w file) ≤ length lent)
    passed =
        done_checked (file_check w file) (words_in w file) (count_in w file) lent
        (ap (λ (o : Outcome Answer). o.answer.number) (sym is_read) ∙ fine)

    read : outcome a left ≡ outcome (accepted (count_in w file)) (over (words_in w file) lent)
    read = is_read ∙ checked_done (file_check w file) (words_in w file) (count_in w file) lent passed.0 passed.1

    count : a.count ≡ count_in w file
    count = ap (λ (o : Outcome Answer). o.answer.count) read

    few_routes : count_in w file ≤ most_routes_shown
    few_routes = omega (arith, passed.1, length_list (routes_in w file) (count_in w file), size)

    pub count_le : a.count ≤ most_routes_shown
    count_le = omega (arith, count, few_routes)

    -- the part of the list that was read
    part : take (a.count * route_size) left ≡ words_in w file
    part =
        ap₂ (λ (k : ℕ) (ws : List ℕ). take (k * route_size) ws) count (ap (λ (o : Outcome Answer). o.lent) read)
        ∙ take_at (words_in w file) (drop (length (words_in w file)) lent) (count_in w file * route_size) (length_list (routes_in w file) (count_in w file))

    same : (i : ℕ) → i < count_in w file → routes_in w file i ≡ route_at (words_in w file) i
    same i h = sym (route_in_list (routes_in w file) (count_in w file) i h)

    pub page_shown : {out : List ℕ} → FileWidth w → Bytes file → page_room ≤ length out → Shown w (take (a.count * route_size) left) out
    page_shown wide bytes room = rw part (record {
      accepted =
          ap (λ (x : Answer). x.number)
          (words_accepted w (routes_in w file) (count_in w file) (words_in w file) (length_list (routes_in w file) (count_in w file)) same
          (file_valid w file (count_in w file) wide bytes (accepted_whole w file passed.0)));
      few = omega (arith, count_list (routes_in w file) (count_in w file), few_routes);
      room = room;
    })

    pub page_listed : runs_text (listed w (route_at (take (a.count * route_size) left)) (route_count (take (a.count * route_size) left))) ≡ page_text w file
    unfolding page_text
    page_listed =
        ap (λ (ws : List ℕ). runs_text (listed w (route_at ws) (route_count ws))) part
        ∙ ap runs_text (words_listed w (routes_in w file) (count_in w file) (words_in w file) (length_list (routes_in w file) (count_in w file)) same)
        ∙ sym (rw (le-leb (length file) most_bytes short, eq-eqb (file_check w file).number 0 passed.0, le-leb (count_in w file) most_routes_shown few_routes) refl)
