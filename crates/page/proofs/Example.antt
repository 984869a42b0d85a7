-- The page of a file, case by case, and a line of the example: RULES, "Program runs". Assumes nothing.
use mathlib.Core.Path.{◌≡◌, refl, ap}
use mathlib.Core.Logic.{◌⊎◌, inl, inr}
use mathlib.Core.Bool.{true, false}
use Prim.Native.Nat.{ℕ, ◌^◌, ◌≤◌}
use native.Mathlib.Omega.{arith}
use lib.Dec.{leb}
use lib.ListN.{length, drop, length-append, length-drop}
use borrow.Author.Tests.{eq-eqb, ne_eqb, le-leb, lt-leb}
use Rattle.lists.proofs.Tests.{way}
use Rattle.promise.specs.Over.{Outcome, outcome, over}
use Rattle.file_rules.specs.File.{file_route}
use Rattle.file_rules.specs.Check.{file_check}
use Rattle.runs_rules.specs.Listing.{listed}
use Rattle.runs_rules.proofs.Runs.{listing_unique}
use Rattle.runs_rules.proofs.Listing.{listed_lists}
use Rattle.routes.specs.Scan.{scan_of}
use Rattle.page.specs.Text.{decimal, dotted}
use Rattle.page.specs.Page.{runs_text, most_bytes, most_routes_shown, page_text, page_room, page_of}
use Rattle.page.specs.Theorems.{PageLong, PageMany, PageRefused, PageListed, PageWithin, ExampleLine}

pub page_long : PageLong
unfolding page_text
page_long w file h = simp (lt-leb (length file) most_bytes h)

pub page_many : PageMany
unfolding page_text
page_many w file h fine many =
    simp (le-leb (length file) most_bytes h, eq-eqb (file_check w file).number 0 fine, lt-leb (file_check w file).count most_routes_shown many)

pub page_refused : PageRefused
unfolding page_text
page_refused w file h wrong = simp (le-leb (length file) most_bytes h, ne_eqb (file_check w file).number 0 wrong)

pub page_listed : PageListed
unfolding page_text
page_listed w file rs h fine few lists =
    rw (le-leb (length file) most_bytes h, eq-eqb (file_check w file).number 0 fine, le-leb (file_check w file).count most_routes_shown few)
    (ap runs_text
    (listing_unique (scan_of w (file_route w file) (file_check w file).count) (2 ^ w) (listed w (file_route w file) (file_check w file).count) rs
    (listed_lists w (file_route w file) (file_check w file).count) lists))

pub page_within : PageWithin
unfolding page_of
page_within w file out left r is same = go (way (leb page_room (length out)))
  where
    go : (leb page_room (length out) ≡ true) ⊎ (leb page_room (length out) ≡ false) → r ≤ length out
    go (inl t) =
        let e : outcome r left ≡ outcome (length (page_text w file)) (over (page_text w file) out) = rw t at is in
        omega (
          arith,
          ap (λ (o : Outcome ℕ). o.answer) e,
          ap (λ (o : Outcome ℕ). length o.lent) e,
          length-append (page_text w file) (drop (length (page_text w file)) out),
          length-drop (length (page_text w file)) out,
          same,
        )
    go (inr t) =
        let e : outcome r left ≡ outcome 0 out = rw t at is in omega (arith, ap (λ (o : Outcome ℕ). o.answer) e)

pub example_line : ExampleLine
unfolding decimal dotted
example_line = refl
