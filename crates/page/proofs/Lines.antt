-- The lines of runs, and one more. Assumes nothing.
use mathlib.Core.Path.{◌≡◌, sym, ap, ◌∙◌}
use mathlib.Core.List.{List, [], ◌∷◌, ◌++◌, append-nil}
use Prim.Native.Nat.{ℕ, ◌+◌, ◌^◌, ◌≤◌, ◌<◌}
use native.Mathlib.Omega.{arith}
use native.Mathlib.Nat.{zero-add}
use native.Mathlib.Numerals.{add-one}
use lib.ListN.{length, length-append}
use Rattle.lists.proofs.Flat.{flat_append}
use Rattle.lists.specs.Numbered.{list_of}
use Rattle.lists.proofs.Numbered.{list_of_snoc}
use Rattle.runs_rules.specs.Runs.{Run, run}
use Rattle.page.specs.Text.{newline, space, numeral, address}
use Rattle.page.specs.Page.{line_of, lines_of, line_room}
use Rattle.page.specs.Needs.{Wrote}
use Rattle.page.proofs.Wrote.{wrote_more, wrote_as}
use Rattle.page.proofs.Text.{decimal_le, dotted_le}

-- a line's room holds any line
pub line_le : (first last port : ℕ) → first < 2 ^ 32 → last < 2 ^ 32 → port < 2 ^ 32 → length (line_of (run first last port)) ≤ line_room
line_le first last port h k l =
    let a : List ℕ = address first in
    let b : List ℕ = address last in
    let p : List ℕ = numeral port in
    omega (
      arith,
      dotted_le 3 first (omega arith),
      dotted_le 3 last (omega arith),
      decimal_le 10 10 port (omega arith) (omega arith),
      length-append (a ++ space ++ b ++ space ++ p) newline,
      length-append (a ++ space ++ b ++ space) p,
      length-append (a ++ space ++ b) space,
      length-append (a ++ space) b,
      length-append a space,
    )

lines_snoc : (rs : List Run) (r : Run) → lines_of (rs ++ (r ∷ [])) ≡ lines_of rs ++ line_of r
lines_snoc rs r = flat_append line_of rs (r ∷ []) ∙ ap (λ (s : List ℕ). lines_of rs ++ s) (append-nil (line_of r))

pub lines_more : (R : ℕ → Run) (i : ℕ) → lines_of (list_of R i 0) ++ line_of (R i) ≡ lines_of (list_of R (i + 1) 0)
lines_more R i =
    sym (lines_snoc (list_of R i 0) (R i))
    ∙ ap lines_of (ap (λ (j : ℕ). list_of R i 0 ++ (R j ∷ [])) (sym (zero-add i)) ∙ sym (list_of_snoc R i 0) ∙ ap (λ (j : ℕ). list_of R j 0) (sym (add-one i)))

-- a line more
pub wrote_line : {out left left' : List ℕ} {at m n : ℕ} (R : ℕ → Run) (i : ℕ) → Wrote out at (lines_of (list_of R i 0)) m left
    → Wrote left m (line_of (R i)) n left' → Wrote out at (lines_of (list_of R (i + 1) 0)) n left'
wrote_line R i p q = wrote_as (lines_of (list_of R (i + 1) 0)) (wrote_more p q) (lines_more R i)
