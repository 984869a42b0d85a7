-- The answers of reading a file, from the answer of its check. Assumes nothing.
use mathlib.Core.Path.{◌≡◌, sym, ap, ap₂, ◌∙◌}
use mathlib.Core.List.{List}
use Prim.Native.Nat.{ℕ, ◌/◌, ◌≤◌, ◌<◌}
use native.Mathlib.Omega.{arith}
use lib.ListN.{length}
use Rattle.promise.specs.Over.{over, outcome}
use Rattle.refusals.specs.Refusals.{no_room, refused}
use Rattle.refusals.specs.declared.Answer.{Answer}
use Rattle.file_rules.specs.File.{file_route}
use Rattle.file_rules.specs.Check.{file_check, Whole}
use Rattle.file_rules.specs.Calls.{read_file}
use Rattle.routes.specs.Routes.{list_of_routes}
use Rattle.file_rules.proofs.Walk.{accepted_whole, check_whole}
use Rattle.routes.proofs.Words.{length_list}
use Rattle.file_rules.proofs.Trips.{checked_refused, checked_short, read_whole}
use Rattle.file_read.specs.Needs.{FitsList}

module _ (w : ℕ) (file list : List ℕ) (checked : Answer) (is : checked ≡ file_check w file) where
  number_is : (n : ℕ) → checked.number ≡ n → (file_check w file).number ≡ n
  number_is n e = ap (λ (a : Answer). a.number) (sym is) ∙ e

  pub read_refused : (checked.number ≡ 0 → ⊥) → outcome checked list ≡ read_file w file list
  unfolding read_file
  read_refused n =
      ap (λ (a : Answer). outcome a list) is
      ∙ sym (checked_refused (file_check w file) _ _ list (λ z. n (ap (λ (a : Answer). a.number) is ∙ z)))

  module _ (done : checked.number ≡ 0) where
    whole : Whole w file checked.count
    whole = rw is (accepted_whole w file (number_is 0 done))

    pub read_short : length list / 3 < checked.count → outcome (refused no_room 0) list ≡ read_file w file list
    unfolding read_file
    read_short h =
        let n = (file_check w file).count in
        let e : checked.count ≡ n = ap (λ (x : Answer). x.count) is in
        sym (checked_short (file_check w file) _ _ list (number_is 0 done) (omega (arith, length_list (file_route w file) n, e)))

    pub read_fits : checked.count ≤ length list / 3 → FitsList w file list checked.count
    read_fits h = record { whole = whole; room = omega arith }

    pub read_done : (list' : List ℕ) → checked.count ≤ length list / 3 → list' ≡ over (list_of_routes (file_route w file) checked.count) list
        → outcome checked list' ≡ read_file w file list
    read_done list' h e =
        ap₂ outcome (is ∙ check_whole w file checked.count whole) e
        ∙ sym (read_whole w file list checked.count whole (omega arith))
