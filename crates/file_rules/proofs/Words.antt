-- The words of a list and its routes, both ways. Assumes nothing.
use mathlib.Core.Path.{◌≡◌}
use mathlib.Core.Logic.{⊎_elim}
use mathlib.Core.Bool.{true, false}
use mathlib.Core.List.{List, ◌++◌}
use Prim.Native.Nat.{ℕ, zero, suc, ◌+◌, ◌-◌, ◌<◌}
use native.Mathlib.Omega.{arith}
use lib.Dec.{ltb}
use lib.Pow.{pow_pos, pow_mono}
use lib.ListN.{length, get_or-append}
use lib.Seq.{get_or-append-add}
use borrow.Author.Tests.{ltb-true, ltb-false}
use Rattle.lists.proofs.Tests.{way}
use Rattle.routes.specs.Routes.{route_words, ValidRoute, Words, list_of_routes}
use Rattle.routes.specs.declared.Route.{Route}
use Rattle.file_rules.specs.File.{FileWidth}
use Rattle.lists.specs.Numbered.{in_order}

-- every word of a valid list is a word

words_append : (w : ℕ) (xs ys : List ℕ) → Words w xs → Words w ys → Words w (xs ++ ys)
words_append w xs ys h k i =
    ⊎_elim
    (λ (t : ltb i (length xs) ≡ true). rw (get_or-append xs ys 0 i (ltb-true i (length xs) t)) (h i))
    (λ (t : ltb i (length xs) ≡ false).
    let e : length xs + (i - length xs) ≡ i = omega (arith, ltb-false i (length xs) t) in
    rw (← e, get_or-append-add xs ys (i - length xs) 0) (k (i - length xs)))
    (way (ltb i (length xs)))

words_route : (w : ℕ) (r : Route) → FileWidth w → ValidRoute w r → Words w (route_words r)
words_route w r wide ok zero = ok.prefix.fits
words_route w r wide ok (suc zero) = omega (arith, ok.prefix.short, wide.short, pow_mono wide.ported)
words_route w r wide ok (suc (suc zero)) = omega (arith, ok.most, pow_mono wide.ported)
words_route w r wide ok (suc (suc (suc i))) = pow_pos w

pub words_list : (w : ℕ) (R : ℕ → Route) (n : ℕ) → FileWidth w → ((i : ℕ) → i < n → ValidRoute w (R i)) → Words w (list_of_routes R n)
unfolding in_order
words_list w R zero wide ok i = pow_pos w
words_list w R (suc n) wide ok i =
    words_append w (list_of_routes R n) (route_words (R n)) (words_list w R n wide (λ j h. ok j (omega arith))) (words_route w (R n) wide (ok n (omega arith))) i
