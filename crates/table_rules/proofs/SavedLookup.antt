-- On a table that the check accepts, the lookup answers the plain scan's port of the saved list: RULES, "Lookup in a table". Assumes nothing.
use mathlib.Core.Path.{◌≡◌, refl, sym, ap, ◌∙◌}
use mathlib.Core.List.{List, [], ◌∷◌, ◌++◌, map}
use Prim.Native.Nat.{ℕ, ◌+◌}
use lib.ListN.{length, get_or, length-append}
use lib.Seq.{get_or-append_seam, append_snoc}
use Rattle.bits.specs.Bits.{bits}
use Rattle.trie.specs.Routes.{Routes, held}
use Rattle.trie.specs.Scan.{scan}
use Rattle.routes.specs.Routes.{route, bit_route}
use Rattle.lists.specs.Numbered.{list_of}
use Rattle.routes.specs.declared.Route.{Route}
use Rattle.routes.proofs.Held.{scan_is_held}
use Rattle.table_rules.specs.Save.{saved}
use Rattle.refusals.specs.declared.found.Found.{Found}
use Rattle.table_rules.proofs.Lookup.{lookup_is_scan}
use Rattle.table_rules.specs.Theorems.{LookupIsSavedScan}
use Rattle.table_rules.proofs.Good.{check_is_good}
use Rattle.table_rules.proofs.Save.{saved_is}

-- the elements of a list by their numbers are the list
list_of_from : (d : Route) (pre rs : List Route) → list_of (λ i. get_or (pre ++ rs) i d) (length rs) (length pre) ≡ rs
unfolding list_of
list_of_from d pre [] = refl
list_of_from d pre (r ∷ rs) =
    let e : length pre + 1 ≡ length (pre ++ (r ∷ [])) = sym (length-append pre (r ∷ [])) in
    ap (λ (x : Route). x ∷ list_of (λ i. get_or (pre ++ (r ∷ rs)) i d) (length rs) (length pre + 1)) (get_or-append_seam pre r rs d)
    ∙ ap (λ (xs : List Route). r ∷ xs)
    (ap (list_of (λ i. get_or (pre ++ (r ∷ rs)) i d) (length rs)) e
    ∙ ap (λ (l : List Route). list_of (λ i. get_or l i d) (length rs) (length (pre ++ (r ∷ [])))) (sym (append_snoc pre r rs))
    ∙ list_of_from d (pre ++ (r ∷ [])) rs)

pub lookup_is_saved_scan : LookupIsSavedScan
lookup_is_saved_scan w capacity M n a good few fits =
    let g = (check_is_good w capacity M n).0 good in
    let S : Routes = g.0 in
    let s = saved_is w capacity M n S g.1 few in
    let rs : List Route = saved w M n in
    let is = lookup_is_scan w capacity M n a S g.1 fits in
    let e : map (bit_route w) (list_of (λ i. get_or rs i (route 0 0 0)) n 0) ≡ map (bit_route w) rs =
    ap (λ (k : ℕ). map (bit_route w) (list_of (λ i. get_or rs i (route 0 0 0)) k 0)) (sym s.size)
    ∙ ap (map (bit_route w)) (list_of_from (route 0 0 0) [] rs) in
    record {
      done = ap (λ (f : Found). f.number) is;
      port =
          ap (λ (f : Found). f.port) is
          ∙ sym (scan_is_held w (λ i. get_or rs i (route 0 0 0)) n a s.list fits
          ∙ ap (λ (T : Routes). scan T (bits w a)) (ap held e ∙ s.same));
    }
