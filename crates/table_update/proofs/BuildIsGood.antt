-- A table built from a valid list: it is in good order for the routes of the list, and each was accepted. Assumes nothing.
use mathlib.Core.Path.{◌≡◌, refl, sym, ap, ◌∙◌, subst}
use mathlib.Core.Bool.{true, false}
use mathlib.Core.List.{List, map}
use Prim.Native.Nat.{ℕ, zero, suc, ◌+◌, ◌<◌, ◌≤◌}
use native.Mathlib.Omega.{arith}
use borrow.Author.Tests.{eq-eqb, lt-ltb}
use Rattle.promise.specs.Over.{outcome}
use Rattle.bits.specs.Bits.{prefix_bits}
use Rattle.trie.specs.Routes.{Routes, held}
use Rattle.refusals.specs.Refusals.{accepted}
use Rattle.routes.specs.Routes.{bit_route, ValidRoute}
use Rattle.lists.specs.Numbered.{list_of}
use Rattle.routes.specs.Check.{route_fault}
use Rattle.routes.specs.declared.Route.{Route}
use Rattle.routes.proofs.Held.{scan_is_held}
use Rattle.table_rules.specs.Rows.{Layout, Stores}
use Rattle.table_rules.specs.Holds.{GoodFor}
use Rattle.table_rules.specs.Check.{is_good}
use Rattle.table_rules.specs.Announce.{is_held}
use Rattle.refusals.specs.declared.found.Found.{Found}
use Rattle.table_rules.proofs.Table.{held_is}
use Rattle.table_rules.proofs.Lookup.{lookup_is_scan}
use Rattle.table_rules.proofs.Good.{check_is_good, placed→held}
use Rattle.table_update.specs.Calls.{announced_words, announce_in, announce_into, built_from}
use Rattle.table_update.specs.Needs.{Fills}
use Rattle.table_update.specs.Theorems.{BuiltIs, BuiltLookupIsScan, BuildIsAnnouncing}
use Rattle.table_update.proofs.Arguments.{route_faultless}
use Rattle.table_update.proofs.FillLoop.{Filling, filling_none, filling_more, filling_set}

module _ (L : Layout (List ℕ)) (w : ℕ) (st : Stores w L) (R : ℕ → Route) (words : List ℕ) (n : ℕ) (fills : Fills L w R words n) where
  -- after i routes, whatever is left
  filling_to : (i m : ℕ) → i + m ≤ n → (ws : List ℕ) → Filling L w R words ws n i → Filling L w R words (built_from L w R m i ws) n (i + m)
  unfolding built_from
  filling_to i zero h ws at = let e : i ≡ i + 0 = omega arith in subst (Filling L w R words ws n) e at
  filling_to i (suc m) h ws at =
      let more = filling_more L w st R words ws n i fills at (omega arith) (R i) refl (announced_words L w ws i (R i)) refl in
      let e : (i + 1) + m ≡ i + suc m = omega arith in
      subst (Filling L w R words (built_from L w R m (i + 1) (announced_words L w ws i (R i))) n) e
      (filling_to (i + 1) m (omega arith) (announced_words L w ws i (R i)) more)

  filled : (i : ℕ) → i ≤ n → Filling L w R words (built_from L w R i 0 words) n i
  filled i h =
      let e : 0 + i ≡ i = omega arith in
      subst (Filling L w R words (built_from L w R i 0 words) n) e (filling_to 0 i (omega arith) words (filling_none L w R words n))

  -- the table of the first i routes
  filled_good : (i : ℕ) (h : i ≤ n)
      → GoodFor w (L.room (built_from L w R i 0 words)) (L.get (built_from L w R i 0 words)) i (filled i h).set
  filled_good i h =
      let ws : List ℕ = built_from L w R i 0 words in
      let at = filled i h in
      record {
        few = rw at.room (omega (arith, fills.few));
        routes = placed→held w (L.get ws) i at.set at.placed;
        placed = at.placed;
      }

pub built_is : (L : Layout (List ℕ)) (w : ℕ) → Stores w L → BuiltIs L w
built_is L w st R words n ok room =
    let fills : Fills L w R words n = record { list_valid = ok; few = room } in
    let ws : List ℕ = built_from L w R n 0 words in
    let h : n ≤ n = omega arith in
    subst (GoodFor w (L.room ws) (L.get ws) n) (filling_set L w st R words ws n n fills (filled L w st R words n fills n h) h)
    (filled_good L w st R words n fills n h)

pub built_lookup_is_scan : (L : Layout (List ℕ)) (w : ℕ) → Stores w L → BuiltLookupIsScan L w
built_lookup_is_scan L w st R words n a ok room fits =
    let ws : List ℕ = built_from L w R n 0 words in
    let S : Routes = held (map (bit_route w) (list_of R n 0)) in
    let e = lookup_is_scan w (L.room ws) (L.get ws) n a S (built_is L w st R words n ok room) fits in
    (ap (λ (f : Found). f.number) e, ap (λ (f : Found). f.port) e ∙ sym (scan_is_held w R n a ok fits))

-- an announcement of a new prefix, in a table in good order with a free row
pub announced_new : (L : Layout (List ℕ)) (w : ℕ) (ws : List ℕ) (n : ℕ) (S : Routes) (q : Route) → GoodFor w (L.room ws) (L.get ws) n S → ValidRoute w q
    → S (prefix_bits w q.value q.len) ≡ 0 → n < L.room ws
    → announce_into L w ws n q ≡ outcome (accepted (n + 1)) (announced_words L w ws n q)
unfolding announce_into announce_in
announced_new L w ws n S q good ok new room =
    let fine : route_fault w q 0 ≡ 0 = route_faultless w q ok in
    let checked : is_good w (L.room ws) (L.get ws) n ≡ true = (check_is_good w (L.room ws) (L.get ws) n).1 (S, good) in
    let not-held : is_held w (L.get ws) n q ≡ false = held_is w (L.get ws) n S q good.placed ok.prefix ∙ rw new in
    rw (eq-eqb (route_fault w q 0) 0 fine, checked, not-held, lt-ltb n (L.room ws) room)

-- one route more
built_next : (L : Layout (List ℕ)) (w : ℕ) (R : ℕ → Route) (m j : ℕ) (ws : List ℕ) → announced_words L w (built_from L w R m j ws) (j + m) (R (j + m)) ≡ built_from L w R (m + 1) j ws
unfolding built_from
built_next L w R zero j ws = let e : j + 0 ≡ j = omega arith in ap (λ (k : ℕ). announced_words L w ws k (R k)) e
built_next L w R (suc m) j ws =
    let e : j + suc m ≡ (j + 1) + m = omega arith in
    let f : suc m + 1 ≡ suc (m + 1) = omega arith in
    ap (λ (k : ℕ). announced_words L w (built_from L w R m (j + 1) (announced_words L w ws j (R j))) k (R k)) e
    ∙ built_next L w R m (j + 1) (announced_words L w ws j (R j))
    ∙ sym (ap (λ (k : ℕ). built_from L w R k j ws) f)

pub build_is_announcing : (L : Layout (List ℕ)) (w : ℕ) → Stores w L → BuildIsAnnouncing L w
build_is_announcing L w st R words n i ok room h =
    let fills : Fills L w R words n = record { list_valid = ok; few = room } in
    let ws : List ℕ = built_from L w R i 0 words in
    let at : Filling L w R words ws n i = filled L w st R words n fills i (omega arith) in
    let e : 0 + i ≡ i = omega arith in
    announced_new L w ws i at.set (R i) (filled_good L w st R words n fills i (omega arith)) (ok.each i h) (at.fresh i (omega arith) h)
    (rw at.room (omega arith))
    ∙ ap (outcome (accepted (i + 1))) (ap (λ (k : ℕ). announced_words L w ws k (R k)) (sym e) ∙ built_next L w R i 0 words)
