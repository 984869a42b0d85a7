-- The routes of a valid list announced one after the other: each is new, and gets the next row. Assumes nothing.
use mathlib.Core.Path.{◌≡◌, refl, sym, ap, ◌∙◌, subst}
use mathlib.Core.Bool.{Bool, cond}
use mathlib.Core.List.{List, map}
use Prim.Native.Nat.{ℕ, suc, ◌+◌, ◌-◌, ◌<◌, ◌≤◌}
use native.Mathlib.Omega.{arith}
use native.Mathlib.Nat.{sub-zero}
use borrow.Author.Tests.{eq-eqb, le-leb, lt-leb, ne_eqb, le-ltb}
use Rattle.promise.specs.Over.{outcome}
use Rattle.bits.specs.Bits.{Bits, prefix_bits}
use Rattle.trie.specs.Routes.{Route as BitRoute, Routes, no_routes, upd, held_from, held}
use Rattle.trie.specs.Trie.{leaf}
use Rattle.trie.proofs.Routes.{same_no, upd_other}
use Rattle.refusals.specs.Refusals.{no_room, refused, accepted}
use Rattle.routes.specs.Bounds.{most_routes}
use Rattle.routes.specs.Routes.{route_at, route_count, bit_route}
use Rattle.lists.specs.Numbered.{list_of}
use Rattle.routes.specs.Check.{list_check}
use Rattle.refusals.specs.declared.Answer.{Answer}
use Rattle.routes.specs.declared.Route.{Route}
use Rattle.routes.proofs.Check.{accepted_sized}
use Rattle.routes.proofs.Rising.{prefixes_differ}
use Rattle.table_rules.specs.Rows.{Mem, Layout, Stores}
use Rattle.table_rules.specs.Holds.{Placed}
use Rattle.table_rules.specs.Announce.{announced}
use Rattle.table_rules.specs.Theorems.{Announced}
use Rattle.table_rules.proofs.Closed.{announced_room}
use Rattle.table_rules.proofs.Table.{announced_is}
use Rattle.table_update.specs.Calls.{announced_words, built_from, build_into}
use Rattle.table_update.specs.Needs.{Fills}

-- the bits of route j
abbrev bits_of : ℕ → (ℕ → Route) → ℕ → Bits
bits_of w R j = prefix_bits w (R j).value (R j).len

-- k routes from number i on, by their bits
abbrev bit_routes : ℕ → (ℕ → Route) → ℕ → ℕ → List BitRoute
bit_routes w R k i = map (bit_route w) (list_of R k i)

-- any rows are an empty table
pub placed_none : (w : ℕ) (M : Mem) → Placed w M 0 no_routes
placed_none w M = record {
  trie = leaf;
  rule = λ q. refl;
  holds = tt;
  once = λ i. sym (ap (λ (b : Bool). cond b 1 0) (le-ltb i 0 (omega arith)));
}

-- after i of k routes: the rows hold those, and the routes to come are not held
pub record Filling (L : Layout (List ℕ)) (w : ℕ) (R : ℕ → Route) (ws₀ ws : List ℕ) (k i : ℕ) : Type 0 where
  pub passed : i ≤ k
  pub room : L.room ws ≡ L.room ws₀
  pub set : Routes
  pub placed : Placed w (L.get ws) i set
  pub sum : held_from set (bit_routes w R (k - i) i) ≡ held (bit_routes w R k 0)
  pub fresh : (j : ℕ) → i ≤ j → j < k → set (bits_of w R j) ≡ 0

pub filling_none : (L : Layout (List ℕ)) (w : ℕ) (R : ℕ → Route) (ws : List ℕ) (k : ℕ) → Filling L w R ws ws k 0
filling_none L w R ws k = record {
  passed = omega arith;
  room = refl;
  set = no_routes;
  placed = placed_none w (L.get ws);
  sum = rw (sub-zero k);
  fresh = λ j h l. refl;
}

module _ (L : Layout (List ℕ)) (w : ℕ) (st : Stores w L) (R : ℕ → Route) (ws₀ ws : List ℕ) (k i : ℕ)
    (fills : Fills L w R ws₀ k) (at : Filling L w R ws₀ ws k i) where
  module _ (more : i < k) where
    pub filling_room : i < L.room ws
    filling_room = omega (arith, at.room, fills.few)

    pub filling_more : (q : Route) → q ≡ R i → (ws' : List ℕ) → ws' ≡ announced L w ws i q
        → Filling L w R ws₀ ws' k (i + 1)
    filling_more q is ws' e =
        let e' : ws' ≡ announced_words L w ws i (R i) = e ∙ ap (announced_words L w ws i) is in
        let new : at.set (bits_of w R i) ≡ 0 = at.fresh i (omega arith) more in
        let a : Announced w (L.get ws) (L.get (announced_words L w ws i (R i))) i at.set (R i) =
        announced_is (List ℕ) L w st ws i at.set (R i) at.placed (fills.list_valid.each i more)
        (omega (arith, filling_room)) (λ _. filling_room) in
        record {
          passed = omega arith;
          room = ap L.room e' ∙ announced_room L w st w ws i (R i) ∙ at.room;
          set = upd at.set (bits_of w R i) (R i).port;
          placed = subst (λ (v : List ℕ). Placed w (L.get v) (i + 1) (upd at.set (bits_of w R i) (R i).port)) (sym e')
              (subst (λ (n : ℕ). Placed w (L.get (announced_words L w ws i (R i))) n (upd at.set (bits_of w R i) (R i).port))
              (ap (λ (b : Bool). cond b (i + 1) i) (eq-eqb (at.set (bits_of w R i)) 0 new)) a.placed);
          sum = sum_turn ∙ at.sum;
          fresh = λ j h l.
              upd_other at.set (bits_of w R i) (bits_of w R j) (R i).port
              (same_no (bits_of w R j) (bits_of w R i) (prefixes_differ w R k fills.list_valid i j (omega arith) l))
              ∙ at.fresh j (omega arith) l;
        }
      where
        sum_turn : held_from (upd at.set (bits_of w R i) (R i).port) (bit_routes w R (k - (i + 1)) (i + 1))
            ≡ held_from at.set (bit_routes w R (k - i) i)
        sum_turn = let p : k - i ≡ suc (k - (i + 1)) = omega arith in sym (ap (λ (m : ℕ). held_from at.set (bit_routes w R m i)) p ∙ held_suc (k - (i + 1)))
          where
            held_suc : (m : ℕ) → held_from at.set (bit_routes w R (suc m) i)
                ≡ held_from (upd at.set (bits_of w R i) (R i).port) (bit_routes w R m (i + 1))
            held_suc m = unfold held_from in unfold list_of in refl

  -- nothing is left: the set is the list's
  pub filling_set : k ≤ i → at.set ≡ held (bit_routes w R k 0)
  filling_set h = let z : k - i ≡ 0 = omega arith in none ∙ sym (ap (λ (m : ℕ). held_from at.set (bit_routes w R m i)) z) ∙ at.sum
    where
      none : at.set ≡ held_from at.set (bit_routes w R 0 i)
      none = unfold held_from in unfold list_of in refl

-- the code's loop: what is left to do is all that there was
pub built_turn : (L : Layout (List ℕ)) (w : ℕ) (R : ℕ → Route) (ws : List ℕ) (k i : ℕ) → i < k
    → built_from L w R (k - i) i ws ≡ built_from L w R (k - (i + 1)) (i + 1) (announced_words L w ws i (R i))
built_turn L w R ws k i more = let p : k - i ≡ suc (k - (i + 1)) = omega arith in ap (λ (m : ℕ). built_from L w R m i ws) p ∙ built_suc (k - (i + 1))
  where
    built_suc : (m : ℕ) → built_from L w R (suc m) i ws ≡ built_from L w R m (i + 1) (announced_words L w ws i (R i))
    built_suc m = unfold built_from in refl

pub built_all : (L : Layout (List ℕ)) (w : ℕ) (R : ℕ → Route) (ws : List ℕ) (k i : ℕ) → k ≤ i → ws ≡ built_from L w R (k - i) i ws
built_all L w R ws k i h = let z : k - i ≡ 0 = omega arith in done ∙ sym (ap (λ (m : ℕ). built_from L w R m i ws) z)
  where
    done : ws ≡ built_from L w R 0 i ws
    done = unfold built_from in refl

-- each answer of a build
module _ (L : Layout (List ℕ)) (w : ℕ) (list ws : List ℕ) where
  pub build_fault : (r : Answer) → r ≡ list_check w list → (r.number ≡ 0 → ⊥) → outcome r ws ≡ build_into L w list ws
  unfolding build_into
  build_fault r is ne =
      ap (λ (a : Answer). outcome a ws) is
      ∙ sym (rw (ne_eqb (list_check w list).number 0 (λ e. ne (ap (λ (a : Answer). a.number) is ∙ e))))

  module _ (fine : accepted 0 ≡ list_check w list) where
    no_fault : (list_check w list).number ≡ 0
    no_fault = sym (ap (λ (a : Answer). a.number) fine)

    pub build_few : route_count list ≤ most_routes
    build_few = (accepted_sized w list no_fault).few

    module _ (c : ℕ) (room : c ≡ L.room ws) where
      pub build_full : c < route_count list → outcome (refused no_room 0) ws ≡ build_into L w list ws
      unfolding build_into
      build_full h = sym (rw (eq-eqb (list_check w list).number 0 no_fault, lt-leb (route_count list) (L.room ws) (omega arith)))

      pub build_done : route_count list ≤ c → (ws' : List ℕ) → ws' ≡ built_from L w (route_at list) (route_count list) 0 ws
          → outcome (accepted (route_count list)) ws' ≡ build_into L w list ws
      unfolding build_into
      build_done h ws' f =
          ap (outcome (accepted (route_count list))) f
          ∙ sym (rw (eq-eqb (list_check w list).number 0 no_fault, le-leb (route_count list) (L.room ws) (omega arith)))
