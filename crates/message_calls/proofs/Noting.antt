-- Prefixes noted in a table of their own: it holds just those met, has a row for each that is different, and the hits are those of
-- them that the other table holds. Assumes nothing.
use mathlib.Core.Path.{◌≡◌, refl, sym, ap, ◌∙◌, subst}
use mathlib.Core.Bool.{Bool, true, false, cond, not, ◌||◌}
use mathlib.Core.List.{List, [], ◌∷◌, ◌++◌}
use Prim.Native.Nat.{ℕ, ◌+◌, ◌≤◌, ◌<◌}
use native.Mathlib.Omega.{arith}
use lib.Dec.{ltb}
use lib.ListN.{length}
use borrow.Author.Tests.{lt-ltb}
use Rattle.bits.specs.Bits.{same}
use Rattle.bits.specs.Prefix.{Valid}
use Rattle.trie.specs.Routes.{Routes, no_routes, upd}
use Rattle.prefix.specs.declared.Prefix.{Prefix}
use Rattle.routes.specs.Bounds.{last_port}
use Rattle.table_rules.specs.Rows.{Layout, Stores}
use Rattle.table_rules.specs.Announce.{announced, is_held}
use Rattle.table_rules.proofs.Table.{held_is}
use Rattle.table_rules.proofs.Good.{placed→held}
use Rattle.table_rules.proofs.Closed.{announced_room}
use Rattle.table_update.specs.Calls.{prefix_only}
use Rattle.table_update.specs.History.{Table}
use Rattle.table_update.proofs.FillLoop.{placed_none}
use Rattle.message_rules.specs.Message.{AllValid}
use Rattle.message_calls.specs.Once.{ahead, those, among, once_after}
use Rattle.message_calls.specs.Named.{is_one, is_named, route_to, bits_of}
use Rattle.message_calls.specs.Steps.{folded, table_holds, add_one, Noted, noted}
use Rattle.message_calls.proofs.Final.{one_eq, same_bits}
use Rattle.message_calls.proofs.Running.{TableGood}
use Rattle.message_calls.proofs.Adding.{announce_good}

-- one list after the other
pub folded_append : {X : Type 0} (step : X → Prefix → X) (s : X) (xs ys : List Prefix)
    → folded step s (xs ++ ys) ≡ folded step (folded step s xs) ys
unfolding folded
folded_append step s [] ys = refl
folded_append step s (x ∷ xs) ys = folded_append step (step s x) xs ys

or_turned : (a b c : Bool) → (b || (a || c)) ≡ ((a || b) || c)
or_turned true true c = refl
or_turned true false c = refl
or_turned false b c = refl

-- one more that passes, or not
length_ahead : (b : Bool) (p : Prefix) (ps : List Prefix) → length (ahead b p ps) ≡ cond b 1 0 + length ps
length_ahead true p ps = omega arith
length_ahead false p ps = omega arith

module _ (L : Layout (List ℕ)) (w : ℕ) (st : Stores w L) (held : Prefix → Bool) (port : ℕ) (some : 0 < port) (most : port ≤ last_port) where
  -- a table in good order that holds just the prefixes of a list
  pub record Holding (t : Table) (past : List Prefix) : Type 0 where
    pub set : Routes
    pub good : TableGood L w t set
    pub just : (p : Prefix) → Valid w p.value p.len → table_holds L w t p ≡ is_named p past

  -- none in the empty table, whatever its words
  pub holding_none : (words : List ℕ) → Holding (record { words = words; count = 0 }) []
  unfolding among
  holding_none words = record {
    set = no_routes;
    good = record {
      few = omega arith;
      routes = placed→held w (L.get words) 0 no_routes (placed_none w (L.get words));
      placed = placed_none w (L.get words);
    };
    just = λ p ok. refl;
  }

  module _ (s : Noted) (past : List Prefix) (p : Prefix) (ok : Valid w p.value p.len) (so : Holding s.met past) where
    -- met before
    again : is_named p past ≡ true → Holding s.met (p ∷ past)
    unfolding among
    again e = record { set = so.set; good = so.good; just = λ x v. so.just x v ∙ by x (is_one x p) refl }
      where
        by : (x : Prefix) (b : Bool) → is_one x p ≡ b → is_named x past ≡ (b || is_named x past)
        by x true f = ap (λ (y : Prefix). is_named y past) (one_eq x p f) ∙ e
        by x false f = refl

    -- met for the first time, and there is a row
    module _ (e : is_named p past ≡ false) (room : s.met.count < L.room s.met.words) where
      abbrev next : Table
      next = record { words = announced L w s.met.words s.met.count (route_to port p); count = s.met.count + 1 }

      set_none : ltb 0 (so.set (bits_of w p)) ≡ false
      set_none =
          sym (held_is w (L.get s.met.words) s.met.count so.set (prefix_only p.value p.len) so.good.placed ok)
          ∙ so.just p ok ∙ e

      is_next : add_one L w port s.met p ≡ next
      is_next =
          let f : is_held w (L.get s.met.words) s.met.count (route_to port p) ≡ false =
          held_is w (L.get s.met.words) s.met.count so.set (route_to port p) so.good.placed ok ∙ set_none in
          ap (λ (b : Bool). record { words = announced L w s.met.words s.met.count (route_to port p); count = cond b s.met.count (s.met.count + 1) }) f

      next_good : TableGood L w next (upd so.set (bits_of w p) port)
      next_good =
          subst (λ (t : Table). TableGood L w t (upd so.set (bits_of w p) port)) is_next
          (announce_good L w st port some most s.met so.set so.good p ok (λ z. room))

      first : Holding next (p ∷ past)
      unfolding among
      first = record { set = upd so.set (bits_of w p) port; good = next_good; just = λ x v. holds_it x v }
        where
          by : (x : Prefix) (b : Bool) → ltb 0 (so.set (bits_of w x)) ≡ is_named x past → ltb 0 (cond b port (so.set (bits_of w x))) ≡ (b || is_named x past)
          by x true f = lt-ltb 0 port some
          by x false f = f

          holds_it : (x : Prefix) → Valid w x.value x.len → table_holds L w next x ≡ (is_one x p || is_named x past)
          holds_it x v =
              held_is w (L.get next.words) next.count (upd so.set (bits_of w p) port) (prefix_only x.value x.len) next_good.placed v
              ∙ by x (same (bits_of w x) (bits_of w p))
              (sym (held_is w (L.get s.met.words) s.met.count so.set (prefix_only x.value x.len) so.good.placed v) ∙ so.just x v)
              ∙ ap (λ (b : Bool). b || is_named x past) (same_bits w x p v ok)

  -- after a list

  pub record NotedIs (s : Noted) (past ps : List Prefix) (r : Noted) : Type 0 where
    pub count : r.met.count ≡ s.met.count + length (once_after is_one past ps)
    pub hits : r.hits ≡ s.hits + length (those held (once_after is_one past ps))
    pub set : Routes
    pub good : TableGood L w r.met set
    pub just : (p : Prefix) → Valid w p.value p.len → table_holds L w r.met p ≡ (is_named p ps || is_named p past)
    pub room : L.room r.met.words ≡ L.room s.met.words

  pub noted_is : (s : Noted) (past ps : List Prefix) → AllValid w ps → Holding s.met past → s.met.count + length ps ≤ L.room s.met.words
      → NotedIs s past ps (noted L w held port s ps)
  unfolding folded once_after those among AllValid
  noted_is s past [] v so few =
      record { count = omega arith; hits = omega arith; set = so.set; good = so.good; just = so.just; room = refl }
  noted_is s past (p ∷ ps) v so few =
      by (table_holds L w s.met p) (sym (so.just p v.0)) (λ u h k. noted_is u (p ∷ past) ps v.1 h k)
    where
      new : Noted
      new = record {
        met = record { words = announced L w s.met.words s.met.count (route_to port p); count = s.met.count + 1 };
        hits = s.hits + cond (held p) 1 0;
      }

      rest : List Prefix
      rest = once_after is_one (p ∷ past) ps

      each : (b : Bool) → is_named p past ≡ b → ahead (not b) p rest ≡ once_after is_one past (p ∷ ps)
      each b e = ap (λ (c : Bool). ahead (not c) p rest) (sym e)

      turned : (x : Prefix) → (is_named x ps || is_named x (p ∷ past)) ≡ (is_named x (p ∷ ps) || is_named x past)
      turned x = or_turned (is_one x p) (is_named x ps) (is_named x past)

      by : (b : Bool) → is_named p past ≡ b
          → ((u : Noted) → Holding u.met (p ∷ past) → u.met.count + length ps ≤ L.room u.met.words → NotedIs u (p ∷ past) ps (noted L w held port u ps))
          → NotedIs s past (p ∷ ps) (noted L w held port (cond b s new) ps)
      by true e ih =
          let h = ih s (again s past p v.0 so e) (omega (arith, few)) in
          record {
            count = h.count ∙ ap (λ (l : List Prefix). s.met.count + length l) (each true e);
            hits = h.hits ∙ ap (λ (l : List Prefix). s.hits + length (those held l)) (each true e);
            set = h.set;
            good = h.good;
            just = λ x ok. h.just x ok ∙ turned x;
            room = h.room;
          }
      by false e ih =
          let free : s.met.count < L.room s.met.words = omega (arith, few) in
          let same_room : L.room new.met.words ≡ L.room s.met.words = announced_room L w st w s.met.words s.met.count (route_to port p) in
          let h = ih new (first s past p v.0 so e free) (rw same_room (omega (arith, few))) in
          let count_is : s.met.count + 1 + length rest ≡ s.met.count + length (ahead true p rest) = omega arith in
          let hits-is : s.hits + cond (held p) 1 0 + length (those held rest) ≡ s.hits + length (those held (ahead true p rest)) =
          omega (arith, length_ahead (held p) p (those held rest)) in
          record {
            count = h.count ∙ count_is ∙ ap (λ (l : List Prefix). s.met.count + length l) (each false e);
            hits = h.hits ∙ hits-is ∙ ap (λ (l : List Prefix). s.hits + length (those held l)) (each false e);
            set = h.set;
            good = h.good;
            just = λ x ok. h.just x ok ∙ turned x;
            room = h.room ∙ same_room;
          }
