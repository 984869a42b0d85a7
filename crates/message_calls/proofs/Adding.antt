-- Announcements of a message on a table in good order that has room for all of them: none is refused. Assumes nothing.
use mathlib.Core.Path.{◌≡◌, refl, sym, ap, ◌∙◌, subst, fun_ext}
use mathlib.Core.Bool.{Bool, true, false, cond}
use mathlib.Core.List.{List, [], ◌∷◌}
use Prim.Native.Nat.{ℕ, ◌+◌, ◌≤◌, ◌<◌}
use native.Mathlib.Omega.{arith}
use lib.Dec.{eqb, ltb}
use borrow.Author.Tests.{eq-eqb, lt-ltb, ltb-false}
use Rattle.promise.specs.Over.{Outcome, outcome}
use Rattle.bits.specs.Bits.{Bits, same}
use Rattle.bits.specs.Prefix.{Valid}
use Rattle.trie.specs.Routes.{Routes, upd}
use Rattle.prefix.specs.declared.Prefix.{Prefix}
use Rattle.refusals.specs.Refusals.{no_room, accepted}
use Rattle.refusals.specs.declared.Answer.{Answer}
use Rattle.routes.specs.Routes.{ValidRoute}
use Rattle.routes.specs.Bounds.{last_port}
use Rattle.routes.specs.Check.{route_fault}
use Rattle.table_rules.specs.Rows.{Layout, Stores}
use Rattle.table_rules.specs.Announce.{is_held}
use Rattle.table_rules.proofs.Table.{held_is}
use Rattle.table_rules.proofs.Good.{check_is_good}
use Rattle.table_rules.proofs.Closed.{announced_room}
use Rattle.table_update.specs.Calls.{leaves, announce_in, announce_into}
use Rattle.table_update.specs.History.{announcing, Table, after, is_accepted, ran, AllAccepted}
use Rattle.table_update.proofs.Arguments.{route_faultless}
use Rattle.table_update.proofs.History.{call_is}
use Rattle.message_rules.specs.Message.{AllValid}
use Rattle.message_calls.specs.Once.{among}
use Rattle.message_calls.specs.Named.{route_to, announcements, bits_of, has_bits, Size}
use Rattle.message_calls.specs.Steps.{folded, add_one, added}
use Rattle.message_calls.proofs.Sized.{good_size, size_le, size_more}
use Rattle.message_calls.proofs.Running.{TableGood, set_more}

module _ (L : Layout (List ℕ)) (w : ℕ) (st : Stores w L) (port : ℕ) (some : 0 < port) (most : port ≤ last_port) where
  -- one announcement, where a new prefix finds a row

  module _ (t : Table) (S : Routes) (good : TableGood L w t S) (p : Prefix) (ok : Valid w p.value p.len)
      (room : S (bits_of w p) ≡ 0 → t.count < L.room t.words) where
    valid : ValidRoute w (route_to port p)
    valid = record { prefix = ok; some = some; most = most }

    pub held : is_held w (L.get t.words) t.count (route_to port p) ≡ ltb 0 (S (bits_of w p))
    held = held_is w (L.get t.words) t.count S (route_to port p) good.placed ok

    raised : announce_into L w t.words t.count (route_to port p) ≡ outcome (accepted (add_one L w port t p).count) (add_one L w port t p).words
    unfolding announce_into announce_in
    raised =
        rw (
          eq-eqb (route_fault w (route_to port p) 0) 0 (route_faultless w (route_to port p) valid),
          (check_is_good w (L.room t.words) (L.get t.words) t.count).1 (S, good),
        )
        (by (is_held w (L.get t.words) t.count (route_to port p)) held)
      where
        by : (b : Bool) → b ≡ ltb 0 (S (bits_of w p))
            → cond b (outcome (accepted t.count) (add_one L w port t p).words)
            (cond (ltb t.count (L.room t.words)) (outcome (accepted (t.count + 1)) (add_one L w port t p).words) (leaves no_room t.count t.words))
            ≡ outcome (accepted (cond b t.count (t.count + 1))) (add_one L w port t p).words
        by true e = refl
        by false e =
            let h = ltb-false 0 (S (bits_of w p)) (sym e) in
            let new : S (bits_of w p) ≡ 0 = omega (arith, h) in
            rw (lt-ltb t.count (L.room t.words) (room new))

    announce_step : after L w t (announcing (route_to port p)) ≡ add_one L w port t p
    announce_step = ap (λ (o : Outcome Answer). record { words = o.lent; count = o.answer.count }) raised

    announce_taken : is_accepted L w t (announcing (route_to port p)) ≡ true
    announce_taken = ap (λ (o : Outcome Answer). eqb o.answer.number 0) raised

    pub announce_good : TableGood L w (add_one L w port t p) (upd S (bits_of w p) port)
    announce_good =
        subst (λ (u : Table). TableGood L w u (upd S (bits_of w p) port)) announce_step
        (subst (λ (b : Bool). TableGood L w (after L w t (announcing (route_to port p))) (cond b (upd S (bits_of w p) port) S))
        announce_taken
        (call_is L w st t S (announcing (route_to port p)) ok.fits good))

  -- all of them

  -- the set with some prefixes
  abbrev pub with : List Prefix → Routes → Routes
  with ps S q = cond (has_bits w q ps) port (S q)

  pub record Added (t : Table) (S : Routes) (ps : List Prefix) : Type 0 where
    pub calls : ran L w t (announcements port ps) ≡ added L w port t ps
    pub each : AllAccepted L w t (announcements port ps)
    pub good : TableGood L w (added L w port t ps) (with ps S)
    pub room : L.room (added L w port t ps).words ≡ L.room t.words

  -- more prefixes leave what is held held
  still : (S : Routes) (ps : List Prefix) (q : Bits) → 0 < S q → 0 < with ps S q
  still S ps q h = by (has_bits w q ps)
    where
      by : (b : Bool) → 0 < cond b port (S q)
      by true = some
      by false = h

  pub added_is : (t : Table) (S : Routes) (ps : List Prefix) (m : ℕ) → AllValid w ps → TableGood L w t S → Size (with ps S) m → m ≤ L.room t.words
      → Added t S ps
  unfolding folded ran AllValid among
  added_is t S [] m v good size few = record { calls = refl; each = tt; good = good; room = refl }
  added_is t S (p ∷ ps) m v good size few =
      let h = added_is (add_one L w port t p) (upd S (bits_of w p) port) ps m v.1 (announce_good t S good p v.0 room)
      (subst (λ (T : Routes). Size T m) (sym sets) size) (rw same_room few) in
      record {
        calls = ap (λ (u : Table). ran L w u (announcements port ps)) (announce_step t S good p v.0 room) ∙ h.calls;
        each = (
          announce_taken t S good p v.0 room,
          subst (λ (u : Table). AllAccepted L w u (announcements port ps)) (sym (announce_step t S good p v.0 room)) h.each,
        );
        good = subst (TableGood L w (added L w port (add_one L w port t p) ps)) sets h.good;
        room = h.room ∙ same_room;
      }
    where
      sets : with ps (upd S (bits_of w p) port) ≡ with (p ∷ ps) S
      sets = fun_ext (λ q. set_more (same q (bits_of w p)) (has_bits w q ps) port (S q))

      room : S (bits_of w p) ≡ 0 → t.count < L.room t.words
      room new =
          omega (
            arith,
            size_le (upd S (bits_of w p) port) (with ps (upd S (bits_of w p) port)) (t.count + 1) m
                (size_more S (bits_of w p) port t.count new some (good_size w (L.room t.words) (L.get t.words) t.count S good))
                (subst (λ (T : Routes). Size T m) (sym sets) size) (still (upd S (bits_of w p) port) ps),
          )

      same_room : L.room (add_one L w port t p).words ≡ L.room t.words
      same_room = announced_room L w st w t.words t.count (route_to port p)
