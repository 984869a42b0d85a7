-- The calls of a message on a table in good order are its prefixes taken one by one, and none of them meets a full table where the
-- final set fits. Assumes nothing.
use mathlib.Core.Path.{◌≡◌, refl, sym, ap, ◌∙◌, subst, fun_ext}
use mathlib.Core.Bool.{Bool, true, false, cond, not, ◌||◌}
use mathlib.Core.List.{List, [], ◌∷◌, ◌++◌}
use Prim.Native.Nat.{ℕ, ◌-◌}
use native.Mathlib.Omega.{arith}
use lib.Dec.{eqb, ltb}
use borrow.Author.Tests.{eq-eqb, le-leb, ltb-false}
use Rattle.promise.specs.Over.{Outcome, outcome}
use Rattle.bits.specs.Bits.{same}
use Rattle.bits.specs.Prefix.{Valid}
use Rattle.trie.specs.Routes.{Routes, upd}
use Rattle.trie.proofs.Routes.{upd_none}
use Rattle.prefix.specs.declared.Prefix.{Prefix}
use Rattle.refusals.specs.Refusals.{not_held, accepted}
use Rattle.refusals.specs.declared.Answer.{Answer}
use Rattle.routes.specs.Check.{prefix_fault}
use Rattle.table_rules.specs.Rows.{Layout, Stores}
use Rattle.table_rules.specs.Holds.{GoodFor}
use Rattle.table_rules.specs.Check.{is_good}
use Rattle.table_rules.specs.Withdraw.{withdrawn}
use Rattle.table_rules.proofs.Table.{held_is}
use Rattle.table_rules.proofs.Good.{check_is_good}
use Rattle.table_rules.proofs.Closed.{withdrawn_room}
use Rattle.table_update.specs.Calls.{leaves, prefix_only, withdraw_in, withdraw_into}
use Rattle.table_update.specs.History.{Call, withdrawing, Table, after, is_accepted, ran}
use Rattle.table_update.proofs.History.{call_is}
use Rattle.message_rules.specs.Message.{AllValid}
use Rattle.message_calls.specs.Once.{ahead, those, among}
use Rattle.message_calls.specs.Named.{withdrawals, bits_of, has_bits}
use Rattle.message_calls.specs.Steps.{folded, table_holds, dropped}

-- a table is in good order for S
abbrev pub TableGood : Layout (List ℕ) → ℕ → Table → Routes → Type 0
TableGood L w t S = GoodFor w (L.room t.words) (L.get t.words) t.count S

-- calls after calls
pub ran_append : (L : Layout (List ℕ)) (w : ℕ) (t : Table) (xs ys : List Call) → ran L w t (xs ++ ys) ≡ ran L w (ran L w t xs) ys
unfolding ran
ran_append L w t [] ys = refl
ran_append L w t (x ∷ xs) ys = ran_append L w (after L w t x) xs ys

-- the arguments of a withdrawal have no fault
pub prefix_faultless : (w v l : ℕ) → Valid w v l → prefix_fault w v l 0 ≡ 0
prefix_faultless w v l ok = rw (le-leb l w ok.short, eq-eqb _ 0 ok.zeros)

-- sets after one more

pub set_more : (a b : Bool) (p x : ℕ) → cond b p (cond a p x) ≡ cond (a || b) p x
set_more true true p x = refl
set_more true false p x = refl
set_more false b p x = refl

module _ (L : Layout (List ℕ)) (w : ℕ) (st : Stores w L) where
  -- one withdrawal

  module _ (t : Table) (S : Routes) (good : TableGood L w t S) (p : Prefix) (ok : Valid w p.value p.len) where
    abbrev c : Call
    c = withdrawing p.value p.len

    abbrev lower : Table
    lower = record { words = withdrawn L w t.words t.count (prefix_only p.value p.len); count = t.count - 1 }

    held : table_holds L w t p ≡ ltb 0 (S (bits_of w p))
    held = held_is w (L.get t.words) t.count S (prefix_only p.value p.len) good.placed ok

    is_good_lem : is_good w (L.room t.words) (L.get t.words) t.count ≡ true
    is_good_lem = (check_is_good w (L.room t.words) (L.get t.words) t.count).1 (S, good)

    lowered : withdraw_into L w t.words t.count p.value p.len
        ≡ cond (table_holds L w t p) (outcome (accepted (t.count - 1)) lower.words) (leaves not_held t.count t.words)
    unfolding withdraw_into withdraw_in
    lowered = rw (eq-eqb (prefix_fault w p.value p.len 0) 0 (prefix_faultless w p.value p.len ok), is_good_lem)

    -- what the call leaves, and for which set
    withdraw_step : after L w t c ≡ cond (table_holds L w t p) lower t
    withdraw_step = ap (λ (o : Outcome Answer). record { words = o.lent; count = o.answer.count }) lowered ∙ by (table_holds L w t p)
      where
        by : (b : Bool)
            → let o : Outcome Answer = cond b (outcome (accepted (t.count - 1)) lower.words) (leaves not_held t.count t.words) in
            record { words = o.lent; count = o.answer.count } ≡ cond b lower t
        by true = refl
        by false = refl

    withdraw_taken : is_accepted L w t c ≡ table_holds L w t p
    withdraw_taken = ap (λ (o : Outcome Answer). eqb o.answer.number 0) lowered ∙ by (table_holds L w t p)
      where
        by : (b : Bool)
            → eqb (cond b (outcome (accepted (t.count - 1)) lower.words) (leaves not_held t.count t.words)).answer.number 0 ≡ b
        by true = refl
        by false = refl

    withdraw_set : cond (is_accepted L w t c) (upd S (bits_of w p) 0) S ≡ upd S (bits_of w p) 0
    withdraw_set = by (is_accepted L w t c) (withdraw_taken ∙ held)
      where
        by : (b : Bool) → b ≡ ltb 0 (S (bits_of w p)) → cond b (upd S (bits_of w p) 0) S ≡ upd S (bits_of w p) 0
        by true e = refl
        by false e = sym (upd_none S (bits_of w p) 0 (let h = ltb-false 0 (S (bits_of w p)) (sym e) in let z : S (bits_of w p) ≡ 0 = omega (arith, h) in z))

    withdraw_good : TableGood L w (cond (table_holds L w t p) lower t) (upd S (bits_of w p) 0)
    withdraw_good =
        subst (λ (u : Table). TableGood L w u (upd S (bits_of w p) 0)) withdraw_step
        (subst (TableGood L w (after L w t c)) withdraw_set (call_is L w st t S c ok.fits good))

    withdraw_room : L.room (cond (table_holds L w t p) lower t).words ≡ L.room t.words
    withdraw_room = by (table_holds L w t p)
      where
        by : (b : Bool) → L.room (cond b lower t).words ≡ L.room t.words
        by true = withdrawn_room L w st w t.words t.count (prefix_only p.value p.len)
        by false = refl

  -- all withdrawals that are not skipped

  -- the set without some prefixes
  abbrev pub without : List Prefix → Routes → Routes
  without ps S q = cond (has_bits w q ps) 0 (S q)

  pub record Dropped (skip : Prefix → Bool) (t : Table) (S : Routes) (ps : List Prefix) : Type 0 where
    pub calls : ran L w t (withdrawals (those (λ p. not (skip p)) ps)) ≡ dropped L w skip t ps
    pub good : TableGood L w (dropped L w skip t ps) (without (those (λ p. not (skip p)) ps) S)
    pub room : L.room (dropped L w skip t ps).words ≡ L.room t.words

  pub dropped_is : (skip : Prefix → Bool) (t : Table) (S : Routes) (ps : List Prefix) → AllValid w ps → TableGood L w t S → Dropped skip t S ps
  unfolding folded those ran AllValid among
  dropped_is skip t S [] v good = record { calls = refl; good = good; room = refl }
  dropped_is skip t S (p ∷ ps) v good =
      let d = by (skip p) (dropped_is skip t S ps v.1 good) (dropped_is skip u (upd S (bits_of w p) 0) ps v.1 (withdraw_good t S good p v.0)) in
      record { calls = d.0; good = d.1; room = d.2 }
    where
      u : Table
      u = cond (table_holds L w t p) (lower t S good p v.0) t

      rest : List Prefix
      rest = those (λ q. not (skip q)) ps

      by : (b : Bool) → Dropped skip t S ps → Dropped skip u (upd S (bits_of w p) 0) ps
          → (ran L w t (withdrawals (ahead (not b) p rest)) ≡ dropped L w skip (cond b t u) ps)
          × TableGood L w (dropped L w skip (cond b t u) ps) (without (ahead (not b) p rest) S)
          × (L.room (dropped L w skip (cond b t u) ps).words ≡ L.room t.words)
      by true here below = (here.calls, here.good, here.room)
      by false here below = (
        ap (λ (x : Table). ran L w x (withdrawals rest)) (withdraw_step t S good p v.0) ∙ below.calls,
        subst (TableGood L w (dropped L w skip u ps)) (fun_ext (λ q. set_more (same q (bits_of w p)) (has_bits w q rest) 0 (S q))) below.good,
        below.room ∙ withdraw_room t S good p v.0,
      )
