-- Demand 3: after any history the table is in good order for just the routes of each prefix's last accepted call. Assumes nothing.
use mathlib.Core.Path.{◌≡◌, refl, sym, ap, ap₂, ◌∙◌, subst, fun_ext}
use mathlib.Core.Bool.{Bool, true, false, cond, true≢false}
use mathlib.Core.List.{List, [], ◌∷◌}
use Prim.Native.Nat.{ℕ, ◌+◌, ◌-◌, ◌^◌, ◌<◌, ◌≤◌}
use native.Mathlib.Omega.{arith}
use lib.Dec.{eqb, ltb}
use borrow.Author.Tests.{eq-eqb, ne_eqb, eqb-true, ltb-true, ltb-false}
use Rattle.promise.specs.Over.{Outcome, outcome}
use Rattle.bits.specs.Bits.{Bits, prefix_bits, same}
use Rattle.bits.specs.Prefix.{Valid}
use Rattle.trie.specs.Routes.{Routes, no_routes, upd}
use Rattle.refusals.specs.Refusals.{no_room, not_held, not_in_order, accepted}
use Rattle.routes.specs.Routes.{ValidRoute}
use Rattle.routes.specs.Check.{prefix_fault, route_fault}
use Rattle.refusals.specs.declared.Answer.{Answer}
use Rattle.routes.specs.declared.Route.{Route}
use Rattle.table_rules.specs.Rows.{Layout, Stores}
use Rattle.table_rules.specs.Holds.{Placed, GoodFor}
use Rattle.table_rules.specs.Check.{is_good}
use Rattle.table_rules.specs.Announce.{is_held}
use Rattle.table_rules.specs.Withdraw.{withdrawn}
use Rattle.table_rules.proofs.Table.{held_is, announced_is, withdrawn_is}
use Rattle.table_rules.proofs.Closed.{announced_room, withdrawn_room}
use Rattle.table_rules.proofs.Good.{check_is_good, placed→held}
use Rattle.table_update.specs.Calls.{leaves, announced_words, announce_in, announce_into, prefix_only, withdraw_in, withdraw_into}
use Rattle.table_update.specs.History.{Call, announcing, withdrawing, Table, after, is_accepted, ran, call_prefix, call_port, port_after, AllFit}
use Rattle.table_update.specs.Theorems.{CallIs, RefusedKeeps, HistoryIs}
use Rattle.table_update.proofs.Arguments.{prefix_valid, route_valid}
use Rattle.table_update.proofs.FillLoop.{placed_none}

-- what became of a table, by whether the call was accepted

-- `ws` and `n` before, the outcome o, and the set afterwards
pub record Became (L : Layout (List ℕ)) (w : ℕ) (ws : List ℕ) (n : ℕ) (o : Outcome Answer) (S T : Routes) : Type 0 where
  pub good : GoodFor w (L.room o.lent) (L.get o.lent) o.answer.count (cond (eqb o.answer.number 0) T S)

module _ (L : Layout (List ℕ)) (w : ℕ) (st : Stores w L) (ws : List ℕ) (n : ℕ) (S T : Routes) (good : GoodFor w (L.room ws) (L.get ws) n S) where
  refused_became : (m : ℕ) → eqb m 0 ≡ false → Became L w ws n (leaves m n ws) S T
  refused_became m e = record { good = rw e good }

  accepted_became : (ws' : List ℕ) (n' : ℕ) → L.room ws' ≡ L.room ws → n' ≤ L.room ws → Placed w (L.get ws') n' T
      → Became L w ws n (outcome (accepted n') ws') S T
  accepted_became ws' n' room few placed = record {
    good = record {
      few = rw room few;
      routes = placed→held w (L.get ws') n' T placed;
      placed = placed;
    };
  }

  lies : n ≤ L.room ws
  lies = omega (arith, good.few)

  is_good_lem : is_good w (L.room ws) (L.get ws) n ≡ true
  is_good_lem = (check_is_good w (L.room ws) (L.get ws) n).1 (S, good)

  module _ (q : Route) (fits : q.value < 2 ^ w) (T-is : upd S (prefix_bits w q.value q.len) q.port ≡ T) where
    abbrev y : Bits
    y = prefix_bits w q.value q.len

    module _ (ok : ValidRoute w q) (room : S y ≡ 0 → n < L.room ws) where
      announced_placed : Placed w (L.get (announced_words L w ws n q)) (cond (eqb (S y) 0) (n + 1) n) T
      announced_placed =
          subst (Placed w (L.get (announced_words L w ws n q)) (cond (eqb (S y) 0) (n + 1) n)) T-is
          (announced_is (List ℕ) L w st ws n S q good.placed ok lies (λ e. omega (arith, room e))).placed

      announce_became : (n' : ℕ) → cond (eqb (S y) 0) (n + 1) n ≡ n' → n' ≤ L.room ws
          → Became L w ws n (outcome (accepted n') (announced_words L w ws n q)) S T
      announce_became n' e few =
          accepted_became (announced_words L w ws n q) n' (announced_room L w st w ws n q) few
          (subst (λ (k : ℕ). Placed w (L.get (announced_words L w ws n q)) k T) e announced_placed)

    announce_in_became : ValidRoute w q → Became L w ws n (announce_in L w ws n q) S T
    unfolding announce_in
    announce_in_became ok = by (is_held w (L.get ws) n q) refl (ltb n (L.room ws)) refl
      where
        held : is_held w (L.get ws) n q ≡ ltb 0 (S y)
        held = held_is w (L.get ws) n S q good.placed ok.prefix

        by : (a : Bool) → is_held w (L.get ws) n q ≡ a → (b : Bool) → ltb n (L.room ws) ≡ b
            → Became L w ws n
            (cond a (outcome (accepted n) (announced_words L w ws n q))
            (cond b (outcome (accepted (n + 1)) (announced_words L w ws n q)) (leaves no_room n ws))) S T
        by true e b f =
            let some : 0 < S y = ltb-true 0 (S y) (sym held ∙ e) in
            let ne : (S y ≡ 0 → ⊥) = (λ z. omega arith) in
            announce_became ok (λ z. absurd (ne z)) n (ap (λ (c : Bool). cond c (n + 1) n) (ne_eqb (S y) 0 ne)) good.few
        by false e true f =
            let none : S y ≡ 0 = omega (arith, ltb-false 0 (S y) (sym held ∙ e)) in
            let room : n < L.room ws = ltb-true n (L.room ws) f in
            announce_became ok (λ _. room) (n + 1) (ap (λ (c : Bool). cond c (n + 1) n) (eq-eqb (S y) 0 none)) (omega arith)
        by false e false f = refused_became no_room refl

    announce_into_became : Became L w ws n (announce_into L w ws n q) S T
    unfolding announce_into
    announce_into_became = by (eqb (route_fault w q 0) 0) refl
      where
        by : (a : Bool) → eqb (route_fault w q 0) 0 ≡ a
            → Became L w ws n
            (cond a (cond (is_good w (L.room ws) (L.get ws) n) (announce_in L w ws n q) (leaves not_in_order n ws)) (leaves (route_fault w q 0) n ws)) S T
        by true e = rw is_good_lem (announce_in_became (route_valid w q fits (eqb-true (route_fault w q 0) 0 e)))
        by false e = refused_became (route_fault w q 0) e

  module _ (value len : ℕ) (fits : value < 2 ^ w) (T-is : upd S (prefix_bits w value len) 0 ≡ T) where
    abbrev yw : Bits
    yw = prefix_bits w value len

    withdraw_in_became : Valid w value len → Became L w ws n (withdraw_in L w ws n (prefix_only value len)) S T
    unfolding withdraw_in
    withdraw_in_became ok = by (is_held w (L.get ws) n (prefix_only value len)) refl
      where
        by : (a : Bool) → is_held w (L.get ws) n (prefix_only value len) ≡ a
            → Became L w ws n (cond a (outcome (accepted (n - 1)) (withdrawn L w ws n (prefix_only value len))) (leaves not_held n ws)) S T
        by true e =
            let some : 0 < S yw = ltb-true 0 (S yw) (sym (held_is w (L.get ws) n S (prefix_only value len) good.placed ok) ∙ e) in
            accepted_became (withdrawn L w ws n (prefix_only value len)) (n - 1)
            (withdrawn_room L w st w ws n (prefix_only value len)) (omega (arith, good.few))
            (subst (Placed w (L.get (withdrawn L w ws n (prefix_only value len))) (n - 1)) T-is
            (withdrawn_is (List ℕ) L w st ws n S (prefix_only value len) good.placed ok lies some).placed)
        by false e = refused_became not_held refl

    withdraw_into_became : Became L w ws n (withdraw_into L w ws n value len) S T
    unfolding withdraw_into
    withdraw_into_became = by (eqb (prefix_fault w value len 0) 0) refl
      where
        by : (a : Bool) → eqb (prefix_fault w value len 0) 0 ≡ a
            → Became L w ws n
            (cond a (cond (is_good w (L.room ws) (L.get ws) n) (withdraw_in L w ws n (prefix_only value len)) (leaves not_in_order n ws))
            (leaves (prefix_fault w value len 0) n ws)) S T
        by true e = rw is_good_lem (withdraw_in_became (prefix_valid w value len fits (eqb-true (prefix_fault w value len 0) 0 e)))
        by false e = refused_became (prefix_fault w value len 0) e

pub call_is : (L : Layout (List ℕ)) (w : ℕ) → Stores w L → CallIs L w
call_is L w st t S (announcing q) fits good =
    (announce_into_became L w st t.words t.count S (upd S (call_prefix w (announcing q)) q.port) good q fits refl).good
call_is L w st t S (withdrawing value len) fits good =
    (withdraw_into_became L w st t.words t.count S (upd S (call_prefix w (withdrawing value len)) 0) good value len fits refl).good

-- the set of a history, one call at a time
lasts : (L : Layout (List ℕ)) (w : ℕ) (st : Stores w L) (t : Table) (calls : List Call) (S : Routes) → AllFit w calls → GoodFor w (L.room t.words) (L.get t.words) t.count S
    → GoodFor w (L.room (ran L w t calls).words) (L.get (ran L w t calls).words) (ran L w t calls).count (λ q. port_after L w t calls q (S q))
unfolding ran port_after
lasts L w st t [] S fit good = good
lasts L w st t (c ∷ cs) S fit good =
    subst
    (λ (U : Bits → ℕ). GoodFor w (L.room (ran L w (after L w t c) cs).words) (L.get (ran L w (after L w t c) cs).words) (ran L w (after L w t c) cs).count
    (λ q. port_after L w (after L w t c) cs q (U q)))
    (fun_ext (λ q. go q (is_accepted L w t c)))
    (lasts L w st (after L w t c) cs (cond (is_accepted L w t c) (upd S (call_prefix w c) (call_port c)) S) fit.1 (call_is L w st t S c fit.0 good))
  where
    go : (q : Bits) (a : Bool) → cond a (upd S (call_prefix w c) (call_port c)) S q ≡ cond a (cond (same q (call_prefix w c)) (call_port c) (S q)) (S q)
    go q true = refl
    go q false = refl

pub history_is : (L : Layout (List ℕ)) (w : ℕ) → Stores w L → HistoryIs L w
history_is L w st words calls fit =
    lasts L w st (record { words = words; count = 0 }) calls no_routes fit
    (record { few = omega arith; routes = placed→held w (L.get words) 0 no_routes (placed_none w (L.get words)); placed = placed_none w (L.get words) })

-- a refused call: by the test at which it was refused

-- an answer that keeps what it was handed unless it is accepted
abbrev Keeps : List ℕ → ℕ → Outcome Answer → Type 0
Keeps ws n o = eqb o.answer.number 0 ≡ false → (o.lent ≡ ws) × (o.answer.count ≡ n)

either_keeps : (ws : List ℕ) (n : ℕ) (a : Bool) (o p : Outcome Answer) → Keeps ws n o → Keeps ws n p → Keeps ws n (cond a o p)
either_keeps ws n true o p h k = h
either_keeps ws n false o p h k = k

leaves_keeps : (ws : List ℕ) (n m : ℕ) → Keeps ws n (leaves m n ws)
leaves_keeps ws n m e = (refl, refl)

accepted_keeps : (ws : List ℕ) (n n' : ℕ) (ws' : List ℕ) → Keeps ws n (outcome (accepted n') ws')
accepted_keeps ws n n' ws' e = absurd (true≢false e)

announce_keeps : (L : Layout (List ℕ)) (w : ℕ) (ws : List ℕ) (n : ℕ) (q : Route) → Keeps ws n (announce_into L w ws n q)
unfolding announce_into announce_in
announce_keeps L w ws n q =
    either_keeps ws n (eqb (route_fault w q 0) 0) _ _
    (either_keeps ws n (is_good w (L.room ws) (L.get ws) n) _ _
    (either_keeps ws n (is_held w (L.get ws) n q) _ _ (accepted_keeps ws n n _)
    (either_keeps ws n (ltb n (L.room ws)) _ _ (accepted_keeps ws n (n + 1) _) (leaves_keeps ws n no_room)))
    (leaves_keeps ws n not_in_order))
    (leaves_keeps ws n (route_fault w q 0))

withdraw_keeps : (L : Layout (List ℕ)) (w : ℕ) (ws : List ℕ) (n value len : ℕ) → Keeps ws n (withdraw_into L w ws n value len)
unfolding withdraw_into withdraw_in
withdraw_keeps L w ws n value len =
    either_keeps ws n (eqb (prefix_fault w value len 0) 0) _ _
    (either_keeps ws n (is_good w (L.room ws) (L.get ws) n) _ _
    (either_keeps ws n (is_held w (L.get ws) n (prefix_only value len)) _ _ (accepted_keeps ws n (n - 1) _) (leaves_keeps ws n not_held))
    (leaves_keeps ws n not_in_order))
    (leaves_keeps ws n (prefix_fault w value len 0))

pub refused_keeps : (L : Layout (List ℕ)) (w : ℕ) → RefusedKeeps L w
refused_keeps L w t (announcing q) e =
    let k = announce_keeps L w t.words t.count q e in
    ap₂ (λ (ws : List ℕ) (n : ℕ). record { words = ws; count = n }) k.0 k.1
refused_keeps L w t (withdrawing value len) e =
    let k = withdraw_keeps L w t.words t.count value len e in
    ap₂ (λ (ws : List ℕ) (n : ℕ). record { words = ws; count = n }) k.0 k.1
