-- What an accepted announcement or withdrawal says of its arguments, and what it leaves. Assumes nothing.
use mathlib.Core.Path.{◌≡◌, refl, sym, ap, ◌∙◌}
use mathlib.Core.Bool.{Bool, cond}
use mathlib.Core.List.{List}
use Prim.Native.Nat.{ℕ, ◌+◌, ◌-◌, ◌^◌, ◌<◌}
use native.Mathlib.Omega.{arith}
use lib.Dec.{eqb, ltb}
use borrow.Author.Tests.{eq-eqb, ne_eqb, eqb-true, eqb-false, ltb-true, ltb-false}
use Rattle.promise.specs.Over.{Outcome, outcome}
use Rattle.bits.specs.Bits.{Bits, prefix_bits}
use Rattle.bits.specs.Prefix.{Valid}
use Rattle.trie.specs.Routes.{Routes}
use Rattle.refusals.specs.Refusals.{not_in_order, accepted}
use Rattle.refusals.specs.declared.Answer.{Answer}
use Rattle.routes.specs.Routes.{ValidRoute}
use Rattle.routes.specs.Check.{prefix_fault, route_fault}
use Rattle.routes.specs.declared.Route.{Route}
use Rattle.table_rules.specs.Rows.{Layout}
use Rattle.table_rules.specs.Holds.{Placed}
use Rattle.table_rules.specs.Check.{is_good}
use Rattle.table_rules.specs.Announce.{is_held, announced}
use Rattle.table_rules.specs.Withdraw.{withdrawn}
use Rattle.table_rules.proofs.Closed.{by_cond}
use Rattle.table_rules.proofs.Table.{held_is}
use Rattle.table_update.specs.Calls.{leaves, announce_in, announce_into, prefix_only, withdraw_in, withdraw_into}
use Rattle.table_update.proofs.Arguments.{prefix_valid, route_valid}

module _ (L : Layout (List ℕ)) (w : ℕ) (ws : List ℕ) (n : ℕ) (S : Routes) (placed : Placed w (L.get ws) n S) where
  module _ (q : Route) (fits : q.value < 2 ^ w) where
    abbrev y : Bits
    y = prefix_bits w q.value q.len

    -- a valid route that is held or has a row, with the n and the rows that are left
    pub record Taken (o : Outcome Answer) : Type 0 where
      pub valid : ValidRoute w q
      pub room : S y ≡ 0 → n < L.room ws
      pub is : o ≡ outcome (accepted (cond (eqb (S y) 0) (n + 1) n)) (announced L w ws n q)

    abbrev IfTaken : Outcome Answer → Type 0
    IfTaken o = o.answer.number ≡ 0 → Taken o

    announce_in_taken : ValidRoute w q → IfTaken (announce_in L w ws n q)
    unfolding announce_in
    announce_in_taken ok =
        by_cond IfTaken (is_held w (L.get ws) n q) _ _
        (λ e z.
        let some : 0 < S y = ltb-true 0 (S y) (sym held ∙ e) in
        let ne : (S y ≡ 0 → ⊥) = (λ none. omega arith) in
        record { valid = ok; room = λ none. absurd (ne none); is = becomes n (ap (λ (c : Bool). cond c (n + 1) n) (ne_eqb (S y) 0 ne)) })
        (λ e.
        let none : S y ≡ 0 = omega (arith, ltb-false 0 (S y) (sym held ∙ e)) in
        by_cond IfTaken (ltb n (L.room ws)) _ _
        (λ f z. record {
          valid = ok;
          room = λ _. ltb-true n (L.room ws) f;
          is = becomes (n + 1) (ap (λ (c : Bool). cond c (n + 1) n) (eq-eqb (S y) 0 none));
        })
        (λ f z. absurd (omega (arith, z))))
      where
        held : is_held w (L.get ws) n q ≡ ltb 0 (S y)
        held = held_is w (L.get ws) n S q placed ok.prefix

        becomes : (n' : ℕ) → cond (eqb (S y) 0) (n + 1) n ≡ n'
            → outcome (accepted n') (announced L w ws n q) ≡ outcome (accepted (cond (eqb (S y) 0) (n + 1) n)) (announced L w ws n q)
        becomes n' e = ap (λ (k : ℕ). outcome (accepted k) (announced L w ws n q)) (sym e)

    pub announce_taken : IfTaken (announce_into L w ws n q)
    unfolding announce_into
    announce_taken =
        by_cond IfTaken (eqb (route_fault w q 0) 0) _ _
        (λ e.
        by_cond IfTaken (is_good w (L.room ws) (L.get ws) n) (announce_in L w ws n q) (leaves not_in_order n ws)
        (λ f. announce_in_taken (route_valid w q fits (eqb-true (route_fault w q 0) 0 e))) (λ f z. absurd (omega (arith, z))))
        (λ e z. absurd (eqb-false (route_fault w q 0) 0 e z))

  module _ (value len : ℕ) (fits : value < 2 ^ w) where
    -- a valid prefix that is held, with the n and the rows that are left
    pub record Freed (o : Outcome Answer) : Type 0 where
      pub valid : Valid w value len
      pub live : 0 < S (prefix_bits w value len)
      pub is : o ≡ outcome (accepted (n - 1)) (withdrawn L w ws n (prefix_only value len))

    abbrev IfFreed : Outcome Answer → Type 0
    IfFreed o = o.answer.number ≡ 0 → Freed o

    withdraw_in_freed : Valid w value len → IfFreed (withdraw_in L w ws n (prefix_only value len))
    unfolding withdraw_in
    withdraw_in_freed ok =
        by_cond IfFreed (is_held w (L.get ws) n (prefix_only value len)) _ _
        (λ e z. record {
          valid = ok;
          live = ltb-true 0 (S (prefix_bits w value len)) (sym (held_is w (L.get ws) n S (prefix_only value len) placed ok) ∙ e);
          is = refl;
        })
        (λ e z. absurd (omega (arith, z)))

    pub withdraw_freed : IfFreed (withdraw_into L w ws n value len)
    unfolding withdraw_into
    withdraw_freed =
        by_cond IfFreed (eqb (prefix_fault w value len 0) 0) _ _
        (λ e.
        by_cond IfFreed (is_good w (L.room ws) (L.get ws) n) (withdraw_in L w ws n (prefix_only value len)) (leaves not_in_order n ws)
        (λ f. withdraw_in_freed (prefix_valid w value len fits (eqb-true (prefix_fault w value len 0) 0 e))) (λ f z. absurd (omega (arith, z))))
        (λ e z. absurd (eqb-false (prefix_fault w value len 0) 0 e z))
