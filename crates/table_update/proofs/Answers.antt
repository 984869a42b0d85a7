-- Each answer of an update, by what the code knows where it returns. Assumes nothing.
use mathlib.Core.Path.{◌≡◌, sym, ap, ap₂, ◌∙◌}
use mathlib.Core.Bool.{Bool, true, false, false≢true}
use mathlib.Core.List.{List}
use Prim.Native.Nat.{ℕ, ◌+◌, ◌-◌, ◌<◌, ◌≤◌}
use native.Mathlib.Omega.{arith}
use borrow.Author.Tests.{eq-eqb, ne_eqb, lt-ltb, le-ltb}
use Rattle.promise.specs.Over.{outcome}
use Rattle.refusals.specs.Refusals.{no_room, not_held, not_in_order, accepted, keeping_at}
use Rattle.routes.specs.Check.{prefix_fault, route_fault}
use Rattle.refusals.specs.declared.Answer.{Answer}
use Rattle.routes.specs.declared.Route.{Route}
use Rattle.table_rules.specs.Rows.{Layout}
use Rattle.table_lookup.proofs.Checked.{Wrong}
use Rattle.table_rules.specs.Check.{is_good}
use Rattle.table_rules.specs.Announce.{is_held}
use Rattle.table_rules.specs.Withdraw.{withdrawn}
use Rattle.table_update.specs.Calls.{keeping, leaves, announced_words, announce_in, announce_into, prefix_only, withdraw_in, withdraw_into}

-- a result and the memory with it
both_are : (r r' : Answer) (ws ws' : List ℕ) → r ≡ r' → ws ≡ ws' → outcome r ws ≡ outcome r' ws'
both_are r r' ws ws' e f = ap₂ (λ (a : Answer) (v : List ℕ). outcome a v) e f

module _ (L : Layout (List ℕ)) (w : ℕ) (ws : List ℕ) (n : ℕ) (q : Route) (a : Bool) (found : a ≡ is_held w (L.get ws) n q) where
  -- a held prefix is in a table that has rows
  pub held_some : a ≡ true → 0 < n
  held_some e =
      let ne : (n ≡ 0 → ⊥) = (λ z. false≢true (sym (rw (eq-eqb n 0 z)) ∙ sym found ∙ e)) in
      omega arith

  module _ (ws' : List ℕ) where
    pub announce_held : a ≡ true → ws' ≡ announced_words L w ws n q → outcome (accepted n) ws' ≡ announce_in L w ws n q
    unfolding announce_in
    announce_held e g = ap (outcome (accepted n)) g ∙ sym (rw (sym found ∙ e))

    pub announce_new : a ≡ false → (c : ℕ) → c ≡ L.room ws → n < c → ws' ≡ announced_words L w ws n q
        → outcome (accepted (n + 1)) ws' ≡ announce_in L w ws n q
    unfolding announce_in
    announce_new e c k h g =
        ap (outcome (accepted (n + 1))) g ∙ sym (rw (sym found ∙ e, lt-ltb n (L.room ws) (omega arith)))

    pub withdraw_held : a ≡ true → ws' ≡ withdrawn L w ws n q → outcome (accepted (n - 1)) ws' ≡ withdraw_in L w ws n q
    unfolding withdraw_in
    withdraw_held e g = ap (outcome (accepted (n - 1))) g ∙ sym (rw (sym found ∙ e))

  pub announce_full : a ≡ false → (c : ℕ) → c ≡ L.room ws → c ≤ n → outcome (keeping no_room n) ws ≡ announce_in L w ws n q
  unfolding announce_in
  announce_full e c k h = sym (rw (sym found ∙ e, le-ltb n (L.room ws) (omega arith)))

  pub withdraw_missing : a ≡ false → outcome (keeping not_held n) ws ≡ withdraw_in L w ws n q
  unfolding withdraw_in
  withdraw_missing e = sym (rw (sym found ∙ e))

-- a refusal of the check, as an update answers it
module _ (L : Layout (List ℕ)) (w : ℕ) (ws : List ℕ) (n number place : ℕ) (h : Wrong w (L.room ws) (L.get ws) n number place) where
  wrong_leaves : outcome (keeping_at number place n) ws ≡ leaves not_in_order n ws
  wrong_leaves = ap₂ (λ (number place : ℕ). outcome (keeping_at number place n) ws) h.eleven h.at_zero

-- the shell of an announcement
module _ (L : Layout (List ℕ)) (w : ℕ) (ws : List ℕ) (n : ℕ) (q : Route) where
  pub announce_fault : (fault : ℕ) → fault ≡ route_fault w q 0 → (fault ≡ 0 → ⊥)
      → outcome (keeping fault n) ws ≡ announce_into L w ws n q
  unfolding announce_into
  announce_fault fault is ne =
      ap (λ (m : ℕ). outcome (keeping m n) ws) is ∙ sym (rw (ne_eqb (route_fault w q 0) 0 (λ e. ne (is ∙ e))))

  module _ (fine : 0 ≡ route_fault w q 0) where
    pub announce_good : is_good w (L.room ws) (L.get ws) n ≡ true → announce_in L w ws n q ≡ announce_into L w ws n q
    unfolding announce_into
    announce_good e = sym (rw (eq-eqb (route_fault w q 0) 0 (sym fine), e))

    pub announce_wrong : (number place : ℕ) → Wrong w (L.room ws) (L.get ws) n number place
        → outcome (keeping_at number place n) ws ≡ announce_into L w ws n q
    unfolding announce_into
    announce_wrong number place h =
        wrong_leaves L w ws n number place h ∙ sym (rw (eq-eqb (route_fault w q 0) 0 (sym fine), h.wrong))

-- the shell of a withdrawal
module _ (L : Layout (List ℕ)) (w : ℕ) (ws : List ℕ) (n value len : ℕ) where
  pub withdraw_fault : (fault : ℕ) → fault ≡ prefix_fault w value len 0 → (fault ≡ 0 → ⊥)
      → outcome (keeping fault n) ws ≡ withdraw_into L w ws n value len
  unfolding withdraw_into
  withdraw_fault fault is ne =
      ap (λ (m : ℕ). outcome (keeping m n) ws) is ∙ sym (rw (ne_eqb (prefix_fault w value len 0) 0 (λ e. ne (is ∙ e))))

  module _ (fine : 0 ≡ prefix_fault w value len 0) where
    pub withdraw_good : is_good w (L.room ws) (L.get ws) n ≡ true → withdraw_in L w ws n (prefix_only value len) ≡ withdraw_into L w ws n value len
    unfolding withdraw_into
    withdraw_good e = sym (rw (eq-eqb (prefix_fault w value len 0) 0 (sym fine), e))

    pub withdraw_wrong : (number place : ℕ) → Wrong w (L.room ws) (L.get ws) n number place
        → outcome (keeping_at number place n) ws ≡ withdraw_into L w ws n value len
    unfolding withdraw_into
    withdraw_wrong number place h =
        wrong_leaves L w ws n number place h ∙ sym (rw (eq-eqb (prefix_fault w value len 0) 0 (sym fine), h.wrong))
