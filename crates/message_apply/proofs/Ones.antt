-- Each answer of a step with one prefix, by what the code knows where it returns. Assumes nothing.
use mathlib.Core.Path.{◌≡◌, sym, ap, ap₂, ◌∙◌}
use mathlib.Core.Bool.{Bool, true, false, cond}
use mathlib.Core.List.{List}
use Prim.Native.Nat.{ℕ, ◌+◌, ◌-◌, ◌≤◌}
use native.Mathlib.Omega.{arith}
use Rattle.prefix.specs.declared.Prefix.{Prefix}
use Rattle.routes.specs.declared.Route.{Route}
use Rattle.table_rules.specs.Rows.{Layout}
use Rattle.table_rules.specs.Announce.{announced, is_held}
use Rattle.table_rules.specs.Withdraw.{withdrawn}
use Rattle.table_update.specs.History.{Table}
use Rattle.message_calls.specs.Named.{route_to}
use Rattle.message_calls.specs.Steps.{table_holds, Noted, note_one, drop_one, add_one}
use Rattle.message_apply.specs.Needs.{table_as, noted_as}
use Rattle.message_apply.specs.declared.Tally.{Tally}

module _ (L : Layout (List ℕ)) (w : ℕ) where
  -- a question asked by the code
  asked_holds : (words : List ℕ) (n : ℕ) (p : Prefix) (q : Route) (a : Bool) → q ≡ route_to 0 p → a ≡ is_held w (L.get words) n q
      → table_holds L w (table_as words n) p ≡ a
  asked_holds words n p q a q-is found = ap (is_held w (L.get words) n) (sym q-is) ∙ sym found

  module _ (held : Prefix → Bool) (port : ℕ) (words : List ℕ) (t : Tally) (p : Prefix) (q : Route) (q-is : q ≡ route_to 0 p) (a : Bool) (found : a ≡ is_held w (L.get words) t.met q) where
    pub note_again : a ≡ true → noted_as words t ≡ note_one L w held port (noted_as words t) p
    note_again e = sym (rw (asked_holds words t.met p q a q-is found ∙ e))

    pub note_new : a ≡ false → (r : Route) → r ≡ route_to port p → (words' : List ℕ) → words' ≡ announced L w words t.met r → (b : Bool) → b ≡ held p
        → (hits : ℕ) → hits ≡ t.hits + cond b 1 0 → noted_as words' (record { met = t.met + 1; hits = hits }) ≡ note_one L w held port (noted_as words t) p
    note_new e r r-is words' stored b b-is hits hits-are =
        ap₂ (λ (ws : List ℕ) (h : ℕ). record { met = table_as ws (t.met + 1); hits = h })
        (stored ∙ ap (announced L w words t.met) r-is) (hits-are ∙ ap (λ (c : Bool). t.hits + cond c 1 0) b-is)
        ∙ sym (rw (asked_holds words t.met p q a q-is found ∙ e))

  module _ (skip : Prefix → Bool) (words : List ℕ) (n : ℕ) (p : Prefix) (s : Bool) (s-is : s ≡ skip p) where
    pub drop_skipped : s ≡ true → table_as words n ≡ drop_one L w skip (table_as words n) p
    drop_skipped e = sym (rw (sym s-is ∙ e))

    module _ (keeps : s ≡ false) (q : Route) (q-is : q ≡ route_to 0 p) (a : Bool) (found : a ≡ is_held w (L.get words) n q) where
      pub drop_held : a ≡ true → (words' : List ℕ) → words' ≡ withdrawn L w words n q → table_as words' (n - 1) ≡ drop_one L w skip (table_as words n) p
      drop_held e words' stored =
          ap (λ (ws : List ℕ). table_as ws (n - 1)) (stored ∙ ap (withdrawn L w words n) q-is)
          ∙ sym (rw (sym s-is ∙ keeps, asked_holds words n p q a q-is found ∙ e))

      pub drop_missing : a ≡ false → table_as words n ≡ drop_one L w skip (table_as words n) p
      drop_missing e = sym (rw (sym s-is ∙ keeps, asked_holds words n p q a q-is found ∙ e))

  module _ (port : ℕ) (words : List ℕ) (n : ℕ) (p : Prefix) (q : Route) (q-is : q ≡ route_to port p) (a : Bool) (found : a ≡ is_held w (L.get words) n q) (words' : List ℕ)
      (stored : words' ≡ announced L w words n q) where
    pub added_one : (n' : ℕ) → n' ≡ cond a n (n + 1) → table_as words' n' ≡ add_one L w port (table_as words n) p
    added_one n' n_is =
        ap₂ (λ (ws : List ℕ) (k : ℕ). table_as ws k) (stored ∙ ap (announced L w words n) q-is)
        (n_is ∙ ap (λ (b : Bool). cond b n (n + 1)) (found ∙ ap (is_held w (L.get words) n) q-is))

-- how far the numbers go up

module _ (L : Layout (List ℕ)) (w : ℕ) where
  pub tally_le : (held : Prefix → Bool) (port : ℕ) (words words' : List ℕ) (t t' : Tally) (p : Prefix)
      → noted_as words' t' ≡ note_one L w held port (noted_as words t) p → (t'.met ≤ t.met + 1) × (t'.hits ≤ t.hits + 1)
  tally_le held port words words' t t' p e =
      let m = ap (λ (s : Noted). s.met.count) e in
      let h = ap (λ (s : Noted). s.hits) e in
      let b = by (table_holds L w (table_as words t.met) p) (held p) in
      (omega (arith, m, b.0), omega (arith, h, b.1))
    where
      new : Bool → Noted
      new c = record { met = table_as (announced L w words t.met (route_to port p)) (t.met + 1); hits = t.hits + cond c 1 0 }

      by : (b c : Bool) → ((cond b (noted_as words t) (new c)).met.count ≤ t.met + 1) × ((cond b (noted_as words t) (new c)).hits ≤ t.hits + 1)
      by true c = (omega arith, omega arith)
      by false true = (omega arith, omega arith)
      by false false = (omega arith, omega arith)

  pub count_le : (port : ℕ) (words words' : List ℕ) (n n' : ℕ) (p : Prefix) → table_as words' n' ≡ add_one L w port (table_as words n) p → n' ≤ n + 1
  count_le port words words' n n' p e =
      omega (arith, ap (λ (s : Table). s.count) e, by (is_held w (L.get words) n (route_to port p)))
    where
      by : (b : Bool) → cond b n (n + 1) ≤ n + 1
      by true = omega arith
      by false = omega arith
