-- The best route from rows on is the best of the trie that they hold. Assumes nothing.
use mathlib.Core.Path.{◌≡◌, refl, sym, ap, ◌∙◌, subst}
use mathlib.Core.Bool.{Bool, true, false, cond}
use mathlib.Core.List.{[], ◌∷◌, ◌++◌, append_assoc}
use Prim.Native.Nat.{ℕ, zero, suc, ◌+◌, ◌-◌}
use native.Mathlib.Omega.{arith}
use lib.Dec.{eqb, ltb}
use lib.ListN.{length, length-append}
use borrow.Author.Tests.{eq-eqb, ne_eqb}
use Rattle.bits.specs.Bits.{Bits}
use Rattle.trie.specs.Trie.{Trie, leaf, node, ahead}
use Rattle.trie.specs.Update.{Best, none, some, lift, first_of, or_own, below, best}
use Rattle.routes.specs.declared.Route.{Route}
use Rattle.table_rules.specs.Rows.{Mem, child, route_of}
use Rattle.table_rules.specs.Holds.{Names, Holds}
use Rattle.bits.specs.Prefix.{ahead_of}
use Rattle.table_rules.specs.Withdraw.{or_route, first_route, best_at, best_child, best_below}
use Rattle.table_rules.proofs.Paths.{at_priority, at_ahead}
use Rattle.table_rules.proofs.Holds.{row_at, too_deep}
use Rattle.table_rules.proofs.Announce.{RouteAt, at_of, route_row}

-- the route is the one found below the path, or none
abbrev pub Finds : ℕ → Bits → Best → Route → Type 0
Finds w path none q = q.port ≡ 0
Finds w path (some s p) q = RouteAt w path q s × (q.port ≡ p)

module _ (w : ℕ) (path : Bits) where
  port_some : (q : Route) (s : Bits) → RouteAt w path q s → eqb q.port 0 ≡ false
  port_some q s h = ne_eqb q.port 0 (λ e. omega (arith, h.valid.some))

  pub finds_lift : (b : Bool) (x : Best) (q : Route) → Finds w (path ++ (b ∷ [])) x q → Finds w path (lift b x) q
  finds_lift b none q h = h
  finds_lift b (some s p) q h = (record { valid = h.0.valid; is = h.0.is ∙ append_assoc path (b ∷ []) s }, h.1)

  pub finds_first : (x y : Best) (a b : Route) → Finds w path x a → Finds w path y b → Finds w path (first_of x y) (first_route a b)
  finds_first none none a b h k = rw (eq-eqb b.port 0 k) h
  finds_first none (some s p) a b h k = rw (port_some b s k.0, eq-eqb a.port 0 h) k
  finds_first (some s p) none a b h k = rw (eq-eqb b.port 0 k) h
  finds_first (some s p) (some u o) a b h k =
      rw (port_some b u k.0, port_some a s h.0) (go (ahead u s) refl)
    where
      go : (e : Bool) → ahead u s ≡ e
          → Finds w path (cond (ahead u s) (some u o) (some s p)) (cond (ahead_of b.value b.len a.value a.len) b a)
      go e f =
          let g : ahead_of b.value b.len a.value a.len ≡ e =
          sym (at_ahead w path b.value b.len a.value a.len u s (at_of w path b u k.0) (at_of w path a s h.0)) ∙ f in
          rw (f, g) (by e)
        where
          by : (e : Bool) → Finds w path (cond e (some u o) (some s p)) (cond e b a)
          by true = k
          by false = h

  pub finds_own : (x : Best) (a q : Route) → Finds w path x a → RouteAt w path q [] → Finds w path (or_own x q.port) (or_route a q)
  finds_own none a q h k = rw (eq-eqb a.port 0 h) (k, refl)
  finds_own (some s p) a q h k = rw (port_some a s h.0) h

module _ (w : ℕ) (M : Mem) where
  abbrev BestIs : Trie → Type 0
  BestIs leaf = Unit {0}
  BestIs (node s p c) =
      (k : ℕ) (path : Bits) (r : ℕ) → length path + k ≡ w → Holds w M path r (node s p c) → Finds w path (best (node s p c)) (best_at w M k r)

  child_is : (t : Trie) → BestIs t → (k : ℕ) (path : Bits) (c : ℕ) → length path + k ≡ w → Names c t → Holds w M path c t
      → Finds w path (best t) (best_child w M k c)
  child_is leaf ih k path c deep names h = rw (eq-eqb c 0 names)
  child_is (node s p d) ih k path c deep names h = rw (ne_eqb c 0 (λ e. omega arith)) (ih k path c deep h)

  -- the best of everything below a node
  below_with : (s : Bits) (p : ℕ) (c : Bool → Trie) → ((b : Bool) → BestIs (c b)) → (k : ℕ) (path : Bits) (r : ℕ)
      → length path + suc k ≡ w → Holds w M path r (node s p c) → Finds w path (below (λ b. best (c b))) (best_below w M k (M r))
  below_with s p c ih k path r deep h =
      finds_first w path (lift false (best (c false))) (lift true (best (c true))) (best_child w M k (M r).left) (best_child w M k (M r).right)
      (side false) (side true)
    where
      side : (b : Bool) → Finds w path (lift b (best (c b))) (best_child w M k (child (M r) b))
      side b =
          finds_lift w path b (best (c b)) (best_child w M k (child (M r) b))
          (child_is (c b) (ih b) k (path ++ (b ∷ [])) (child (M r) b) (omega (arith, length-append path (b ∷ []), deep)) (h.below b).0 (h.below b).1)

  -- with no bit left there is no child
  no_children : (path : Bits) (r : ℕ) (s : Bits) (p : ℕ) (c : Bool → Trie) (b : Bool) → length path + 0 ≡ w
      → Holds w M path r (node s p c) → best (c b) ≡ none
  no_children path r s p c b deep h = ap best (too_deep w M path (child (M r) b) b (c b) deep (h.below b).1)

  own : (path : Bits) (r : ℕ) (s : Bits) (p : ℕ) (c : Bool → Trie) → Holds w M path r (node s p c)
      → Finds w path (some s p) (route_of (M r))
  own path r s p c h = (route_row w M path r s p c h, h.port)

  -- an ordinary node: what is below goes first
  best_ordinary : (p : ℕ) (c : Bool → Trie) → ((b : Bool) → BestIs (c b)) → BestIs (node [] p c)
  unfolding best_at
  best_ordinary p c ih zero path r deep h =
      rw (no_children path r [] p c false deep h, no_children path r [] p c true deep h) (own path r [] p c h)
  best_ordinary p c ih (suc k) path r deep h =
      let z : w - suc k ≡ length path = omega arith in
      let o : ltb (w - suc k) (M r).len ≡ false =
      ap (λ (d : ℕ). ltb d (M r).len) z
      ∙ sym (at_priority w path (M r).value (M r).len [] (row_at w M path r [] p c h)) in
      rw o
      (subst (λ (j : ℕ). Finds w path (or_own (below (λ b. best (c b))) j) (or_route (best_below w M k (M r)) (route_of (M r)))) h.port
      (finds_own w path (below (λ b. best (c b))) (best_below w M k (M r)) (route_of (M r)) (below_with [] p c ih k path r deep h) (route_row w M path r [] p c h)))

  -- a priority node is the best of its own
  best_priority : (b : Bool) (s : Bits) (p : ℕ) (c : Bool → Trie) → BestIs (node (b ∷ s) p c)
  unfolding best_at
  best_priority b s p c zero path r deep h = own path r (b ∷ s) p c h
  best_priority b s p c (suc k) path r deep h =
      let z : w - suc k ≡ length path = omega arith in
      let o : ltb (w - suc k) (M r).len ≡ true =
      ap (λ (d : ℕ). ltb d (M r).len) z
      ∙ sym (at_priority w path (M r).value (M r).len (b ∷ s) (row_at w M path r (b ∷ s) p c h)) in
      rw o (own path r (b ∷ s) p c h)

  pub best_is : (t : Trie) → BestIs t
  best_is leaf = tt
  best_is (node [] p c) = best_ordinary p c (λ b. best_is (c b))
  best_is (node (b ∷ s) p c) = best_priority b s p c

  pub below_is : (s : Bits) (p : ℕ) (c : Bool → Trie) (k : ℕ) (path : Bits) (r : ℕ) → length path + suc k ≡ w
      → Holds w M path r (node s p c) → Finds w path (below (λ b. best (c b))) (best_below w M k (M r))
  below_is s p c = below_with s p c (λ b. best_is (c b))
