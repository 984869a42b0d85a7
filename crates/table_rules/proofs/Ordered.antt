-- A trie by itself: it obeys the rule for the set that it holds exactly if every priority node is ahead of the best below it.
-- Assumes nothing.
use mathlib.Core.Path.{◌≡◌, refl, sym, ap, ◌∙◌}
use mathlib.Core.Logic.{◌⊎◌, inl, inr, ⊎_elim}
use mathlib.Core.Bool.{Bool, true, false, ◌&&◌, true≢false}
use mathlib.Core.List.{[], ◌∷◌}
use Prim.Native.Nat.{ℕ, ◌<◌}
use native.Mathlib.Omega.{arith}
use lib.Dec.{ltb}
use borrow.Author.Tests.{lt-ltb, ltb-true}
use Rattle.bits.specs.Bits.{Bits, same}
use Rattle.bits.proofs.Bits.{same_refl, same_eq}
use Rattle.lists.proofs.Tests.{way, both}
use Rattle.trie.specs.Routes.{Routes, upd, side}
use Rattle.trie.specs.Trie.{Trie, leaf, node, IsTrie, Top, ahead, outranks}
use Rattle.trie.specs.Update.{Best, none, some, below, best}
use Rattle.trie.proofs.Routes.{upd_same, upd_other, upd_again, upd_none, none_or_some}
use Rattle.trie.proofs.Order.{ahead_up, ahead_same, outranks_irrefl, outranks_behind}
use Rattle.trie.proofs.Insert.{carry}
use Rattle.trie.proofs.Remove.{own_out, IsBest, below_is, best_is}
use Rattle.table_rules.specs.SetOf.{joined, set_of}

-- the node's bits go before the best below it; the place's own prefix does in any case
abbrev pub leads : Bits → Best → Bool
leads [] x = true
leads (b ∷ s) none = true
leads (b ∷ s) (some q o) = ahead (b ∷ s) q

-- the best below a node
abbrev pub best_below : (Bool → Trie) → Best
best_below c = below (λ b. best (c b))

-- every node has a port and goes before what is below it
abbrev pub ordered : Trie → Bool
ordered leaf = true
ordered (node s p c) = ltb 0 p && leads s (best_below c) && (ordered (c false) && ordered (c true))

-- what `ordered` says of a node
pub record OrderedNode (s : Bits) (p : ℕ) (c : Bool → Trie) : Type 0 where
  pub some : 0 < p
  pub first : leads s (best_below c) ≡ true
  pub sides : (b : Bool) → ordered (c b) ≡ true

pub ordered_node : (s : Bits) (p : ℕ) (c : Bool → Trie) → ordered (node s p c) ≡ true → OrderedNode s p c
ordered_node s p c e = record { some = ltb-true 0 p g.0; first = g.1; sides = sides }
  where
    f : ((ltb 0 p && leads s (best_below c)) ≡ true) × ((ordered (c false) && ordered (c true)) ≡ true)
    f = both (ltb 0 p && leads s (best_below c)) (ordered (c false) && ordered (c true)) e

    g : (ltb 0 p ≡ true) × (leads s (best_below c) ≡ true)
    g = both (ltb 0 p) (leads s (best_below c)) f.0

    sides : (b : Bool) → ordered (c b) ≡ true
    sides false = (both (ordered (c false)) (ordered (c true)) f.1).0
    sides true = (both (ordered (c false)) (ordered (c true)) f.1).1

-- what lies below a place: nothing of it is s, nor goes before s
module _ (J : Routes) (nil : J [] ≡ 0) where
  leads_out : (s : Bits) (x : Best) → IsBest x J → leads s x ≡ true → J s ≡ 0
  leads_out [] x h e = nil
  leads_out (b ∷ s) none h e = h (b ∷ s)
  leads_out (b ∷ s) (some q o) h e =
      ⊎_elim (λ z. z) (λ k. absurd (true≢false (sym e ∙ h.first (b ∷ s) k))) (none_or_some (J (b ∷ s)))

  leads_top : (s : Bits) (x : Best) → IsBest x J → leads s x ≡ true → (q : Bits) → 0 < J q → outranks q s ≡ false
  leads_top [] x h e q k = refl
  leads_top (b ∷ s) none h e q k = absurd (omega (arith, h q))
  leads_top (b ∷ s) (some t o) h e q k =
      outranks_behind q (b ∷ s) (λ z. omega (arith, ap J z)) (ahead_up q (b ∷ s) t (h.first q k) e)

abbrev RuleOf : Trie → Type 0
RuleOf t = ordered t ≡ true → IsTrie t (set_of t)

rule_node : (s : Bits) (p : ℕ) (c : Bool → Trie) → ((b : Bool) → RuleOf (c b)) → RuleOf (node s p c)
rule_node s p c ih e = record {
  some = o.some;
  own = upd_same J s p;
  top = top;
  rest = λ b. carry (c b) (ap (side b) back) (sides b);
}
  where
    o : OrderedNode s p c
    o = ordered_node s p c e

    J : Routes
    J = joined (λ b. set_of (c b))

    sides : (b : Bool) → IsTrie (c b) (set_of (c b))
    sides b = ih b (o.sides b)

    is : IsBest (best_below c) J
    is = below_is J refl (λ b. best (c b)) (λ b. best_is (c b) (set_of (c b)) (sides b))

    back : J ≡ upd (upd J s p) s 0
    back = sym (upd_again J s p 0 ∙ upd_none J s 0 (leads_out J refl s (best_below c) is o.first))

    top : Top (upd J s p) s
    top q k = go (way (same q s))
      where
        go : (same q s ≡ true) ⊎ (same q s ≡ false) → outranks q s ≡ false
        go (inl t) = rw (same_eq q s t) (outranks_irrefl s)
        go (inr t) = leads_top J refl s (best_below c) is o.first q (rw (upd_other J s q p t) at k)

pub ordered→rule : (t : Trie) → RuleOf t
ordered→rule leaf e = λ q. refl
ordered→rule (node s p c) e = rule_node s p c (λ b. ordered→rule (c b)) e

-- what is in S and is not the holder does not go before it
rule_leads : (S : Routes) (s : Bits) (x : Best) → Top S s → IsBest x (upd S s 0) → leads s x ≡ true
rule_leads S [] x top h = refl
rule_leads S (b ∷ s) none top h = refl
rule_leads S (b ∷ s) (some q o) top h = ⊎_elim (λ z. z) (λ z. absurd (by q live z (way (same q (b ∷ s))))) (way (ahead (b ∷ s) q))
  where
    S₀ : Routes
    S₀ = upd S (b ∷ s) 0

    live : 0 < S₀ q
    live = omega (arith, h.pos, h.own)

    by : (x : Bits) → 0 < S₀ x → ahead (b ∷ s) x ≡ false → (same x (b ∷ s) ≡ true) ⊎ (same x (b ∷ s) ≡ false) → ⊥
    by x k z (inl e) = omega (arith, ap S₀ (same_eq x (b ∷ s) e), upd_same S (b ∷ s) 0)
    by [] k z (inr e) = omega (arith, own_out S (b ∷ s) top)
    by (d ∷ x) k z (inr e) =
        let f : ahead (d ∷ x) (b ∷ s) ≡ false = top (d ∷ x) (rw (upd_other S (b ∷ s) (d ∷ x) 0 e) at k) in
        true≢false
        (sym (same_refl (b ∷ s)) ∙ ap (λ (y : Bits). same y (b ∷ s)) (ahead_same (b ∷ s) (d ∷ x) z f) ∙ e)

pub rule→ordered : (t : Trie) (S : Routes) → IsTrie t S → ordered t ≡ true
rule→ordered leaf S h = refl
rule→ordered (node s p c) S h =
    let is : IsBest (best_below c) (upd S s 0) =
    below_is (upd S s 0) (own_out S s h.top) (λ b. best (c b)) (λ b. best_is (c b) (side b (upd S s 0)) (h.rest b)) in
    rw (
      lt-ltb 0 p h.some,
      rule_leads S s (best_below c) h.top is,
      rule→ordered (c false) (side false (upd S s 0)) (h.rest false),
      rule→ordered (c true) (side true (upd S s 0)) (h.rest true),
    )
