-- Removal keeps the rule of the trie: the place is refilled by the best of everything below it. Assumes nothing.
use mathlib.Core.Path.{◌≡◌, refl, sym, ap, ◌∙◌}
use mathlib.Core.Bool.{Bool, true, false, cond, true≢false}
use mathlib.Core.List.{[], ◌∷◌}
use Prim.Native.Nat.{ℕ, ◌<◌}
use native.Mathlib.Omega.{arith}
use Rattle.bits.specs.Bits.{Bits, same}
use Rattle.bits.proofs.Bits.{same_refl, same_eq}
use Rattle.trie.specs.Routes.{Routes, upd, side}
use Rattle.trie.specs.Trie.{Trie, leaf, node, IsTrie, Top, ahead, outranks}
use Rattle.trie.specs.Update.{down, Best, none, some, lift, first_of, or_own, below, best, refill, remove}
use Rattle.trie.specs.Theorems.{RemoveIs}
use Rattle.trie.proofs.Routes.{same_sym, upd_other, upd_swap}
use Rattle.trie.proofs.Order.{ahead_irrefl, ahead_up, ahead_trans_no, ahead_cons, nil_behind, outranks_behind, under_not_nil}
use Rattle.trie.proofs.Lookup.{top_none}
use Rattle.trie.proofs.Insert.{down_is, top_upd}

-- s is a route of S, and none of S is ahead of it
pub record Leads (S : Routes) (s : Bits) (p : ℕ) : Type 0 where
  pub pos : 0 < p
  pub own : S s ≡ p
  pub first : (q : Bits) → 0 < S q → ahead q s ≡ false

abbrev pub IsBest : Best → Routes → Type 0
IsBest none S = (q : Bits) → S q ≡ 0
IsBest (some s p) S = Leads S s p

-- the best of one side leads that side in the node's own bits
pub record LeadsOn (b : Bool) (S : Routes) (s : Bits) (p : ℕ) : Type 0 where
  pub pos : 0 < p
  pub own : S (b ∷ s) ≡ p
  pub first : (q : Bits) → 0 < S (b ∷ q) → ahead (b ∷ q) (b ∷ s) ≡ false

leads_on : (b : Bool) (S : Routes) (s : Bits) (p : ℕ) → Leads (side b S) s p → LeadsOn b S s p
leads_on b S s p h = record { pos = h.pos; own = h.own; first = λ q k. ahead_cons b q s (h.first q k) }

module _ (S : Routes) (out : S [] ≡ 0) where
  -- with nothing on the other side, the leader of a side leads
  leads_alone : (b : Bool) (s : Bits) (p : ℕ) → ((c : Bool) → (c ≡ b → ⊥) → (q : Bits) → S (c ∷ q) ≡ 0)
      → LeadsOn b S s p → Leads S (b ∷ s) p
  leads_alone b s p empty h = record { pos = h.pos; own = h.own; first = first b empty h.first }
    where
      first : (b : Bool) → ((c : Bool) → (c ≡ b → ⊥) → (q : Bits) → S (c ∷ q) ≡ 0)
          → ((q : Bits) → 0 < S (b ∷ q) → ahead (b ∷ q) (b ∷ s) ≡ false)
          → (q : Bits) → 0 < S q → ahead q (b ∷ s) ≡ false
      first b empty f [] k = absurd (omega arith)
      first false empty f (false ∷ q) k = f q k
      first false empty f (true ∷ q) k = absurd (omega (arith, empty true true≢false q))
      first true empty f (true ∷ q) k = f q k
      first true empty f (false ∷ q) k = absurd (omega (arith, empty false (λ e. true≢false (sym e)) q))

  -- of the leaders of both sides, the one ahead leads
  leads_first : (s t : Bits) (p o : ℕ) → LeadsOn false S s p → LeadsOn true S t o
      → IsBest (first_of (some (false ∷ s) p) (some (true ∷ t) o)) S
  leads_first s t p o hx hy = go (ahead (true ∷ t) (false ∷ s)) refl
    where
      go : (b : Bool) → ahead (true ∷ t) (false ∷ s) ≡ b → IsBest (cond b (some (true ∷ t) o) (some (false ∷ s) p)) S
      go true e = record { pos = hy.pos; own = hy.own; first = first }
        where
          first : (q : Bits) → 0 < S q → ahead q (true ∷ t) ≡ false
          first [] k = absurd (omega arith)
          first (false ∷ q) k = ahead_up (false ∷ q) (true ∷ t) (false ∷ s) (hx.first q k) e
          first (true ∷ q) k = hy.first q k
      go false e = record { pos = hx.pos; own = hx.own; first = first }
        where
          first : (q : Bits) → 0 < S q → ahead q (false ∷ s) ≡ false
          first [] k = absurd (omega arith)
          first (false ∷ q) k = hx.first q k
          first (true ∷ q) k = ahead_trans_no (true ∷ q) (true ∷ t) (false ∷ s) (hy.first q k) e

  best_of : (x y : Best) → IsBest x (side false S) → IsBest y (side true S) → IsBest (first_of (lift false x) (lift true y)) S
  best_of none none hx hy = all
    where
      all : (q : Bits) → S q ≡ 0
      all [] = out
      all (false ∷ q) = hx q
      all (true ∷ q) = hy q
  best_of none (some t o) hx hy = leads_alone true t o empty (leads_on true S t o hy)
    where
      empty : (c : Bool) → (c ≡ true → ⊥) → (q : Bits) → S (c ∷ q) ≡ 0
      empty true ne q = absurd (ne refl)
      empty false ne q = hx q
  best_of (some s p) none hx hy = leads_alone false s p empty (leads_on false S s p hx)
    where
      empty : (c : Bool) → (c ≡ false → ⊥) → (q : Bits) → S (c ∷ q) ≡ 0
      empty true ne q = hy q
      empty false ne q = absurd (ne refl)
  best_of (some s p) (some t o) hx hy = leads_first s t p o (leads_on false S s p hx) (leads_on true S t o hy)

  -- the best of both children is the best of all that is below a place
  pub below_is : (x : Bool → Best) → ((b : Bool) → IsBest (x b) (side b S)) → IsBest (below x) S
  below_is x h = best_of (x false) (x true) (h false) (h true)

-- at an ordinary node, whatever is below goes before the node's own
own_is : (x : Best) (S : Routes) (p : ℕ) → 0 < p → S [] ≡ p → IsBest x (upd S [] 0) → IsBest (or_own x p) S
own_is none S p pos e h = record { pos = pos; own = e; first = first }
  where
    first : (q : Bits) → 0 < S q → ahead q [] ≡ false
    first [] k = ahead_irrefl []
    first (b ∷ q) k = absurd (omega (arith, h (b ∷ q)))
own_is (some [] o) S p pos e h = absurd (omega (arith, h.pos, h.own))
own_is (some (b ∷ s) o) S p pos e h = record { pos = h.pos; own = h.own; first = first }
  where
    first : (q : Bits) → 0 < S q → ahead q (b ∷ s) ≡ false
    first [] k = nil_behind b s
    first (c ∷ q) k = h.first (c ∷ q) k

pub best_is : (t : Trie) (S : Routes) → IsTrie t S → IsBest (best t) S
best_is leaf S h = h
best_is (node [] p c) S h =
    own_is (below (λ b. best (c b))) S p h.some h.own
    (below_is (upd S [] 0) refl (λ b. best (c b)) (λ b. best_is (c b) (side b S) (h.rest b)))
best_is (node (b ∷ s) p c) S h = record { pos = h.some; own = h.own; first = first }
  where
    first : (q : Bits) → 0 < S q → ahead q (b ∷ s) ≡ false
    first [] k = nil_behind b s
    first (x ∷ q) k = h.top (x ∷ q) k

-- once the holder is out, the place's own prefix is not in S
pub own_out : (S : Routes) (s : Bits) → Top S s → upd S s 0 [] ≡ 0
own_out S [] h = refl
own_out S (b ∷ s) h = top_none S (b ∷ s) h [] refl

abbrev Kept : Trie → Type 0
Kept t = (S : Routes) (q : Bits) → 0 < S q → IsTrie t S → IsTrie (remove q t) (upd S q 0)

-- a place without a holder is filled by the best from below
refill_is : (x : Best) (c : Bool → Trie) (S : Routes) → ((b : Bool) → Kept (c b)) → S [] ≡ 0
    → ((b : Bool) → IsTrie (c b) (side b S)) → IsBest x S → IsTrie (refill x c (λ b y. remove y (c b))) S
refill_is none c S ih e hc h = h
refill_is (some s p) c S ih e hc h = record {
  some = h.pos;
  own = h.own;
  top = λ q k. outranks_behind q s (λ g. omega (arith, ap S g)) (h.first q k);
  rest = λ b.
      down_is b s (c b) (λ y. remove y (c b)) S 0 refl (λ g. omega (arith, ap S g)) (hc b)
      (λ y g. ih b (side b S) y (rw g at live) (hc b));
}
  where
    live : 0 < S s
    live = omega (arith, h.pos, h.own)

module _ (s : Bits) (o : ℕ) (c : Bool → Trie) (ih : (b : Bool) → Kept (c b)) (S : Routes) (q : Bits) (live : 0 < S q)
    (h : IsTrie (node s o c) S) where
  abbrev S₀ : Routes
  S₀ = upd S s 0

  -- the holder itself is taken out
  remove_same : same q s ≡ true → IsTrie (refill (below (λ b. best (c b))) c (λ b x. remove x (c b))) (upd S q 0)
  remove_same e =
      rw (same_eq q s e)
      (refill_is (below (λ b. best (c b))) c S₀ ih (own_out S s h.top) h.rest
      (below_is S₀ (own_out S s h.top) (λ b. best (c b)) (λ b. best_is (c b) (side b S₀) (h.rest b))))

  -- another one is taken out further down
  remove_under : same q s ≡ false → IsTrie (node s o (λ b. down b q (c b) (λ x. remove x (c b)))) (upd S q 0)
  remove_under e =
      let f : outranks q s ≡ false = h.top q live in
      let ne : (q ≡ [] → ⊥) = under_not_nil q s (λ g. true≢false (sym (rw g (same_refl s)) ∙ e)) f in
      let k : 0 < S₀ q = rw (upd_other S s q 0 e) live in
      record {
        some = h.some;
        own = upd_other S q s 0 (same_sym q s e) ∙ h.own;
        top = top_upd S s q 0 f h.top;
        rest = λ b.
            down_is b q (c b) (λ x. remove x (c b)) S₀ 0 (upd_swap S s q 0 0 e) ne (h.rest b)
            (λ y g. ih b (side b S₀) y (rw g at k) (h.rest b));
      }

  remove_node : IsTrie (remove q (node s o c)) (upd S q 0)
  remove_node = go (same q s) refl
    where
      go : (a : Bool) → same q s ≡ a
          → IsTrie
          (cond a (refill (below (λ b. best (c b))) c (λ b x. remove x (c b))) (node s o (λ b. down b q (c b) (λ x. remove x (c b)))))
          (upd S q 0)
      go true e = remove_same e
      go false e = remove_under e

remove_kept : (t : Trie) → Kept t
remove_kept leaf S q live h = absurd (omega (arith, h q))
remove_kept (node s o c) S q live h = remove_node s o c (λ b. remove_kept (c b)) S q live h

pub remove_is : RemoveIs
remove_is t S q live h = remove_kept t S q live h
