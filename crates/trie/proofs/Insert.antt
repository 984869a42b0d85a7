-- Insertion keeps the rule of the trie. Assumes nothing.
use mathlib.Core.Path.{◌≡◌, refl, sym, ap, ◌∙◌, subst}
use mathlib.Core.Logic.{◌⊎◌, inl, inr}
use mathlib.Core.Bool.{Bool, true, false, cond, true≢false}
use mathlib.Core.List.{[], ◌∷◌}
use Prim.Native.Nat.{ℕ, ◌<◌}
use native.Mathlib.Omega.{arith}
use lib.Dec.{eqb}
use borrow.Author.Tests.{eq-eqb, ne_eqb}
use Rattle.bits.specs.Bits.{Bits, same}
use Rattle.bits.proofs.Bits.{same_refl, same_eq}
use Rattle.lists.proofs.Tests.{way}
use Rattle.trie.specs.Routes.{Routes, upd, side}
use Rattle.trie.specs.Trie.{Trie, leaf, node, IsTrie, Top, outranks}
use Rattle.trie.specs.Update.{down, insert, grows_on, grows}
use Rattle.trie.specs.Theorems.{InsertIs, GrowsIs}
use Rattle.trie.proofs.Routes.{same_sym, upd_same, upd_other, upd_again, upd_none, upd_swap, upd_back}
use Rattle.trie.proofs.Order.{outranks_irrefl, outranks_up, outranks_not_nil, under_not_nil}
use Rattle.trie.proofs.Lookup.{top_none}

pub carry : (t : Trie) {S S' : Routes} → S ≡ S' → IsTrie t S → IsTrie t S'
carry t e h = subst (IsTrie t) e h

-- a child after x went down on its own side
down_own : (b : Bool) (x : Bits) (t : Trie) (f : Bits → Trie) (S : Routes) (p : ℕ) → (x ≡ [] → ⊥)
    → IsTrie t (side b S) → ((y : Bits) → x ≡ b ∷ y → IsTrie (f y) (upd (side b S) y p))
    → IsTrie (down b x t f) (side b (upd S x p))
down_own b [] t f S p ne h k = absurd (ne refl)
down_own false (false ∷ x) t f S p ne h k = k x refl
down_own false (true ∷ x) t f S p ne h k = h
down_own true (false ∷ x) t f S p ne h k = h
down_own true (true ∷ x) t f S p ne h k = k x refl

-- the same, where the routes S' are those of S with x's port made p
pub down_is : (b : Bool) (x : Bits) (t : Trie) (f : Bits → Trie) (S : Routes) (p : ℕ) {S' : Routes} → upd S x p ≡ S'
    → (x ≡ [] → ⊥) → IsTrie t (side b S) → ((y : Bits) → x ≡ b ∷ y → IsTrie (f y) (upd (side b S) y p))
    → IsTrie (down b x t f) (side b S')
down_is b x t f S p e ne h k = carry (down b x t f) (ap (side b) e) (down_own b x t f S p ne h k)

-- a holder stays the top if what is new is not outranks it
pub top_upd : (S : Routes) (s q : Bits) (p : ℕ) → outranks q s ≡ false → Top S s → Top (upd S q p) s
top_upd S s q p e h x k = go (way (same x q))
  where
    go : (same x q ≡ true) ⊎ (same x q ≡ false) → outranks x s ≡ false
    go (inl t) = rw (same_eq x q t) e
    go (inr t) = h x (rw (upd_other S q x p t) at k)

abbrev Kept : Trie → Type 0
Kept t = (S : Routes) (q : Bits) (p : ℕ) → 0 < p → IsTrie t S → IsTrie (insert q p t) (upd S q p)

insert_leaf : Kept leaf
insert_leaf S q p pos h = record {
  some = pos;
  own = upd_same S q p;
  top = top_upd S q q p (outranks_irrefl q) (λ x k. absurd (omega (arith, h x)));
  rest = λ b x. none (b ∷ x);
}
  where
    none : (x : Bits) → upd (upd S q p) q 0 x ≡ 0
    none x = ap (λ (T : Routes). T x) (upd_again S q p 0) ∙ go (same x q)
      where
        go : (b : Bool) → cond b 0 (S x) ≡ 0
        go true = refl
        go false = h x

module _ (s : Bits) (o : ℕ) (c : Bool → Trie) (ih : (b : Bool) → Kept (c b)) (S : Routes) (q : Bits) (p : ℕ) (pos : 0 < p)
    (h : IsTrie (node s o c) S) where
  abbrev S₀ : Routes
  S₀ = upd S s 0

  -- the holder itself gets the new port
  insert_same : same q s ≡ true → IsTrie (node s p c) (upd S q p)
  insert_same e =
      let z : S₀ ≡ upd (upd S q p) s 0 = rw (same_eq q s e) (sym (upd_again S s p 0)) in
      record {
        some = pos;
        own = rw (same_eq q s e) (upd_same S s p);
        top = rw (same_eq q s e) (top_upd S s s p (outranks_irrefl s) h.top);
        rest = λ b. carry (c b) (ap (side b) z) (h.rest b);
      }

  -- the new route takes the place, and the holder goes on down
  insert_over : outranks q s ≡ true → IsTrie (node q p (λ b. down b s (c b) (λ x. insert x o (c b)))) (upd S q p)
  insert_over f =
      let z : upd S₀ s o ≡ upd (upd S q p) q 0 =
      upd_back S s o h.own ∙ sym (upd_again S q p 0 ∙ upd_none S q 0 (top_none S s h.top q f)) in
      record {
        some = pos;
        own = upd_same S q p;
        top = top_upd S q q p (outranks_irrefl q) (λ x k. outranks_up x q s (h.top x k) f);
        rest = λ b.
            down_is b s (c b) (λ x. insert x o (c b)) S₀ o z (outranks_not_nil q s f) (h.rest b)
            (λ y _. ih b (side b S₀) y o h.some (h.rest b));
      }

  -- the new route goes on down
  insert_under : same q s ≡ false → outranks q s ≡ false
      → IsTrie (node s o (λ b. down b q (c b) (λ x. insert x p (c b)))) (upd S q p)
  insert_under e f =
      let z : upd S₀ q p ≡ upd (upd S q p) s 0 = upd_swap S s q 0 p e in
      let ne : (q ≡ [] → ⊥) = under_not_nil q s (λ g. true≢false (sym (rw g (same_refl s)) ∙ e)) f in
      record {
        some = h.some;
        own = upd_other S q s p (same_sym q s e) ∙ h.own;
        top = top_upd S s q p f h.top;
        rest = λ b.
            down_is b q (c b) (λ x. insert x p (c b)) S₀ p z ne (h.rest b)
            (λ y _. ih b (side b S₀) y p pos (h.rest b));
      }

  insert_node : IsTrie (insert q p (node s o c)) (upd S q p)
  insert_node = go (same q s) (outranks q s) refl refl
    where
      go : (a b : Bool) → same q s ≡ a → outranks q s ≡ b
          → IsTrie
          (cond a (node s p c)
          (cond b (node q p (λ d. down d s (c d) (λ x. insert x o (c d)))) (node s o (λ d. down d q (c d) (λ x. insert x p (c d))))))
          (upd S q p)
      go true b e f = insert_same e
      go false true e f = insert_over f
      go false false e f = insert_under e f

insert_kept : (t : Trie) → Kept t
insert_kept leaf = insert_leaf
insert_kept (node s o c) = insert_node s o c (λ b. insert_kept (c b))

-- a new prefix, or a new port of one that is held, keeps the rule
pub insert_is : InsertIs
insert_is t S q p pos h = insert_kept t S q p pos h

-- whether an insertion makes a node more

-- what goes on down is not the place's own
pub lower_not_nil : (q s : Bits) → same q s ≡ false → cond (outranks q s) s q ≡ [] → ⊥
lower_not_nil q s e = go (outranks q s) refl
  where
    go : (b : Bool) → outranks q s ≡ b → cond b s q ≡ [] → ⊥
    go true f = outranks_not_nil q s f
    go false f = under_not_nil q s (λ g. true≢false (sym (rw g (same_refl s)) ∙ e)) f

grows_on_lem : (x : Bits) (f : Bool → Bits → Bool) (T : Routes) → (x ≡ [] → ⊥) → ((b : Bool) (y : Bits) → f b y ≡ eqb (side b T y) 0)
    → grows_on x f ≡ eqb (T x) 0
grows_on_lem [] f T ne h = absurd (ne refl)
grows_on_lem (b ∷ x) f T ne h = h b x

grows_node : (s : Bits) (o : ℕ) (c : Bool → Trie) (S : Routes) (q : Bits) → IsTrie (node s o c) S
    → ((b : Bool) (y : Bits) → grows y (c b) ≡ eqb (side b (upd S s 0) y) 0)
    → grows q (node s o c) ≡ eqb (S q) 0
grows_node s o c S q h below = go (same q s) refl (outranks q s) refl
  where
    go : (a : Bool) → same q s ≡ a → (v : Bool) → outranks q s ≡ v
        → cond a false (grows_on (cond v s q) (λ b x. grows x (c b))) ≡ eqb (S q) 0
    go true e v f = sym (ne_eqb (S q) 0 (λ z. omega (arith, h.some, h.own, ap S (same_eq q s e))))
    go false e true f =
        grows_on_lem s (λ b x. grows x (c b)) (upd S s 0) (outranks_not_nil q s f) below
        ∙ ap (λ (x : ℕ). eqb x 0) (upd_same S s 0)
        ∙ sym (eq-eqb (S q) 0 (top_none S s h.top q f))
    go false e false f =
        grows_on_lem q (λ b x. grows x (c b)) (upd S s 0)
        (under_not_nil q s (λ g. true≢false (sym (rw g (same_refl s)) ∙ e)) f)
        below
        ∙ ap (λ (x : ℕ). eqb x 0) (upd_other S s q 0 e)

pub grows_is : GrowsIs
grows_is leaf S q h = sym (eq-eqb (S q) 0 (h q))
grows_is (node s o c) S q h = grows_node s o c S q h (λ b y. grows_is (c b) (side b (upd S s 0)) y (h.rest b))
