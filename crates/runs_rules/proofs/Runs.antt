-- Every port of an address has exactly one listing, and going address by address gives it: RULES, "The run listing".
-- Assumes nothing.
use mathlib.Core.Path.{◌≡◌, refl, sym, ap, ap₂, ◌∙◌}
use mathlib.Core.Logic.{◌⊎◌, ⊎_elim}
use mathlib.Core.Bool.{true, false}
use mathlib.Core.List.{List, [], ◌∷◌}
use Prim.Native.Nat.{ℕ, zero, suc, ◌+◌, ◌-◌, ◌≤◌, ◌<◌}
use native.Mathlib.Omega.{arith}
use native.Mathlib.Nat.{zero-add}
use lib.Dec.{eqb}
use borrow.Author.Tests.{eq-eqb, ne_eqb, eqb-true, eqb-false}
use Rattle.lists.proofs.Tests.{way}
use Rattle.runs_rules.specs.Runs.{Run, run, RunAt, Apart, Lists, runs_from, runs}
use Rattle.runs_rules.specs.Theorems.{ListingUnique, ListingExists}

module _ (f : ℕ → ℕ) (n : ℕ) where
  -- what follows a run has another port there
  pub next_port : (m p : ℕ) (rs : List Run) → Apart p rs → Lists f n m rs → m < n → f m ≡ p → ⊥
  next_port m p [] other ls h e = absurd (omega (arith, ls))
  next_port m p (r ∷ rs) other ls h e = other (sym (ls.0.one_port m (omega arith) ls.0.some) ∙ e)

  -- of two listings from one place, the first run of neither ends before the other's
  no_sooner : (a : ℕ) (r q : Run) (rs qs : List Run) → Lists f n a (r ∷ rs) → Lists f n a (q ∷ qs) → r.last < q.last → ⊥
  no_sooner a r q rs qs l k h =
      next_port (r.last + 1) r.port rs l.1 l.2 (omega (arith, k.0.within))
      (k.0.one_port (r.last + 1) (omega (arith, l.0.some)) (omega arith)
      ∙ sym (k.0.one_port a (omega arith) k.0.some)
      ∙ l.0.one_port a (omega arith) l.0.some)

  same_last : (a : ℕ) (r q : Run) (rs qs : List Run) → Lists f n a (r ∷ rs) → Lists f n a (q ∷ qs) → r.last ≡ q.last
  same_last a r q rs qs l k =
      let x : (r.last < q.last → ⊥) = no_sooner a r q rs qs l k in
      let y : (q.last < r.last → ⊥) = no_sooner a q r qs rs k l in
      omega arith

  pub lists_unique : (a : ℕ) (rs qs : List Run) → Lists f n a rs → Lists f n a qs → rs ≡ qs
  lists_unique a [] [] l k = refl
  lists_unique a [] (q ∷ qs) l k = absurd (omega (arith, k.0.some, k.0.within, l))
  lists_unique a (r ∷ rs) [] l k = absurd (omega (arith, l.0.some, l.0.within, k))
  lists_unique a (r ∷ rs) (q ∷ qs) l k =
      let e : r.last ≡ q.last = same_last a r q rs qs l k in
      let p : r.port ≡ q.port = sym (l.0.one_port a (omega arith) l.0.some) ∙ k.0.one_port a (omega arith) k.0.some in
      let s : r.first ≡ q.first = l.0.starts ∙ sym k.0.starts in
      let t : r ≡ q = λ j. record { first = s j; last = e j; port = p j } in
      ap₂ (λ (x : Run) (xs : List Run). x ∷ xs) t (lists_unique (r.last + 1) rs qs l.2 (rw e k.2))

pub listing_unique : ListingUnique
listing_unique f n rs qs l k = lists_unique f n 0 rs qs l k

-- the open run goes on, ends, and is the last
module _ (f : ℕ → ℕ) where
  pub runs_from_same : (s c k : ℕ) → f c ≡ f s → runs_from f s c (suc k) ≡ runs_from f s (c + 1) k
  unfolding runs_from
  runs_from_same s c k e = simp (eq-eqb (f c) (f s) e)

  pub runs_from_other : (s c k : ℕ) → (f c ≡ f s → ⊥) → runs_from f s c (suc k) ≡ run s (c - 1) (f s) ∷ runs_from f c (c + 1) k
  unfolding runs_from
  runs_from_other s c k e = simp (ne_eqb (f c) (f s) e)

  pub runs_from_all : (s c k : ℕ) → k ≡ 0 → runs_from f s c k ≡ run s (c - 1) (f s) ∷ []
  unfolding runs_from
  runs_from_all s c k e = rw e

  -- over j addresses
  pub runs_from_on : (s c k j : ℕ) → ((x : ℕ) → c ≤ x → x < c + j → f x ≡ f s) → runs_from f s c (j + k) ≡ runs_from f s (c + j) k
  runs_from_on s c k zero h = let z : c + 0 ≡ c = omega arith in rw (z, zero-add)
  runs_from_on s c k (suc j) h =
      let p : c + 1 + j ≡ c + suc j = omega arith in
      let q : suc j + k ≡ suc (j + k) = omega arith in
      ap (λ (m : ℕ). runs_from f s c m) q ∙ runs_from_same s c (j + k) (h c (omega arith) (omega arith))
      ∙ runs_from_on s (c + 1) k j (λ x u v. h x (omega arith) (omega arith)) ∙ ap (λ (m : ℕ). runs_from f s m k) p

  -- of n addresses, up to address `to`
  pub runs_from_to : (n s c to : ℕ) → c ≤ to → to ≤ n → ((x : ℕ) → c ≤ x → x < to → f x ≡ f s)
      → runs_from f s c (n - c) ≡ runs_from f s to (n - to)
  runs_from_to n s c to h l one =
      let z : n - c ≡ (to - c) + (n - to) = omega arith in
      let y : c + (to - c) ≡ to = omega arith in
      ap (λ (k : ℕ). runs_from f s c k) z ∙ runs_from_on s c (n - to) (to - c) (λ x u v. one x u (omega arith))
      ∙ ap (λ (m : ℕ). runs_from f s m (n - to)) y

  -- what is left begins with the open run
  runs_from_apart : (s c k p : ℕ) → (f s ≡ p → ⊥) → Apart p (runs_from f s c k)
  unfolding runs_from
  runs_from_apart s c zero p ne = ne
  runs_from_apart s c (suc k) p ne =
      ⊎_elim
      (λ (t : eqb (f c) (f s) ≡ true). rw t (runs_from_apart s (c + 1) k p ne))
      (λ (t : eqb (f c) (f s) ≡ false). rw t ne)
      (way (eqb (f c) (f s)))

  -- f has one port from s up to, and without, c
  abbrev OnePort : ℕ → ℕ → Type 0
  OnePort s c = (x : ℕ) → s ≤ x → x < c → f x ≡ f s

  one_port_none : (s : ℕ) → OnePort s (s + 1)
  one_port_none s x u v = let i : x ≡ s = omega arith in ap f i

  one_port_more : (s c : ℕ) → OnePort s c → f c ≡ f s → OnePort s (c + 1)
  one_port_more s c one e x u v =
      ⊎_elim
      (λ (t : eqb x c ≡ true). ap f (eqb-true x c t) ∙ e)
      (λ (t : eqb x c ≡ false). let ne : (x ≡ c → ⊥) = eqb-false x c t in one x u (omega arith))
      (way (eqb x c))

  run_at : (s c n : ℕ) → s < c → c ≤ n → OnePort s c → RunAt f n s (run s (c - 1) (f s))
  run_at s c n h l one = record {
    starts = refl;
    some = omega arith;
    within = omega arith;
    one_port = λ x u v. one x u (omega arith);
  }

  pub runs_from_lists : (k s c n : ℕ) → s < c → c + k ≡ n → OnePort s c → Lists f n s (runs_from f s c k)
  unfolding runs_from
  runs_from_lists zero s c n h e one =
      let z : c - 1 + 1 ≡ n = omega arith in (run_at s c n h (omega arith) one, tt, z)
  runs_from_lists (suc k) s c n h e one =
      let z : c - 1 + 1 ≡ c = omega arith in
      ⊎_elim
      (λ (t : eqb (f c) (f s) ≡ true).
      rw t (runs_from_lists k s (c + 1) n (omega arith) (omega arith) (one_port_more s c one (eqb-true (f c) (f s) t))))
      (λ (t : eqb (f c) (f s) ≡ false).
      rw t (
        run_at s c n h (omega arith) one,
        runs_from_apart c (c + 1) k (f s) (eqb-false (f c) (f s) t),
        rw z (runs_from_lists k c (c + 1) n (omega arith) (omega arith) (one_port_none c)),
      ))
      (way (eqb (f c) (f s)))

pub listing_exists : ListingExists
unfolding runs
listing_exists f zero h = absurd (omega arith)
listing_exists f (suc n) h =
    rw (runs_from_same f 0 0 n refl) (runs_from_lists f n 0 1 (suc n) (omega arith) (omega arith) (one_port_none f 0))
