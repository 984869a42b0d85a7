-- The set that a list of routes holds, and the plain scan of a list as that of its set. Assumes nothing.
use mathlib.Core.Path.{◌≡◌, refl, sym, ap, ◌∙◌, subst, fun_ext}
use mathlib.Core.Logic.{◌⊎◌, inl, inr, ⊎_elim}
use mathlib.Core.Bool.{Bool, true, false, true≢false}
use mathlib.Core.List.Memᴰ
use mathlib.Core.List.{List, [], ◌∷◌, Memᴰ}
use Prim.Native.Nat.{ℕ, ◌+◌, ◌<◌, ◌≤◌}
use native.Mathlib.Omega.{arith}
use lib.Dec.{leb}
use lib.ListN.{length}
use borrow.Author.Tests.{leb-true, leb-false}
use Rattle.bits.specs.Bits.{Bits, same, begins}
use Rattle.bits.proofs.Bits.{same_eq, same_refl}
use Rattle.lists.proofs.Tests.{way}
use Rattle.trie.specs.Routes.{Route, Routes, no_routes, upd, held_from, held, Distinct}
use Rattle.trie.specs.Scan.{longest, plain_scan}
use Rattle.trie.specs.Theorems.{PlainScanIs, ScanListIsScan}
use Rattle.trie.proofs.Routes.{same_no, upd_same, upd_other}
use Rattle.trie.proofs.Scan.{scan_none, scan_longest}

-- membership, in short
pub head_in : {X : Type 0} (x : X) (xs : List X) → Memᴰ x (x ∷ xs)
head_in x xs = Memᴰ.head refl

pub tail_in : {X : Type 0} {x : X} (y : X) (xs : List X) → Memᴰ x xs → Memᴰ x (y ∷ xs)
tail_in y xs m = Memᴰ.tail m

-- a prefix that no route of the list has keeps what it had
held_from_other : (rs : List Route) (S : Routes) (q : Bits) → ((x : Route) → Memᴰ x rs → x.prefix ≡ q → ⊥)
    → held_from S rs q ≡ S q
unfolding held_from
held_from_other [] S q h = refl
held_from_other (r ∷ rs) S q h =
    held_from_other rs (upd S r.prefix r.port) q (λ x m. h x (tail_in r rs m))
    ∙ upd_other S r.prefix q r.port (same_no q r.prefix (λ e. h r (head_in r rs) (sym e)))

-- a route of a list with different prefixes is held
held_from_in : (rs : List Route) (S : Routes) (x : Route) → Distinct rs → Memᴰ x rs → held_from S rs x.prefix ≡ x.port
unfolding held_from
held_from_in [] S x d m = absurd (Memᴰ.not-nil m)
held_from_in (r ∷ rs) S x d m =
    by (Memᴰ.cases_cons m) (λ n. held_from_in rs (upd S r.prefix r.port) x d.1 n)
  where
    by : (x ≡ r) ⊎ Memᴰ x rs → (Memᴰ x rs → held_from (upd S r.prefix r.port) rs x.prefix ≡ x.port)
        → held_from (upd S r.prefix r.port) rs x.prefix ≡ x.port
    by (inl e) ih =
        subst (λ (y : Route). held_from (upd S r.prefix r.port) rs y.prefix ≡ y.port) (sym e)
        (held_from_other rs (upd S r.prefix r.port) r.prefix d.0 ∙ upd_same S r.prefix r.port)
    by (inr n) ih = ih n

pub held_in : (rs : List Route) (x : Route) → Distinct rs → Memᴰ x rs → held rs x.prefix ≡ x.port
held_in rs x d m = held_from_in rs no_routes x d m

pub held_other : (rs : List Route) (q : Bits) → ((x : Route) → Memᴰ x rs → x.prefix ≡ q → ⊥) → held rs q ≡ 0
held_other rs q h = held_from_other rs no_routes q h

-- a prefix is one of the list's, or of none of its routes
pub prefix_in_or_out : (rs : List Route) (q : Bits)
    → ((x : Route) × Memᴰ x rs × (x.prefix ≡ q)) ⊎ ((x : Route) → Memᴰ x rs → x.prefix ≡ q → ⊥)
prefix_in_or_out [] q = inr (λ x m e. Memᴰ.not-nil m)
prefix_in_or_out (r ∷ rs) q = by (way (same r.prefix q)) (prefix_in_or_out rs q)
  where
    by : (same r.prefix q ≡ true) ⊎ (same r.prefix q ≡ false)
        → ((x : Route) × Memᴰ x rs × (x.prefix ≡ q)) ⊎ ((x : Route) → Memᴰ x rs → x.prefix ≡ q → ⊥)
        → ((x : Route) × Memᴰ x (r ∷ rs) × (x.prefix ≡ q)) ⊎ ((x : Route) → Memᴰ x (r ∷ rs) → x.prefix ≡ q → ⊥)
    by (inl t) k = inl (r, head_in r rs, same_eq r.prefix q t)
    by (inr t) (inl k) = inl (k.0, tail_in r rs k.1, k.2)
    by (inr t) (inr k) =
        inr (λ x m e. ⊎_elim
        (λ (g : x ≡ r). true≢false (sym (same_refl q) ∙ ap (λ (y : Bits). same y q) (sym e ∙ ap (λ (z : Route). z.prefix) g) ∙ t))
        (λ (n : Memᴰ x rs). k x n e)
        (Memᴰ.cases_cons m))

-- lists of the same routes hold the same set
pub held_same : (rs qs : List Route) → Distinct rs → Distinct qs
    → ((x : Route) → Memᴰ x rs → Memᴰ x qs) → ((x : Route) → Memᴰ x qs → Memᴰ x rs)
    → held rs ≡ held qs
held_same rs qs dr dq there back = fun_ext (λ q. at q (prefix_in_or_out rs q))
  where
    at : (q : Bits) → ((x : Route) × Memᴰ x rs × (x.prefix ≡ q)) ⊎ ((x : Route) → Memᴰ x rs → x.prefix ≡ q → ⊥)
        → held rs q ≡ held qs q
    at q (inl k) =
        subst (λ (p : Bits). held rs p ≡ held qs p) k.2
        (held_in rs k.0 dr k.1 ∙ sym (held_in qs k.0 dq (there k.0 k.1)))
    at q (inr k) = held_other rs q k ∙ sym (held_other qs q (λ x m. k x (back x m)))

-- the plain scan of a list

module _ {X : Type 0} (match : X → Bool) (len port : X → ℕ) where
  abbrev Long : List X → ℕ
  Long rs = longest match len port rs

  abbrev Scan : List X → ℕ
  Scan rs = plain_scan match len port rs

  -- no route matches, or one does that no other exceeds, and these are its length and port
  abbrev Found : List X → Type 0
  Found rs =
      ((Long rs ≡ 0) × (Scan rs ≡ 0) × ((x : X) → Memᴰ x rs → match x ≡ false))
      ⊎ ((r : X) × Memᴰ r rs × (match r ≡ true) × (Long rs ≡ len r + 1) × (Scan rs ≡ port r)
      × ((x : X) → Memᴰ x rs → match x ≡ true → len x ≤ len r))

  module _ (r : X) (rs : List X) where
    -- a route that does not match changes nothing
    found_skip : match r ≡ false → Found rs → Found (r ∷ rs)
    unfolding longest plain_scan
    found_skip e (inl k) = inl (rw e k.0, rw e k.1, none)
      where
        none : (x : X) → Memᴰ x (r ∷ rs) → match x ≡ false
        none x m = ⊎_elim (λ (g : x ≡ r). ap match g ∙ e) (λ (n : Memᴰ x rs). k.2 x n) (Memᴰ.cases_cons m)
    found_skip e (inr k) = inr (k.0, tail_in r rs k.1, k.2, rw e k.3, rw e k.4, most)
      where
        most : (x : X) → Memᴰ x (r ∷ rs) → match x ≡ true → len x ≤ len k.0
        most x m t =
            ⊎_elim (λ (g : x ≡ r). absurd (true≢false (sym t ∙ ap match g ∙ e))) (λ (n : Memᴰ x rs). k.5 x n t) (Memᴰ.cases_cons m)

    -- one that matches, and is longer than those after it
    found_take : match r ≡ true → leb (Long rs) (len r) ≡ true → Found rs → Found (r ∷ rs)
    unfolding longest plain_scan
    found_take e f k = inr (r, head_in r rs, e, rw (e, f), rw (e, f), most)
      where
        rest : (x : X) → Memᴰ x rs → match x ≡ true → Found rs → len x ≤ len r
        rest x n t (inl j) = absurd (true≢false (sym t ∙ j.2 x n))
        rest x n t (inr j) = omega (arith, j.5 x n t, j.3, leb-true (Long rs) (len r) f)

        most : (x : X) → Memᴰ x (r ∷ rs) → match x ≡ true → len x ≤ len r
        most x m t =
            ⊎_elim (λ (g : x ≡ r). rw g (omega arith)) (λ (n : Memᴰ x rs). rest x n t k) (Memᴰ.cases_cons m)

    -- one that matches, and is not
    found_leave : match r ≡ true → leb (Long rs) (len r) ≡ false → Found rs → Found (r ∷ rs)
    unfolding longest plain_scan
    found_leave e f (inl k) = absurd (omega (arith, k.0, leb-false (Long rs) (len r) f))
    found_leave e f (inr k) = inr (k.0, tail_in r rs k.1, k.2, rw (e, f) k.3, rw (e, f) k.4, most)
      where
        most : (x : X) → Memᴰ x (r ∷ rs) → match x ≡ true → len x ≤ len k.0
        most x m t =
            ⊎_elim
            (λ (g : x ≡ r). rw g (omega (arith, k.3, leb-false (Long rs) (len r) f)))
            (λ (n : Memᴰ x rs). k.5 x n t)
            (Memᴰ.cases_cons m)

    found_more : Found rs → Found (r ∷ rs)
    found_more k =
        ⊎_elim
        (λ (e : match r ≡ true).
        ⊎_elim
        (λ (f : leb (Long rs) (len r) ≡ true). found_take e f k)
        (λ (f : leb (Long rs) (len r) ≡ false). found_leave e f k)
        (way (leb (Long rs) (len r))))
        (λ (e : match r ≡ false). found_skip e k)
        (way (match r))

  found : (rs : List X) → Found rs
  unfolding longest plain_scan
  found [] = inl (refl, refl, λ x m. absurd (Memᴰ.not-nil m))
  found (r ∷ rs) = found_more r rs (found rs)

pub plain_scan_is : PlainScanIs
plain_scan_is X match len port rs =
    ⊎_elim
    (λ k. inl (k.1, k.2))
    (λ k. inr (k.0, k.1, k.2, k.4, k.5))
    (found match len port rs)

pub scan_list_is_scan : ScanListIsScan
scan_list_is_scan rs a d ported =
    ⊎_elim
    (λ k. k.0 ∙ sym (scan_none (held rs) a (λ q m. none q m k.1 (prefix_in_or_out rs q))))
    (λ k.
    let r : Route = k.0 in
    let own : held rs r.prefix ≡ r.port = held_in rs r d k.1 in
    k.3
    ∙ sym (scan_longest (held rs) r.prefix a (rw own (ported r k.1)) k.2 (λ q m l. longer q m r l k.4 (prefix_in_or_out rs q)) ∙ own))
    (plain_scan_is Route (λ r. begins r.prefix a) (λ r. length r.prefix) (λ r. r.port) rs)
  where
    none : (q : Bits) → begins q a ≡ true → ((x : Route) → Memᴰ x rs → begins x.prefix a ≡ false)
        → ((x : Route) × Memᴰ x rs × (x.prefix ≡ q)) ⊎ ((x : Route) → Memᴰ x rs → x.prefix ≡ q → ⊥)
        → held rs q ≡ 0
    none q m apart (inl k) = absurd (true≢false (sym m ∙ ap (λ (p : Bits). begins p a) (sym k.2) ∙ apart k.0 k.1))
    none q m apart (inr k) = held_other rs q k

    longer : (q : Bits) → begins q a ≡ true → (r : Route) → length r.prefix < length q
        → ((x : Route) → Memᴰ x rs → begins x.prefix a ≡ true → length x.prefix ≤ length r.prefix)
        → ((x : Route) × Memᴰ x rs × (x.prefix ≡ q)) ⊎ ((x : Route) → Memᴰ x rs → x.prefix ≡ q → ⊥)
        → held rs q ≡ 0
    longer q m r l most (inl k) =
        let s : length k.0.prefix ≤ length r.prefix =
        most k.0 k.1 (ap (λ (p : Bits). begins p a) k.2 ∙ m) in
        absurd (omega (arith, ap length k.2))
    longer q m r l most (inr k) = held_other rs q k
