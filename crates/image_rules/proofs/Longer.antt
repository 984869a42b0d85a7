-- A route longer than a slot's bits that begins with them: as a test, and what the plain scan gives where there is none.
-- Assumes nothing.
use mathlib.Core.Path.{◌≡◌, refl, subst}
use mathlib.Core.Logic.{◌⊎◌, inl, inr, ⊎_elim}
use mathlib.Core.Bool.{true, false, ◌||◌, or-true, false≢true}
use mathlib.Core.List.Memᴰ
use mathlib.Core.List.{List, [], ◌∷◌, ◌++◌, Memᴰ}
use Prim.Native.Nat.{ℕ, ◌≤◌, ◌<◌}
use native.Mathlib.Omega.{arith}
use lib.Dec.{ltb}
use lib.ListN.{length}
use borrow.Author.Tests.{lt-ltb, ltb-true, ltb-false}
use Rattle.bits.specs.Bits.{Bits, begins}
use Rattle.bits.proofs.Bits.{begins_more}
use Rattle.lists.proofs.Tests.{both, either, neither}
use Rattle.trie.specs.Routes.{Route}
use Rattle.trie.specs.Scan.{longest, plain_scan, scan_list}
use Rattle.trie.proofs.Listed.{head_in, tail_in, plain_scan_is}
use Rattle.image_rules.specs.Image.{longer, some_longer, Longer}

-- the test is the statement

longer_here : (q : Bits) (r : Route) → longer q r ≡ true → (begins q r.prefix ≡ true) × (length q < length r.prefix)
longer_here q r t =
    let b = both (begins q r.prefix) (ltb (length q) (length r.prefix)) t in
    (b.0, ltb-true (length q) (length r.prefix) b.1)

pub some-longer→ : (rs : List Route) (q : Bits) → some_longer rs q ≡ true → Longer rs q
unfolding some_longer
some-longer→ [] q t = absurd (false≢true t)
some-longer→ (r ∷ rs) q t = by (either (longer q r) (some_longer rs q) t) (some-longer→ rs q)
  where
    by : (longer q r ≡ true) ⊎ (some_longer rs q ≡ true) → (some_longer rs q ≡ true → Longer rs q) → Longer (r ∷ rs) q
    by (inl u) ih = let b = longer_here q r u in (r, head_in r rs, b.0, b.1)
    by (inr u) ih = let l = ih u in (l.0, tail_in r rs l.1, l.2, l.3)

pub some_longer_lem : (rs : List Route) (q : Bits) → Longer rs q → some_longer rs q ≡ true
unfolding some_longer
some_longer_lem [] q l = absurd (Memᴰ.not-nil l.1)
some_longer_lem (r ∷ rs) q l = by (Memᴰ.cases_cons l.1) (λ m. some_longer_lem rs q (l.0, m, l.2, l.3))
  where
    by : (l.0 ≡ r) ⊎ Memᴰ l.0 rs → (Memᴰ l.0 rs → some_longer rs q ≡ true) → (longer q r || some_longer rs q) ≡ true
    by (inl e) ih =
        let b : begins q r.prefix ≡ true = subst (λ (x : Route). begins q x.prefix ≡ true) e l.2 in
        let n : length q < length r.prefix = subst (λ (x : Route). length q < length x.prefix) e l.3 in
        rw (b, lt-ltb (length q) (length r.prefix) n)
    by (inr m) ih = rw (ih m) (or-true (longer q r))

-- where no longer route goes on, more bits make no difference

not_longer : (q : Bits) (r : Route) → longer q r ≡ false → begins q r.prefix ≡ true → length r.prefix ≤ length q
not_longer q r f t = ltb-false (length q) (length r.prefix) (rw t at f)

-- a leaf has one port: that of its bits
scan_longest_more : (rs : List Route) (q a : Bits) → some_longer rs q ≡ false
    → (longest (λ r. begins r.prefix (q ++ a)) (λ r. length r.prefix) (λ r. r.port) rs
    ≡ longest (λ r. begins r.prefix q) (λ r. length r.prefix) (λ r. r.port) rs)
    × (scan_list rs (q ++ a) ≡ scan_list rs q)
unfolding some_longer longest plain_scan
scan_longest_more [] q a f = (refl, refl)
scan_longest_more (r ∷ rs) q a f =
    let n = neither (longer q r) (some_longer rs q) f in
    let ih = scan_longest_more rs q a n.1 in
    let b = begins_more r.prefix q a (not_longer q r n.0) in
    (rw (b, ih.0), rw (b, ih.0, ih.1))

pub scan_more : (rs : List Route) (q a : Bits) → some_longer rs q ≡ false → scan_list rs (q ++ a) ≡ scan_list rs q
scan_more rs q a f = (scan_longest_more rs q a f).1

-- the plain scan gives 0 or a port of the list
pub scan_le : (rs : List Route) (a : Bits) (most : ℕ) → ((r : Route) → Memᴰ r rs → r.port ≤ most) → scan_list rs a ≤ most
scan_le rs a most h =
    ⊎_elim
    (λ k. omega (arith, k.0))
    (λ k. omega (arith, k.3, h k.0 k.1))
    (plain_scan_is Route (λ r. begins r.prefix a) (λ r. length r.prefix) (λ r. r.port) rs)
