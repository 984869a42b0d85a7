-- How many routes a set has: a table's as many as its rows, one more with a new prefix, and no fewer where others are in it. Assumes
-- nothing.
use mathlib.Core.Path.{◌≡◌, sym, ap, ◌∙◌}
use mathlib.Core.Bool.{Bool, true, false, cond, ◌||◌}
use mathlib.Core.List.{◌∷◌}
use Prim.Native.Nat.{ℕ, ◌+◌, ◌≤◌, ◌<◌}
use native.Mathlib.Omega.{arith}
use lib.Dec.{ltb}
use borrow.Author.Tests.{lt-ltb, ltb-true}
use Rattle.lists.specs.Numbered.{list_of}
use Rattle.lists.proofs.Numbered.{length_list_of}
use Rattle.lists.proofs.Tests.{test_eq}
use Rattle.bits.specs.Bits.{Bits, same}
use Rattle.bits.proofs.Bits.{same_refl, same_eq}
use Rattle.trie.specs.Routes.{Routes, upd}
use Rattle.table_rules.specs.Rows.{Mem, row_bits}
use Rattle.table_rules.specs.Holds.{GoodFor}
use Rattle.message_calls.specs.Once.{among, Differ}
use Rattle.message_calls.specs.Named.{Size}
use Rattle.message_calls.proofs.Once.{among_numbered, numbered_among, differ_numbered, no_more}

-- a table in good order for S has as many rows as S has routes
pub good_size : (w capacity : ℕ) (M : Mem) (n : ℕ) (S : Routes) → GoodFor w capacity M n S → Size S n
good_size w capacity M n S good = record {
  list = list_of R n 0;
  differ = differ_numbered same same_refl same_eq R n good.routes.different n 0 (omega arith);
  just = λ q. test_eq (among same q (list_of R n 0)) (ltb 0 (S q)) (held q) (row q);
  size = length_list_of R n 0;
}
  where
    R : ℕ → Bits
    R i = row_bits w (M i)

    held : (q : Bits) → among same q (list_of R n 0) ≡ true → ltb 0 (S q) ≡ true
    held q t =
        let a = among_numbered same same_refl same_eq R n 0 q t in
        let below : a.at < n = omega (arith, a.below) in
        let port : S q ≡ (M a.at).port = ap S a.is ∙ good.routes.here a.at below in
        lt-ltb 0 (S q) (rw port (good.routes.valid a.at below).some)

    row : (q : Bits) → ltb 0 (S q) ≡ true → among same q (list_of R n 0) ≡ true
    row q t =
        let at = good.routes.only q (ltb-true 0 (S q) t) in
        ap (λ (x : Bits). among same x (list_of R n 0)) (sym at.2) ∙ numbered_among same same_refl same_eq R n 0 at.0 (omega arith) (omega (arith, at.1))

-- a set with all the prefixes of another has no fewer
pub size_le : (S T : Routes) (a b : ℕ) → Size S a → Size T b → ((q : Bits) → 0 < S q → 0 < T q) → a ≤ b
size_le S T a b s t more =
    omega (
      arith,
      s.size,
      t.size,
      no_more same same_refl same_eq s.list t.list s.differ
          (λ q h. t.just q ∙ lt-ltb 0 (T q) (more q (ltb-true 0 (S q) (sym (s.just q) ∙ h)))),
    )

-- and one with the same prefixes as many
pub size_one : (S : Routes) (a b : ℕ) → Size S a → Size S b → a ≡ b
size_one S a b s t = omega (arith, size_le S S a b s t (λ q h. h), size_le S S b a t s (λ q h. h))

-- a new prefix makes it one more
pub size_more : (S : Routes) (q : Bits) (p n : ℕ) → S q ≡ 0 → 0 < p → Size S n → Size (upd S q p) (n + 1)
unfolding among Differ
size_more S q p n new some s = record {
  list = q ∷ s.list;
  differ = (s.just q ∙ rw new, s.differ);
  just = λ x. by x (same x q);
  size = omega (arith, s.size);
}
  where
    by : (x : Bits) (b : Bool) → (b || among same x s.list) ≡ ltb 0 (cond b p (S x))
    by x true = sym (lt-ltb 0 p some)
    by x false = s.just x
