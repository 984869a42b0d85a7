-- A block of addresses that no longer route begins with goes to one port, and how many blocks the others are at most. Assumes nothing.
use mathlib.Core.Path.{◌≡◌, refl, sym, ap, ◌∙◌}
use mathlib.Core.Logic.{⊎_elim}
use mathlib.Core.Bool.{Bool, true, false, ◌&&◌, true≢false}
use Prim.Native.Nat.{ℕ, zero, suc, ◌+◌, ◌*◌, ◌≤◌, ◌<◌}
use native.Mathlib.Omega.{arith}
use lib.Dec.{eqb, leb, ltb}
use borrow.Author.Tests.{eq-eqb, eqb-true, lt-ltb, ltb-true, leb-true, leb-false}
use Rattle.lists.specs.Below.{some_below, number_below}
use Rattle.lists.proofs.Tests.{way, both, test_no}
use Rattle.lists.proofs.Below.{some_below_lem, passing, number_skip, number_zero, number_or, number_once}
use Rattle.bits.specs.Prefix.{span, head}
use Rattle.bits.proofs.Prefix.{head_shorter, head_start}
use Rattle.routes.specs.Routes.{ValidList}
use Rattle.routes.specs.Scan.{route_matches, scan_of}
use Rattle.routes.specs.declared.Route.{Route}
use Rattle.routes.proofs.Scan.{scan_is_last, last_match_alike}
use Rattle.segment_rules.specs.Blocks.{longer, port_at}
use Rattle.segment_rules.specs.Theorems.{PortRule, LongerRoute}

-- what the test of a longer route says

module _ (w : ℕ) (R : ℕ → Route) (n l x : ℕ) where
  abbrev begins : ℕ → Bool
  begins k = ltb l (R k).len && eqb (head w l (R k).value) x

  pub longer→route : longer w R n l x ≡ true → LongerRoute w R n l x
  unfolding longer
  longer→route t =
      let p = passing begins n t in
      let b = both (ltb l (R p.which).len) (eqb (head w l (R p.which).value) x) p.passes in
      record { which = p.which; listed = p.below; long = ltb-true _ _ b.0; begins = eqb-true _ _ b.1 }

  pub route→longer : LongerRoute w R n l x → longer w R n l x ≡ true
  unfolding longer
  route→longer r =
      some_below_lem begins n r.which r.listed (rw (lt-ltb l (R r.which).len r.long, eq-eqb _ x r.begins))

  -- where there is none, no route is one
  pub not_longer : longer w R n l x ≡ false → (k : ℕ) → k < n → l < (R k).len → head w l (R k).value ≡ x → ⊥
  not_longer none k h long e =
      true≢false (sym (route→longer (record { which = k; listed = h; long = long; begins = e })) ∙ none)

module _ (w : ℕ) (R : ℕ → Route) (n l a b : ℕ) (le : l ≤ w) (ok : ValidList w R n) (alike : head w l a ≡ head w l b)
    (none : longer w R n l (head w l a) ≡ false) where
  -- a longer route matches neither address
  no_match : (k x : ℕ) → k < n → head w l x ≡ head w l a → l < (R k).len → route_matches w x (R k) ≡ false
  no_match k x h same long =
      test_no (route_matches w x (R k)) (λ m.
      let e : head w (R k).len x ≡ head w (R k).len (R k).value = eqb-true _ _ m in
      let f : head w l x ≡ head w l (R k).value = head_shorter w l (R k).len x (R k).value (omega arith) (ok.each k h).prefix.short e in
      not_longer w R n l (head w l a) none k h long (sym f ∙ same))

  matches_alike : (k : ℕ) → k < n → route_matches w a (R k) ≡ route_matches w b (R k)
  matches_alike k h =
      ⊎_elim
      (λ (t : leb (R k).len l ≡ true).
      ap (λ (x : ℕ). eqb x (head w (R k).len (R k).value))
      (head_shorter w (R k).len l a b (leb-true (R k).len l t) le alike))
      (λ (t : leb (R k).len l ≡ false).
      let long : l < (R k).len = leb-false (R k).len l t in
      no_match k a h refl long ∙ sym (no_match k b h (sym alike) long))
      (way (leb (R k).len l))

  pub scan_alike : scan_of w R n a ≡ scan_of w R n b
  scan_alike = scan_is_last w R n a ok ∙ last_match_alike w R n a b matches_alike ∙ sym (scan_is_last w R n b ok)

pub port_rule : PortRule
unfolding port_at
port_rule w R n l a ok le none =
    sym (scan_alike w R n l a (head w l a * span w l) le ok (sym (head_start w l (head w l a))) none)

-- n routes begin with the bits of at most n blocks
pub blocks_le : (w : ℕ) (R : ℕ → Route) (n l x : ℕ) → number_below (longer w R n l) x ≤ n
unfolding longer some_below
blocks_le w R zero l x =
    let z : 0 + x ≡ x = omega arith in
    let none : number_below (longer w R 0 l) (0 + x) ≡ number_below (longer w R 0 l) 0 = number_skip (longer w R 0 l) 0 x (λ k a b. refl) in
    omega (arith, rw z at none, number_zero (longer w R 0 l))
blocks_le w R (suc n) l x =
    omega (
      arith,
      number_or (λ y. begins w R n l y n) (longer w R n l) x,
      number_once (λ y. begins w R n l y n) (head w l (R n).value)
          (λ y t. sym (eqb-true _ y (both (ltb l (R n).len) (eqb (head w l (R n).value) y) t).1)) x,
      blocks_le w R n l x,
    )
