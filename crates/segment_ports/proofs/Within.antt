-- The test whether blocks lie within the addresses. Assumes nothing.
use mathlib.Core.Path.{◌≡◌}
use mathlib.Core.Bool.{true, false}
use Prim.Native.Nat.{ℕ, ◌+◌, ◌-◌, ◌/◌, ◌^◌, ◌≤◌, ◌<◌}
use native.Mathlib.Omega.{arith}
use native.Mathlib.Nat.{le-div_iff_mul-le, div-le_self}
use lib.Dec.{leb}
use lib.Pow.{pow_pos}
use borrow.Author.Tests.{le-leb, lt-leb, leb-true}
use Rattle.lists.proofs.Tests.{both, leb_same}
use Rattle.segment_ports.specs.Ports.{lie_within}
use Rattle.segment_ports.specs.Needs.{Blocks}

module _ (block size shift : ℕ) where
  abbrev most : ℕ
  most = 2 ^ 32 / 2 ^ shift

  pub within_true : Blocks block size shift → lie_within block size shift ≡ true
  unfolding lie_within
  within_true ok =
      rw (le-leb shift 32 ok.small, le-leb (block + size) most ((le-div_iff_mul-le (pow_pos shift)).1 ok.within))

  pub within_blocks : lie_within block size shift ≡ true → Blocks block size shift
  unfolding lie_within
  within_blocks t =
      let tests = both (leb shift 32) (leb (block + size) most) t in
      let few : block + size ≤ most = leb-true (block + size) most tests.1 in
      record {
        small = leb-true shift 32 tests.0;
        few = omega (arith, few, div-le_self (2 ^ 32) (2 ^ shift));
        within = (le-div_iff_mul-le (pow_pos shift)).0 few;
      }

  -- what the code answers
  pub within_large : 32 < shift → false ≡ lie_within block size shift
  unfolding lie_within
  within_large h = rw (lt-leb shift 32 h)

  module _ (small : shift ≤ 32) where
    pub within_late : most < block → false ≡ lie_within block size shift
    unfolding lie_within
    within_late h = rw (le-leb shift 32 small, lt-leb (block + size) most (omega arith))

    pub within_rest : block ≤ most → leb size (most - block) ≡ lie_within block size shift
    unfolding lie_within
    within_rest h = rw (le-leb shift 32 small) (leb_same size (most - block) (block + size) most (λ l. omega arith) (λ l. omega arith))
