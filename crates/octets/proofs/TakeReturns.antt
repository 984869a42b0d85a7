-- A prefix read at an offset, and the answers of taking one, from what the code has found; and what such an answer tells. Assumes nothing.
use mathlib.Core.Path.{◌≡◌, sym, ap, ◌∙◌}
use mathlib.Core.Bool.{true, false, cond}
use mathlib.Core.Logic.{◌⊎◌, inl, inr}
use mathlib.Core.List.{List}
use Prim.Native.Nat.{ℕ, ◌+◌, ◌≤◌, ◌<◌, min}
use native.Mathlib.Nat.{min-eq_left}
use native.Mathlib.Omega.{arith}
use lib.Dec.{leb}
use lib.ListN.{length, get_or-eq_default}
use borrow.Author.Tests.{leb-true, le-leb, lt-leb}
use Rattle.lists.proofs.Tests.{way}
use Rattle.prefix.specs.declared.Prefix.{Prefix}
use Rattle.octets.specs.Octets.{prefix_size, len_at, prefix_from, prefix_at}
use Rattle.octets.specs.Taken.{taken_at}
use Rattle.std.proofs.Common.{Ok, Err}
use Rattle.octets.specs.declared.NoPrefix.TheVariants.{Long, Cut}

-- from the bytes after its length, which is none above w
pub prefix_is : (w : ℕ) (bytes : List ℕ) (at len : ℕ) → len ≡ len_at bytes at → len ≤ w
    → prefix_from w bytes (at + 1) (min len w) ≡ prefix_at w bytes at
prefix_is w bytes at len len_is short = ap (prefix_from w bytes (at + 1)) (min-eq_left short ∙ len_is)

module _ (w : ℕ) (bytes : List ℕ) (at : ℕ) where
  -- no byte is left
  pub taken_past : length bytes ≤ at → (Err Cut) ≡ taken_at w bytes at
  unfolding taken_at
  taken_past h =
      let none : len_at bytes at ≡ 0 = get_or-eq_default bytes 0 h in
      simp (none, le-leb 0 w (omega arith), lt-leb (at + prefix_size 0) (length bytes) (omega arith))

  module _ (len : ℕ) (len_is : len ≡ len_at bytes at) where
    pub taken_long : w < len → (Err Long) ≡ taken_at w bytes at
    unfolding taken_at
    taken_long h = simp (lt-leb (len_at bytes at) w (rw len_is at h))

    module _ (short : len ≤ w) (k : ℕ) (k-is : k ≡ prefix_size len) where
      size_is : k ≡ prefix_size (len_at bytes at)
      size_is = k-is ∙ ap (λ (l : ℕ). prefix_size l) len_is

      pub taken_cut : length bytes < at + k → (Err Cut) ≡ taken_at w bytes at
      unfolding taken_at
      taken_cut h =
          simp (le-leb (len_at bytes at) w (rw len_is at short), lt-leb (at + prefix_size (len_at bytes at)) (length bytes) (rw size_is at h))

      pub taken_whole : at + k ≤ length bytes → (p : Prefix) → p ≡ prefix_at w bytes at → Ok p ≡ taken_at w bytes at
      unfolding taken_at
      taken_whole h p p_is =
          ap Ok p_is
          ∙ sym (simp (le-leb (len_at bytes at) w (rw len_is at short), le-leb (at + prefix_size (len_at bytes at)) (length bytes) (rw size_is at h)))

-- what is known where a prefix is taken whole
pub record TakenWhole (w : ℕ) (bytes : List ℕ) (at : ℕ) (p : Prefix) : Type 0 where
  pub is : p ≡ prefix_at w bytes at
  pub short : len_at bytes at ≤ w
  pub uncut : at + prefix_size (len_at bytes at) ≤ length bytes

pub whole_taken : (w : ℕ) (bytes : List ℕ) (at : ℕ) (p : Prefix) → taken_at w bytes at ≡ Ok p → TakenWhole w bytes at p
unfolding taken_at
whole_taken w bytes at p = go (way (leb (len_at bytes at) w)) (way (leb (at + prefix_size (len_at bytes at)) (length bytes)))
  where
    go : (leb (len_at bytes at) w ≡ true) ⊎ (leb (len_at bytes at) w ≡ false)
        → (leb (at + prefix_size (len_at bytes at)) (length bytes) ≡ true) ⊎ (leb (at + prefix_size (len_at bytes at)) (length bytes) ≡ false)
        → cond (leb (len_at bytes at) w)
        (cond (leb (at + prefix_size (len_at bytes at)) (length bytes)) (Ok (prefix_at w bytes at)) (Err Cut)) (Err Long)
        ≡ Ok p
        → TakenWhole w bytes at p
    go (inl a) (inl b) e =
        let s : Ok (prefix_at w bytes at) ≡ Ok p = rw (a, b) at e in
        let n : p ≡ prefix_at w bytes at = cc in
        record { is = n; short = leb-true (len_at bytes at) w a; uncut = leb-true (at + prefix_size (len_at bytes at)) (length bytes) b }
    go (inl a) (inr b) e =
        let s : (Err Cut) ≡ Ok p = rw (a, b) at e in
        let z : ◌≡◌ {A = ℕ} 0 1 = cc in
        absurd (omega arith)
    go (inr a) b e =
        let s : (Err Long) ≡ Ok p = rw a at e in
        let z : ◌≡◌ {A = ℕ} 0 1 = cc in
        absurd (omega arith)
