-- The offsets of a part's prefixes: a prefix without a fault stands whole, and those of a whole part are its prefixes. Assumes nothing.
use mathlib.Core.Path.{◌≡◌, refl, sym, ap, ◌∙◌}
use mathlib.Core.Logic.{◌⊎◌, inl, inr}
use mathlib.Core.List.{List, ◌∷◌}
use Prim.Native.Nat.{ℕ, zero, suc, ◌+◌}
use native.Mathlib.Omega.{arith}
use native.Mathlib.Numerals.{add-one}
use native.Mathlib.Nat.{sub-zero}
use lib.ListN.{length}
use Rattle.lists.specs.Numbered.{list_of}
use Rattle.prefix.specs.declared.Prefix.{Prefix}
use Rattle.refusals.specs.Refusals.{long_prefix, bad_message}
use Rattle.octets.specs.Octets.{prefix_size, len_at, prefix_at}
use Rattle.octets.specs.Taken.{taken_at}
use Rattle.octets.specs.Taken.{Taken}
use Rattle.std.proofs.Common.{Ok, Err}
use Rattle.octets.specs.declared.NoPrefix.TheVariants.{Long, Cut}
use Rattle.octets.proofs.TakeReturns.{TakenWhole, taken_long, taken_cut, taken_whole, whole_taken}
use Rattle.message_rules.specs.Message.{prefixes_from}
use Rattle.message_rules.specs.Check.{fault_of}
use Rattle.message_rules.specs.Faults.{offset_of, WholePart}
use Rattle.message_rules.specs.Theorems.{PrefixFaults, PrefixesAre}
use Rattle.message_rules.proofs.Walk.{prefixes_whole, prefixes_end}
use Rattle.message_rules.specs.Message.{prefixes_after}

pub offset_none : (part : List ℕ) → offset_of part 0 ≡ 0
unfolding offset_of
offset_none part = refl

pub offset_more : (part : List ℕ) (i : ℕ) → offset_of part (i + 1) ≡ offset_of part i + prefix_size (len_at part (offset_of part i))
unfolding offset_of
offset_more part i = rw (add-one i)

-- the fault of a prefix, by its length and where it ends
pub prefix_faults : PrefixFaults
prefix_faults w part at = (
  λ long. ap (λ (t : Taken). fault_of t) (sym (taken_long w part at (len_at part at) refl long)),
  λ short cut. ap (λ (t : Taken). fault_of t) (sym (taken_cut w part at (len_at part at) refl short (prefix_size (len_at part at)) refl cut)),
  λ short uncut.
      ap (λ (t : Taken). fault_of t)
      (sym (taken_whole w part at (len_at part at) refl short (prefix_size (len_at part at)) refl uncut (prefix_at w part at) refl)),
)

-- the faults are 4 and 14
pub fault_number : (t : Taken) → (fault_of t ≡ 0) ⊎ ((fault_of t ≡ long_prefix) ⊎ (fault_of t ≡ bad_message))
fault_number (Ok p) = inl refl
fault_number (Err Long) = inr (inl refl)
fault_number (Err Cut) = inr (inr refl)

module _ (w : ℕ) (part : List ℕ) where
  -- without a fault it stands whole
  pub sound_whole : (at : ℕ) → fault_of (taken_at w part at) ≡ 0 → TakenWhole w part at (prefix_at w part at)
  sound_whole at = go (taken_at w part at) refl
    where
      go : (t : Taken) → taken_at w part at ≡ t → fault_of t ≡ 0 → TakenWhole w part at (prefix_at w part at)
      go (Ok p) e z =
          let h = whole_taken w part at p e in record { is = refl; short = h.short; uncut = h.uncut }
      go (Err Long) e z = absurd (omega (arith, z))
      go (Err Cut) e z = absurd (omega (arith, z))

  pub sound_taken : (at : ℕ) → fault_of (taken_at w part at) ≡ 0 → taken_at w part at ≡ Ok (prefix_at w part at)
  sound_taken at z =
      let h = sound_whole at z in
      sym (taken_whole w part at (len_at part at) refl h.short (prefix_size (len_at part at)) refl h.uncut (prefix_at w part at) refl)

-- from prefix i of a whole part on
prefixes_from_lem : (w : ℕ) (part : List ℕ) (n : ℕ) → WholePart w part n → (k i : ℕ) → i + k ≡ n
    → prefixes_after w part (offset_of part i) ≡ list_of (λ j. prefix_at w part (offset_of part j)) k i
unfolding list_of
prefixes_from_lem w part n ok zero i e =
    let z : i ≡ n = omega arith in prefixes_end w part (offset_of part i) (rw z (omega (arith, ok.end)))
prefixes_from_lem w part n ok (suc k) i e =
    let at = offset_of part i in
    prefixes_whole w part at (prefix_at w part at) (sound_taken w part at (ok.none i (omega arith)))
    ∙ ap (λ (ps : List Prefix). prefix_at w part at ∷ ps)
    (ap (prefixes_after w part) (sym (offset_more part i)) ∙ prefixes_from_lem w part n ok k (i + 1) (omega arith))

pub prefixes_are : PrefixesAre
prefixes_are w part n ok =
    ap (λ (k : ℕ). prefixes_from w part k 0) (sym (sub-zero (length part)))
    ∙ ap (prefixes_after w part) (sym (offset_none part)) ∙ prefixes_from_lem w part n ok n 0 (omega arith)
