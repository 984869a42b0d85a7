-- The walk through a part, prefix by prefix: what is left after one, and where it ends. Assumes nothing.
use mathlib.Core.Path.{◌≡◌, refl, sym, ap, ◌∙◌, subst}
use mathlib.Core.Bool.{cond}
use mathlib.Core.List.{List, [], ◌∷◌}
use Prim.Native.Nat.{ℕ, zero, suc, ◌+◌, ◌-◌, ◌%◌, ◌≤◌, ◌<◌}
use native.Mathlib.Omega.{arith}
use lib.Dec.{eqb, ltb}
use lib.ListN.{length}
use borrow.Author.Tests.{lt-ltb, le-ltb}
use Rattle.bits.specs.Prefix.{Valid}
use Rattle.prefix.specs.declared.Prefix.{Prefix}
use Rattle.refusals.specs.Refusals.{long_prefix, bad_message, refused, accepted}
use Rattle.refusals.specs.declared.Answer.{Answer}
use Rattle.octets.specs.Bytes.{Bytes}
use Rattle.octets.specs.Octets.{prefix_size, len_at}
use Rattle.octets.specs.Taken.{taken_at}
use Rattle.octets.specs.Taken.{Taken}
use Rattle.std.proofs.Common.{Ok, Err}
use Rattle.octets.specs.declared.NoPrefix.{NoPrefix}
use Rattle.octets.specs.declared.NoPrefix.TheVariants.{Long, Cut}
use Rattle.octets.proofs.TakeReturns.{taken_past, whole_taken}
use Rattle.octets.proofs.Prefixes.{prefix_valid}
use Rattle.message_rules.specs.Message.{ahead, prefixes_from, prefixes_after, AllValid}
use Rattle.message_rules.specs.Check.{fault_of, part_from}

module _ (w : ℕ) (part : List ℕ) where
  -- past the end there are none
  prefixes_past : (k at : ℕ) → length part ≤ at → prefixes_from w part k at ≡ []
  unfolding prefixes_from
  prefixes_past zero at h = refl
  prefixes_past (suc k) at h =
      ap (λ (t : Taken). ahead t (prefixes_from w part k (at + prefix_size (len_at part at)))) (sym (taken_past w part at h))

  -- any number that is enough will do
  prefixes_enough : (k m at : ℕ) → length part ≤ at + k → length part ≤ at + m → prefixes_from w part k at ≡ prefixes_from w part m at
  unfolding prefixes_from
  prefixes_enough zero m at h g = sym (prefixes_past m at (omega arith))
  prefixes_enough (suc k) zero at h g = prefixes_past (suc k) at (omega arith)
  prefixes_enough (suc k) (suc m) at h g =
      ap (ahead (taken_at w part at)) (prefixes_enough k m (at + prefix_size (len_at part at)) (omega arith) (omega arith))

  prefixes_next : (at : ℕ) → prefixes_after w part at ≡ ahead (taken_at w part at) (prefixes_after w part (at + prefix_size (len_at part at)))
  unfolding prefixes_from
  prefixes_next at =
      let next = at + prefix_size (len_at part at) in
      prefixes_enough (length part - at) (suc (length part)) at (omega arith) (omega arith)
      ∙ ap (ahead (taken_at w part at)) (prefixes_enough (length part) (length part - next) next (omega arith) (omega arith))

  pub prefixes_whole : (at : ℕ) (p : Prefix) → taken_at w part at ≡ Ok p → prefixes_after w part at ≡ p ∷ prefixes_after w part (at + prefix_size p.len)
  prefixes_whole at p e =
      prefixes_next at ∙ ap (λ (t : Taken). ahead t (prefixes_after w part (at + prefix_size (len_at part at)))) e
      ∙ ap (λ (l : ℕ). p ∷ prefixes_after w part (at + prefix_size l)) (sym (ap (λ (q : Prefix). q.len) (whole_taken w part at p e).is))

  pub prefixes_long : (at : ℕ) → taken_at w part at ≡ (Err Long) → prefixes_after w part at ≡ []
  prefixes_long at e = prefixes_next at ∙ ap (λ (t : Taken). ahead t (prefixes_after w part (at + prefix_size (len_at part at)))) e

  pub prefixes_cut : (at : ℕ) → taken_at w part at ≡ (Err Cut) → prefixes_after w part at ≡ []
  prefixes_cut at e = prefixes_next at ∙ ap (λ (t : Taken). ahead t (prefixes_after w part (at + prefix_size (len_at part at)))) e

  pub prefixes_stop : (at : ℕ) (none : NoPrefix) → taken_at w part at ≡ Err none → prefixes_after w part at ≡ []
  prefixes_stop at Long e = prefixes_long at e
  prefixes_stop at Cut e = prefixes_cut at e

  pub prefixes_end : (at : ℕ) → length part ≤ at → prefixes_after w part at ≡ []
  prefixes_end at h = prefixes_past (length part - at) at h

  -- each prefix takes a byte or more
  pub length_prefixes : (k at : ℕ) → length (prefixes_from w part k at) ≤ k
  unfolding prefixes_from
  length_prefixes zero at = omega arith
  length_prefixes (suc k) at = by (taken_at w part at) (length_prefixes k (at + prefix_size (len_at part at)))
    where
      by : (t : Taken) → length (prefixes_from w part k (at + prefix_size (len_at part at))) ≤ k
          → length (ahead t (prefixes_from w part k (at + prefix_size (len_at part at)))) ≤ suc k
      by (Ok p) h = omega arith
      by (Err Long) h = omega arith
      by (Err Cut) h = omega arith

  -- and all are valid
  pub valid_prefixes : w % 8 ≡ 0 → Bytes part → (k at : ℕ) → AllValid w (prefixes_from w part k at)
  unfolding prefixes_from AllValid
  valid_prefixes whole bytes zero at = tt
  valid_prefixes whole bytes (suc k) at = by (taken_at w part at) refl (valid_prefixes whole bytes k (at + prefix_size (len_at part at)))
    where
      by : (t : Taken) → taken_at w part at ≡ t → AllValid w (prefixes_from w part k (at + prefix_size (len_at part at)))
          → AllValid w (ahead t (prefixes_from w part k (at + prefix_size (len_at part at))))
      by (Ok p) e ih =
          let h = whole_taken w part at p e in (subst (λ (q : Prefix). Valid w q.value q.len) (sym h.is) (prefix_valid w part at bytes h.uncut whole h.short), ih)
      by (Err Long) e ih = tt
      by (Err Cut) e ih = tt

  module _ (from : ℕ) where
    abbrev pub part_after : ℕ → Answer
    part_after at = part_from w part from (length part - at) at

    part_past : (k at : ℕ) → length part ≤ at → part_from w part from k at ≡ accepted 0
    unfolding part_from
    part_past zero at h = refl
    part_past (suc k) at h = rw (le-ltb at (length part) h)

    part_enough : (k m at : ℕ) → length part ≤ at + k → length part ≤ at + m → part_from w part from k at ≡ part_from w part from m at
    unfolding part_from
    part_enough zero m at h g = sym (part_past m at (omega arith))
    part_enough (suc k) zero at h g = part_past (suc k) at (omega arith)
    part_enough (suc k) (suc m) at h g =
        ap
        (λ (a : Answer).
        cond (ltb at (length part))
        (cond (eqb (fault_of (taken_at w part at)) 0) a (refused (fault_of (taken_at w part at)) (from + at)))
        (accepted 0))
        (part_enough k m (at + prefix_size (len_at part at)) (omega arith) (omega arith))

    pub part_next : (at : ℕ) → at < length part
        → part_after at
        ≡ cond (eqb (fault_of (taken_at w part at)) 0) (part_after (at + prefix_size (len_at part at))) (refused (fault_of (taken_at w part at)) (from + at))
    unfolding part_from
    part_next at h =
        let next = at + prefix_size (len_at part at) in
        part_enough (length part - at) (suc (length part)) at (omega arith) (omega arith)
        ∙ rw (lt-ltb at (length part) h, part_enough (length part) (length part - next) next (omega arith) (omega arith))

    pub part_whole : (at : ℕ) (p : Prefix) → taken_at w part at ≡ Ok p → part_after at ≡ part_after (at + prefix_size p.len)
    part_whole at p e =
        let h = whole_taken w part at p e in
        part_next at (omega (arith, h.uncut))
        ∙ ap (λ (t : Taken). cond (eqb (fault_of t) 0) (part_after (at + prefix_size (len_at part at))) (refused (fault_of t) (from + at))) e
        ∙ ap (λ (l : ℕ). part_after (at + prefix_size l)) (sym (ap (λ (q : Prefix). q.len) h.is))

    pub part_long : (at : ℕ) → at < length part → taken_at w part at ≡ (Err Long) → part_after at ≡ refused long_prefix (from + at)
    part_long at h e =
        part_next at h
        ∙ ap (λ (t : Taken). cond (eqb (fault_of t) 0) (part_after (at + prefix_size (len_at part at))) (refused (fault_of t) (from + at))) e

    pub part_cut : (at : ℕ) → at < length part → taken_at w part at ≡ (Err Cut) → part_after at ≡ refused bad_message (from + at)
    part_cut at h e =
        part_next at h
        ∙ ap (λ (t : Taken). cond (eqb (fault_of t) 0) (part_after (at + prefix_size (len_at part at))) (refused (fault_of t) (from + at))) e

    pub part_end : (at : ℕ) → length part ≤ at → part_after at ≡ accepted 0
    part_end at h = part_past (length part - at) at h
