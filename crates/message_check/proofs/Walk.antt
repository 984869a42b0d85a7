-- The walk of the check through a part, by offsets. Assumes nothing.
use mathlib.Core.Path.{◌≡◌, sym, ap, ◌∙◌}
use mathlib.Core.List.{List}
use Prim.Native.Nat.{ℕ, ◌+◌, ◌-◌, ◌≤◌, ◌<◌}
use native.Mathlib.Omega.{arith}
use lib.ListN.{length}
use Rattle.prefix.specs.declared.Prefix.{Prefix}
use Rattle.refusals.specs.Refusals.{refused, accepted}
use Rattle.octets.specs.Octets.{prefix_size}
use Rattle.octets.specs.Taken.{taken_at}
use Rattle.std.proofs.Common.{Ok, Err}
use Rattle.octets.specs.declared.NoPrefix.{NoPrefix}
use Rattle.octets.specs.declared.NoPrefix.TheVariants.{Long, Cut}
use Rattle.message_rules.specs.Check.{fault_of, part_from, part_check}
use Rattle.octets.proofs.TakeReturns.{whole_taken}
use Rattle.message_rules.proofs.Walk.{part_after, part_whole, part_long, part_cut, part_end}

-- no prefix before an offset is at fault
pub record Passed (w : ℕ) (part : List ℕ) (from at : ℕ) : Type 0 where
  pub within : at ≤ length part
  pub is : part_check w part from ≡ part_after w part from at

module _ (w : ℕ) (part : List ℕ) (from : ℕ) where
  pub passed_none : Passed w part from 0
  passed_none = record { within = omega arith; is = ap (λ (k : ℕ). part_from w part from k 0) (let e : length part ≡ length part - 0 = omega arith in e) }

  module _ (at : ℕ) (so : Passed w part from at) where
    pub passed_more : (p : Prefix) (k : ℕ) → taken_at w part at ≡ Ok p → k ≡ prefix_size p.len → Passed w part from (at + k)
    passed_more p k e k-is =
        let h = whole_taken w part at p e in
        let l = ap (λ (q : Prefix). prefix_size q.len) h.is in
        record {
          within = omega (arith, k-is, l, h.uncut);
          is = so.is ∙ part_whole w part from at p e ∙ ap (λ (j : ℕ). part_after w part from (at + j)) (sym k-is);
        }

    pub passed_stop : at < length part → (none : NoPrefix) → taken_at w part at ≡ Err none → refused (fault_of (Err none)) (from + at) ≡ part_check w part from
    passed_stop h Long e = sym (so.is ∙ part_long w part from at h e)
    passed_stop h Cut e = sym (so.is ∙ part_cut w part from at h e)

    pub passed_all : length part ≤ at → accepted 0 ≡ part_check w part from
    passed_all h = sym (so.is ∙ part_end w part from at h)
