-- A node still to do in the two words of its node: it fits, and it is read back as it was. Assumes nothing.
use mathlib.Core.Path.{◌≡◌, ap, ◌∙◌}
use mathlib.Core.List.{List}
use Prim.Native.Nat.{ℕ, suc, ◌+◌, ◌-◌, ◌≤◌, ◌<◌}
use native.Mathlib.Omega.{arith}
use lib.Arith.{digits_div, digits_mod}
use lib.Dec.{ltb, leb}
use lib.ListN.{length, set, get_or, length-set}
use lib.Seq.{get_or-set_same, get_or-set_other}
use borrow.Author.Tests.{ltb-true, leb-true}
use Rattle.lists.proofs.Tests.{both}
use Rattle.image_rules.specs.Node.{node_count, node_start, bitmap_of, offset_of, store_nodes}
use Rattle.image_stretch.specs.declared.Stretch.{Stretch}
use Rattle.image_stretch.specs.Memory.{in_halves, high_half, low_half, pending, pending_at}
use Rattle.image_stretch.specs.Needs.{Fits}
use Rattle.image_stretch.specs.Theorems.{PendingFits, PendingBack}

pub pending_fits : PendingFits
pending_fits x fits deep = (omega (arith, fits.ordered, fits.rows_fit), omega (arith, fits.port_fits))

-- where its words stand
pub read_back : (nodes : List ℕ) (a : ℕ) (x : Stretch) → Fits x → bitmap_of nodes a ≡ in_halves x.lo x.hi
    → offset_of nodes a ≡ in_halves x.depth x.best → pending_at nodes a ≡ x
read_back nodes a x fits p q =
    let lo = ap high_half p ∙ digits_div x.lo fits.rows_fit in
    let hi = ap low_half p ∙ digits_mod x.lo fits.rows_fit in
    let depth = ap high_half q ∙ digits_div x.depth fits.port_fits in
    let best = ap low_half q ∙ digits_mod x.depth fits.port_fits in
    λ j. record { lo = lo j; hi = hi j; depth = depth j; best = best j }

pub pending_back : PendingBack
pending_back nodes a x t fits =
    let b = both (ltb 0 a) (leb a (node_count nodes)) t in
    let some : 0 < a = ltb-true 0 a b.0 in
    let most : a ≤ node_count nodes = leb-true a (node_count nodes) b.1 in
    let s : ℕ = node_start a in
    let w : ℕ = in_halves x.lo x.hi in
    let v : ℕ = in_halves x.depth x.best in
    let first : s < length nodes = omega arith in
    let second : suc s < length (set nodes s w) = omega (arith, length-set nodes s w) in
    let other : (s ≡ suc s → ⊥) = λ e. omega (arith, e) in
    let at : s + 1 ≡ suc s = omega arith in
    read_back (store_nodes nodes a (pending x)) a x fits
    (get_or-set_other (set nodes s w) (suc s) s v 0 other ∙ get_or-set_same nodes s w 0 first)
    (ap (λ (i : ℕ). get_or (store_nodes nodes a (pending x)) i 0) at ∙ get_or-set_same (set nodes s w) (suc s) v 0 second)
