-- Any two results that a promise of this crate allows coincide. Assumes nothing.
use Rattle.std.proofs.Common.{sym, ◌∙◌}
use Rattle.promise.specs.Determined.{Determined}
use Rattle.image_numbers.proofs.Node.plus.Kinds as plus_kinds
use Rattle.image_numbers.proofs.Node.plus.Reads as plus_reads
use Rattle.image_numbers.proofs.Node.to.Kinds as to_kinds
use Rattle.image_numbers.proofs.Node.to.Reads as to_reads
use Rattle.image_numbers.proofs.Leaf.after.Kinds as after_kinds
use Rattle.image_numbers.proofs.Leaf.after.Reads as after_reads
use Rattle.image_numbers.proofs.wide.Kinds as wide_kinds
use Rattle.image_numbers.proofs.wide.Reads as wide_reads
use Rattle.image_numbers.proofs.is_stride.Kinds as is_stride_kinds
use Rattle.image_numbers.proofs.is_stride.Reads as is_stride_reads
use Rattle.image_numbers.proofs.slots_of.Kinds as slots_of_kinds
use Rattle.image_numbers.proofs.slots_of.Reads as slots_of_reads

plus_unique : Determined 0 plus_kinds.ps plus_kinds.r plus_reads.Post (λ κs x s. x)
plus_unique κs a x y s t p q = λ i. record { 0 = (p ∙ sym q) i }

to_unique : Determined 0 to_kinds.ps to_kinds.r to_reads.Post (λ κs x s. x)
to_unique κs a x y s t p q = λ i. record { 0 = (p ∙ sym q) i }

after_unique : Determined 0 after_kinds.ps after_kinds.r after_reads.Post (λ κs x s. x)
after_unique κs a x y s t p q = λ i. record { 0 = (p ∙ sym q) i }

wide_unique : Determined 0 wide_kinds.ps wide_kinds.r wide_reads.Post (λ κs x s. x)
wide_unique κs a x y s t p q = p.0 ∙ sym q.0

is_stride_unique : Determined 0 is_stride_kinds.ps is_stride_kinds.r is_stride_reads.Post (λ κs x s. x)
is_stride_unique κs a x y s t p q = p ∙ sym q

slots_of_unique : Determined 0 slots_of_kinds.ps slots_of_kinds.r slots_of_reads.Post (λ κs x s. x)
slots_of_unique κs a x y s t p q = p.0 ∙ sym q.0
