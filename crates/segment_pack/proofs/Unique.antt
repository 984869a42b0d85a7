-- Any two results that a promise of this crate allows coincide. Assumes nothing.
use mathlib.Core.Path.{sym, ◌∙◌}
use Rattle.promise.specs.Determined.{Determined}
use Rattle.segment_pack.proofs.is_packed.Kinds as is_packed_kinds
use Rattle.segment_pack.proofs.is_packed.Reads as is_packed_reads
use Rattle.segment_pack.proofs.pack.Kinds as pack_kinds
use Rattle.segment_pack.proofs.pack.Reads as pack_reads
use Rattle.segment_pack.proofs.copy.Kinds as copy_kinds
use Rattle.segment_pack.proofs.copy.Reads as copy_reads

is_packed_unique : Determined 1 is_packed_kinds.ps is_packed_kinds.r is_packed_reads.Post (λ κs x s. x)
is_packed_unique κs a x y s t p q = p ∙ sym q

pack_unique : Determined 2 pack_kinds.ps pack_kinds.r pack_reads.Post (λ κs x s. s.0.now)
pack_unique κs a x y s t p q = p ∙ sym q

copy_unique : Determined 2 copy_kinds.ps copy_kinds.r copy_reads.Post (λ κs x s. s.0.now)
copy_unique κs a x y s t p q = p ∙ sym q
