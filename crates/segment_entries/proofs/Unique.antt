-- Any two results that a promise of this crate allows coincide. Assumes nothing.
use mathlib.Core.Path.{sym, ◌∙◌}
use mathlib.Core.List.{List}
use Prim.Native.Nat.{ℕ}
use Rattle.promise.specs.Determined.{Determined}
use Rattle.segment_entries.proofs.part_of.Kinds as part_of_kinds
use Rattle.segment_entries.proofs.part_of.Reads as part_of_reads
use Rattle.segment_entries.proofs.entries.Kinds as entries_kinds
use Rattle.segment_entries.proofs.entries.Reads as entries_reads

part_of_unique : Determined 0 part_of_kinds.ps part_of_kinds.r part_of_reads.Post (λ κs x s. x)
part_of_unique κs a x y s t p q = p.is ∙ sym q.is

-- the part's words, and where it lies
entries_unique : Determined 1 entries_kinds.ps entries_kinds.r entries_reads.Post {X = (ℕ × ℕ) × List ℕ} (λ κs x s. (x.ref_ptr, x.now))
entries_unique κs a x y s t p q = λ i. ((p.there ∙ sym q.there) i, (p.is ∙ sym q.is) i)
