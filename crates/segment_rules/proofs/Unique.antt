-- Any two results that a promise of this crate allows coincide. Assumes nothing.
use mathlib.Core.Path.{sym, ◌∙◌}
use Rattle.promise.specs.Determined.{Determined}
use Rattle.segment_rules.proofs.ones_through.Kinds as ones_through_kinds
use Rattle.segment_rules.proofs.ones_through.Reads as ones_through_reads

ones_through_unique : Determined 0 ones_through_kinds.ps ones_through_kinds.r ones_through_reads.Post (λ κs x s. x)
ones_through_unique κs a x y s t p q = p.0 ∙ sym q.0
