-- Any two results that a promise of this crate allows coincide. Assumes nothing.
use mathlib.Core.Path.{sym, ◌∙◌}
use Rattle.promise.specs.Determined.{Determined}
use Rattle.image_count.proofs.count_nodes.Kinds as count_nodes_kinds
use Rattle.image_count.proofs.count_nodes.Reads as count_nodes_reads

count_nodes_unique : Determined 1 count_nodes_kinds.ps count_nodes_kinds.r count_nodes_reads.Post (λ κs x s. x)
count_nodes_unique κs a x y s t p q = p ∙ sym q
