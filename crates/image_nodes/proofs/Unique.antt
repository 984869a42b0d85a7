-- Any two results that a promise of this crate allows coincide; of stored words, the memory that is left. Assumes nothing.
use mathlib.Core.Path.{sym, ◌∙◌}
use Rattle.promise.specs.Determined.{Determined}
use Rattle.image_nodes.proofs.node_count.Kinds as node_count_kinds
use Rattle.image_nodes.proofs.node_count.Reads as node_count_reads
use Rattle.image_nodes.proofs.bitmap_of.Kinds as bitmap_of_kinds
use Rattle.image_nodes.proofs.bitmap_of.Reads as bitmap_of_reads
use Rattle.image_nodes.proofs.next_of.Kinds as next_of_kinds
use Rattle.image_nodes.proofs.next_of.Reads as next_of_reads
use Rattle.image_nodes.proofs.node_at.Kinds as node_at_kinds
use Rattle.image_nodes.proofs.node_at.Reads as node_at_reads
use Rattle.image_nodes.proofs.store_node.Kinds as store_node_kinds
use Rattle.image_nodes.proofs.store_node.Reads as store_node_reads

node_count_unique : Determined 1 node_count_kinds.ps node_count_kinds.r node_count_reads.Post (λ κs x s. x)
node_count_unique κs a x y s t p q = p ∙ sym q

bitmap_of_unique : Determined 1 bitmap_of_kinds.ps bitmap_of_kinds.r bitmap_of_reads.Post (λ κs x s. x)
bitmap_of_unique κs a x y s t p q = p ∙ sym q

next_of_unique : Determined 1 next_of_kinds.ps next_of_kinds.r next_of_reads.Post (λ κs x s. x)
next_of_unique κs a x y s t p q = λ i. record { 0 = (p.0 ∙ sym q.0) i }

node_at_unique : Determined 1 node_at_kinds.ps node_at_kinds.r node_at_reads.Post (λ κs x s. x)
node_at_unique κs a x y s t p q = p ∙ sym q

store_node_unique : Determined 1 store_node_kinds.ps store_node_kinds.r store_node_reads.Post (λ κs x s. s.0.now)
store_node_unique κs a x y s t p q = p ∙ sym q
