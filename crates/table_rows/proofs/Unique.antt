-- Any two results that a promise of this crate allows coincide; of a stored row, the words that are left. Assumes nothing.
use mathlib.Core.Path.{sym, ◌∙◌}
use Rattle.promise.specs.Determined.{Determined}
use Rattle.table_rows.proofs.capacity_of.Kinds as capacity_of_kinds
use Rattle.table_rows.proofs.capacity_of.Reads as capacity_of_reads
use Rattle.table_rows.proofs.whole_row.Kinds as whole_row_kinds
use Rattle.table_rows.proofs.whole_row.Reads as whole_row_reads
use Rattle.table_rows.proofs.row_at.Kinds as row_at_kinds
use Rattle.table_rows.proofs.row_at.Reads as row_at_reads
use Rattle.table_rows.proofs.store_row.Kinds as store_row_kinds
use Rattle.table_rows.proofs.store_row.Reads as store_row_reads
use Rattle.table_rows.proofs.prefix_of.Kinds as prefix_of_kinds
use Rattle.table_rows.proofs.prefix_of.Reads as prefix_of_reads
use Rattle.table_rows.proofs.route_of.Kinds as route_of_kinds
use Rattle.table_rows.proofs.route_of.Reads as route_of_reads

capacity_of_unique : Determined 1 capacity_of_kinds.ps capacity_of_kinds.r capacity_of_reads.Post (λ κs x s. x)
capacity_of_unique κs a x y s t p q = p ∙ sym q

whole_row_unique : Determined 1 whole_row_kinds.ps whole_row_kinds.r whole_row_reads.Post (λ κs x s. x)
whole_row_unique κs a x y s t p q = p ∙ sym q

row_at_unique : Determined 1 row_at_kinds.ps row_at_kinds.r row_at_reads.Post (λ κs x s. x)
row_at_unique κs a x y s t p q = p ∙ sym q

store_row_unique : Determined 1 store_row_kinds.ps store_row_kinds.r store_row_reads.Post (λ κs x s. s.0.now)
store_row_unique κs a x y s t p q = p ∙ sym q

prefix_of_unique : Determined 0 prefix_of_kinds.ps prefix_of_kinds.r prefix_of_reads.Post (λ κs x s. x)
prefix_of_unique κs a x y s t p q = p ∙ sym q

route_of_unique : Determined 0 route_of_kinds.ps route_of_kinds.r route_of_reads.Post (λ κs x s. x)
route_of_unique κs a x y s t p q = p ∙ sym q
