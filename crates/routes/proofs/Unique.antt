-- Any two results that a promise of this crate allows coincide. Assumes nothing.
use mathlib.Core.Path.{sym, ◌∙◌}
use Rattle.promise.specs.Determined.{Determined}
use Rattle.refusals.proofs.Numbers.{fault_number_one, checked_one, answered_one}
use Rattle.routes.proofs.is_port.Reads as is_port_reads
use Rattle.routes.proofs.is_port.Kinds as is_port_kinds
use Rattle.routes.proofs.prefix_fault.Reads as prefix_fault_reads
use Rattle.routes.proofs.prefix_fault.Kinds as prefix_fault_kinds
use Rattle.routes.proofs.route_fault.Reads as route_fault_reads
use Rattle.routes.proofs.route_fault.Kinds as route_fault_kinds
use Rattle.routes.proofs.route_at.Reads as route_at_reads
use Rattle.routes.proofs.route_at.Kinds as route_at_kinds
use Rattle.routes.proofs.check_list.Reads as check_list_reads
use Rattle.routes.proofs.check_list.Kinds as check_list_kinds
use Rattle.routes.proofs.scan_list.Reads as scan_list_reads
use Rattle.routes.proofs.scan_list.Kinds as scan_list_kinds
use Rattle.routes.proofs.Route.prefix.Kinds as prefix_kinds
use Rattle.routes.proofs.Route.prefix.Reads as prefix_reads
use Rattle.routes.proofs.store_route.Kinds as store_route_kinds
use Rattle.routes.proofs.store_route.Reads as store_route_reads

is_port_unique : Determined 0 is_port_kinds.ps is_port_kinds.r is_port_reads.Post (λ κs x s. x)
is_port_unique κs a x y s t p q = p ∙ sym q

prefix_fault_unique : Determined 0 prefix_fault_kinds.ps prefix_fault_kinds.r prefix_fault_reads.Post (λ κs x s. x)
prefix_fault_unique κs a x y s t p q = fault_number_one x y (p ∙ sym q)

route_fault_unique : Determined 0 route_fault_kinds.ps route_fault_kinds.r route_fault_reads.Post (λ κs x s. x)
route_fault_unique κs a x y s t p q = fault_number_one x y (p ∙ sym q)

route_at_unique : Determined 1 route_at_kinds.ps route_at_kinds.r route_at_reads.Post (λ κs x s. x)
route_at_unique κs a x y s t p q = p ∙ sym q

check_list_unique : Determined 1 check_list_kinds.ps check_list_kinds.r check_list_reads.Post (λ κs x s. x)
check_list_unique κs a x y s t p q = checked_one x y (p ∙ sym q)

scan_list_unique : Determined 1 scan_list_kinds.ps scan_list_kinds.r scan_list_reads.Post (λ κs x s. x)
scan_list_unique κs a x y s t p q = answered_one x y (p ∙ sym q)

prefix_unique : Determined 0 prefix_kinds.ps prefix_kinds.r prefix_reads.Post (λ κs x s. x)
prefix_unique κs a x y s t p q = p ∙ sym q

store_route_unique : Determined 1 store_route_kinds.ps store_route_kinds.r store_route_reads.Post (λ κs x s. s.0.now)
store_route_unique κs a x y s t p q = p ∙ sym q
