-- Any two results that a promise of this crate allows coincide. Assumes nothing.
use mathlib.Core.Path.{sym, ◌∙◌}
use Rattle.promise.specs.Determined.{Determined}
use Rattle.list_insert.proofs.insert_route.Kinds as insert_route_kinds
use Rattle.list_insert.proofs.insert_route.Reads as insert_route_reads

insert_route_unique : Determined 1 insert_route_kinds.ps insert_route_kinds.r insert_route_reads.Post (λ κs x s. s.0.now)
insert_route_unique κs a x y s t p q = p ∙ sym q
