-- Any two outcomes that a promise of this crate allows coincide: the answer, or the words that are left. Assumes nothing.
use mathlib.Core.Path.{sym, ◌∙◌}
use Rattle.promise.specs.Determined.{Determined}
use Rattle.table_change.proofs.sinking.is_held.Kinds as is_held_kinds
use Rattle.table_change.proofs.sinking.is_held.Reads as is_held_reads
use Rattle.table_change.proofs.sinking.put_route.Kinds as put_route_kinds
use Rattle.table_change.proofs.sinking.put_route.Reads as put_route_reads
use Rattle.table_change.proofs.refilling.take_route.Kinds as take_route_kinds
use Rattle.table_change.proofs.refilling.take_route.Reads as take_route_reads

is_held_unique : Determined 1 is_held_kinds.ps is_held_kinds.r is_held_reads.Post (λ κs x s. x)
is_held_unique κs a x y s t p q = p ∙ sym q

put_route_unique : Determined 1 put_route_kinds.ps put_route_kinds.r put_route_reads.Post (λ κs x s. s.0.now)
put_route_unique κs a x y s t p q = p ∙ sym q

take_route_unique : Determined 1 take_route_kinds.ps take_route_kinds.r take_route_reads.Post (λ κs x s. s.0.now)
take_route_unique κs a x y s t p q = p ∙ sym q
