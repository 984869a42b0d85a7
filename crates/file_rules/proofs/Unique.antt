-- Any two results that a promise of this crate allows coincide. Assumes nothing.
use mathlib.Core.Path.{sym, ◌∙◌}
use Rattle.promise.specs.Determined.{Determined}
use Rattle.file_rules.proofs.route_size.Kinds as route_size_kinds
use Rattle.file_rules.proofs.route_size.Reads as route_size_reads

route_size_unique : Determined 0 route_size_kinds.ps route_size_kinds.r route_size_reads.Post (λ κs x s. x)
route_size_unique κs a x y s t p q = p.is ∙ sym q.is
