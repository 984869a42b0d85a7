-- Any two results that a promise of this crate allows coincide. Assumes nothing.
use mathlib.Core.Path.{sym, ◌∙◌}
use Rattle.promise.specs.Determined.{Determined}
use Rattle.promise.specs.Over.{outcome}
use Rattle.segment_ports.proofs.fill_ports.Kinds as fill_ports_kinds
use Rattle.segment_ports.proofs.fill_ports.Reads as fill_ports_reads

fill_ports_unique : Determined 2 fill_ports_kinds.ps fill_ports_kinds.r fill_ports_reads.Post (λ κs x s. outcome x s.0.now)
fill_ports_unique κs a x y s t p q = p ∙ sym q
