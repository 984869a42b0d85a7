-- Any two results that a promise of this crate allows coincide. Assumes nothing.
use mathlib.Core.Path.{sym, ◌∙◌}
use Rattle.promise.specs.Determined.{Determined}
use Rattle.entries.proofs.fill.Kinds as fill_kinds
use Rattle.entries.proofs.fill.Reads as fill_reads

fill_unique : Determined 1 fill_kinds.ps fill_kinds.r fill_reads.Post (λ κs x s. s.0.now)
fill_unique κs a x y s t p q = p ∙ sym q
