-- Any two results that a promise of this crate allows coincide, with the list that they leave. Assumes nothing.
use mathlib.Core.Path.{sym, ◌∙◌}
use Rattle.promise.specs.Determined.{Determined}
use Rattle.promise.specs.Over.{outcome}
use Rattle.refusals.specs.Refusals.{answered}
use Rattle.refusals.proofs.Numbers.{answered_one, told_one}
use Rattle.file_read.proofs.read_file.Kinds as read_file_kinds
use Rattle.file_read.proofs.read_file.Reads as read_file_reads

read_file_unique : Determined 2 read_file_kinds.ps read_file_kinds.r read_file_reads.Post (λ κs x s. outcome x s.1.0.now)
read_file_unique κs a x y s t p q = told_one answered answered_one x y _ _ (p ∙ sym q)
