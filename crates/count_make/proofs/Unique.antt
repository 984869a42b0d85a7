-- Any two outcomes that the promise of this crate allows coincide: the answer, and the counts that are left. Assumes nothing.
use mathlib.Core.Path.{sym, ◌∙◌}
use Rattle.promise.specs.Over.{outcome}
use Rattle.refusals.specs.Refusals.{checked}
use Rattle.refusals.proofs.Numbers.{told_one, checked_one}
use Rattle.promise.specs.Determined.{Determined}
use Rattle.count_make.proofs.make.Kinds as make_kinds
use Rattle.count_make.proofs.make.Reads as make_reads

-- the rows are read, and the counts are what the call may change
make_unique : Determined 2 make_kinds.ps make_kinds.r make_reads.Post (λ κs x s. outcome x s.1.1.0.now)
make_unique κs a x y s t p q = told_one checked checked_one x y _ _ (p ∙ sym q)
