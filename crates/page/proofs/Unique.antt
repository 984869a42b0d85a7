-- Any two results that the promise of `page` allows coincide, with the bytes that they leave. Assumes nothing.
use mathlib.Core.Path.{sym, ◌∙◌}
use Rattle.promise.specs.Determined.{Determined}
use Rattle.promise.specs.Over.{outcome}
use Rattle.page.proofs.page.Kinds as page_kinds
use Rattle.page.proofs.page.Reads as page_reads

page_unique : Determined 2 page_kinds.ps page_kinds.r page_reads.Post (λ κs x s. outcome x s.1.0.now)
page_unique κs a x y s t p q = p ∙ sym q
