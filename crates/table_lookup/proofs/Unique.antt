-- Any two results that a promise of this crate allows coincide. Assumes nothing.
use mathlib.Core.Path.{sym, ◌∙◌}
use Rattle.promise.specs.Determined.{Determined}
use Rattle.refusals.proofs.Numbers.{checked_one, found_of_one}
use Rattle.table_lookup.proofs.lookup.Kinds as lookup_kinds
use Rattle.table_lookup.proofs.lookup.Reads as lookup_reads
use Rattle.table_lookup.proofs.is_good.Kinds as is_good_kinds
use Rattle.table_lookup.proofs.is_good.Reads as is_good_reads
use Rattle.table_lookup.proofs.check.Kinds as check_kinds
use Rattle.table_lookup.proofs.check.Reads as check_reads

lookup_unique : Determined 1 lookup_kinds.ps lookup_kinds.r lookup_reads.Post (λ κs x s. x)
lookup_unique κs a x y s t p q = found_of_one x y (p ∙ sym q)

is_good_unique : Determined 1 is_good_kinds.ps is_good_kinds.r is_good_reads.Post (λ κs x s. x)
is_good_unique κs a x y s t p q = p ∙ sym q

check_unique : Determined 1 check_kinds.ps check_kinds.r check_reads.Post (λ κs x s. x)
check_unique κs a x y s t p q = checked_one x y (p ∙ sym q)
