-- Any two results that a promise of this crate allows coincide. Assumes nothing.
use mathlib.Core.Path.{sym, ◌∙◌}
use Rattle.promise.specs.Determined.{Determined}
use Rattle.prefix.proofs.Prefix.new.Kinds as new_kinds
use Rattle.prefix.proofs.Prefix.new.Reads as new_reads
use Rattle.prefix.proofs.Prefix.is_clear.Kinds as is_clear_kinds
use Rattle.prefix.proofs.Prefix.is_clear.Reads as is_clear_reads
use Rattle.prefix.proofs.Prefix.matches.Kinds as matches_kinds
use Rattle.prefix.proofs.Prefix.matches.Reads as matches_reads
use Rattle.prefix.proofs.Prefix.first.Kinds as first_kinds
use Rattle.prefix.proofs.Prefix.first.Reads as first_reads
use Rattle.prefix.proofs.Prefix.last.Kinds as last_kinds
use Rattle.prefix.proofs.Prefix.last.Reads as last_reads
use Rattle.prefix.proofs.Prefix.left.Kinds as left_kinds
use Rattle.prefix.proofs.Prefix.left.Reads as left_reads
use Rattle.prefix.proofs.Prefix.right.Kinds as right_kinds
use Rattle.prefix.proofs.Prefix.right.Reads as right_reads
use Rattle.prefix.proofs.Prefix.precedes.Kinds as precedes_kinds
use Rattle.prefix.proofs.Prefix.precedes.Reads as precedes_reads
use Rattle.prefix.proofs.bit_before.Kinds as bit_before_kinds
use Rattle.prefix.proofs.bit_before.Reads as bit_before_reads
use Rattle.prefix.proofs.Prefix.is_same.Kinds as is_same_kinds
use Rattle.prefix.proofs.Prefix.is_same.Reads as is_same_reads
use Rattle.prefix.proofs.Prefix.is_ahead.Kinds as is_ahead_kinds
use Rattle.prefix.proofs.Prefix.is_ahead.Reads as is_ahead_reads

new_unique : Determined 0 new_kinds.ps new_kinds.r new_reads.Post (λ κs x s. x)
new_unique κs a x y s t p q = p ∙ sym q

is_clear_unique : Determined 0 is_clear_kinds.ps is_clear_kinds.r is_clear_reads.Post (λ κs x s. x)
is_clear_unique κs a x y s t p q = p ∙ sym q

matches_unique : Determined 0 matches_kinds.ps matches_kinds.r matches_reads.Post (λ κs x s. x)
matches_unique κs a x y s t p q = p ∙ sym q

first_unique : Determined 0 first_kinds.ps first_kinds.r first_reads.Post (λ κs x s. x)
first_unique κs a x y s t p q = p ∙ sym q

last_unique : Determined 0 last_kinds.ps last_kinds.r last_reads.Post (λ κs x s. x)
last_unique κs a x y s t p q = p ∙ sym q

left_unique : Determined 0 left_kinds.ps left_kinds.r left_reads.Post (λ κs x s. x)
left_unique κs a x y s t p q = p ∙ sym q

right_unique : Determined 0 right_kinds.ps right_kinds.r right_reads.Post (λ κs x s. x)
right_unique κs a x y s t p q = p ∙ sym q

precedes_unique : Determined 0 precedes_kinds.ps precedes_kinds.r precedes_reads.Post (λ κs x s. x)
precedes_unique κs a x y s t p q = p ∙ sym q

bit_before_unique : Determined 0 bit_before_kinds.ps bit_before_kinds.r bit_before_reads.Post (λ κs x s. x)
bit_before_unique κs a x y s t p q = p ∙ sym q

is_same_unique : Determined 0 is_same_kinds.ps is_same_kinds.r is_same_reads.Post (λ κs x s. x)
is_same_unique κs a x y s t p q = p ∙ sym q

is_ahead_unique : Determined 0 is_ahead_kinds.ps is_ahead_kinds.r is_ahead_reads.Post (λ κs x s. x)
is_ahead_unique κs a x y s t p q = p ∙ sym q
