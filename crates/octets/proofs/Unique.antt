-- Any two results that a promise of this crate allows coincide, with the bytes that they leave. Assumes nothing.
use mathlib.Core.Path.{sym, ◌∙◌}
use Rattle.promise.specs.Determined.{Determined}
use Rattle.octets.proofs.prefix_bytes.Kinds as prefix_bytes_kinds
use Rattle.octets.proofs.prefix_bytes.Reads as prefix_bytes_reads
use Rattle.octets.proofs.prefix_size.Kinds as prefix_size_kinds
use Rattle.octets.proofs.prefix_size.Reads as prefix_size_reads
use Rattle.octets.proofs.number_at.Kinds as number_at_kinds
use Rattle.octets.proofs.number_at.Reads as number_at_reads
use Rattle.octets.proofs.length_at.Kinds as length_at_kinds
use Rattle.octets.proofs.length_at.Reads as length_at_reads
use Rattle.octets.proofs.prefix_from.Kinds as prefix_from_kinds
use Rattle.octets.proofs.prefix_from.Reads as prefix_from_reads
use Rattle.octets.proofs.take_prefix.Kinds as take_prefix_kinds
use Rattle.octets.proofs.take_prefix.Reads as take_prefix_reads
use Rattle.octets.proofs.put_number.Kinds as put_number_kinds
use Rattle.octets.proofs.put_number.Reads as put_number_reads
use Rattle.octets.proofs.put_prefix.Kinds as put_prefix_kinds
use Rattle.octets.proofs.put_prefix.Reads as put_prefix_reads

prefix_bytes_unique : Determined 0 prefix_bytes_kinds.ps prefix_bytes_kinds.r prefix_bytes_reads.Post (λ κs x s. x)
prefix_bytes_unique κs a x y s t p q = p.is ∙ sym q.is

prefix_size_unique : Determined 0 prefix_size_kinds.ps prefix_size_kinds.r prefix_size_reads.Post (λ κs x s. x)
prefix_size_unique κs a x y s t p q = p.is ∙ sym q.is

number_at_unique : Determined 1 number_at_kinds.ps number_at_kinds.r number_at_reads.Post (λ κs x s. x)
number_at_unique κs a x y s t p q = p.is ∙ sym q.is

length_at_unique : Determined 1 length_at_kinds.ps length_at_kinds.r length_at_reads.Post (λ κs x s. x)
length_at_unique κs a x y s t p q = p.is ∙ sym q.is

prefix_from_unique : Determined 1 prefix_from_kinds.ps prefix_from_kinds.r prefix_from_reads.Post (λ κs x s. x)
prefix_from_unique κs a x y s t p q = p ∙ sym q

take_prefix_unique : Determined 1 take_prefix_kinds.ps take_prefix_kinds.r take_prefix_reads.Post (λ κs x s. x)
take_prefix_unique κs a x y s t p q = p ∙ sym q

put_number_unique : Determined 1 put_number_kinds.ps put_number_kinds.r put_number_reads.Post (λ κs x s. s.0.now)
put_number_unique κs a x y s t p q = p ∙ sym q

put_prefix_unique : Determined 1 put_prefix_kinds.ps put_prefix_kinds.r put_prefix_reads.Post (λ κs x s. s.0.now)
put_prefix_unique κs a x y s t p q = p ∙ sym q
