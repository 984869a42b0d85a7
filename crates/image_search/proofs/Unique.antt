-- Any two results that a promise of this crate allows coincide. Assumes nothing.
use mathlib.Core.Path.{sym, ◌∙◌}
use Rattle.promise.specs.Determined.{Determined}
use Rattle.image_search.proofs.address_of.Kinds as address_of_kinds
use Rattle.image_search.proofs.address_of.Reads as address_of_reads
use Rattle.image_search.proofs.Slots.find_slot.Kinds as find_slot_kinds
use Rattle.image_search.proofs.Slots.find_slot.Reads as find_slot_reads
use Rattle.image_search.proofs.Slots.search_from.Kinds as search_from_kinds
use Rattle.image_search.proofs.Slots.search_from.Reads as search_from_reads
use Rattle.image_search.proofs.Slots.search_after.Kinds as search_after_kinds
use Rattle.image_search.proofs.Slots.search_after.Reads as search_after_reads
use Rattle.image_search.proofs.goes_on.Kinds as goes_on_kinds
use Rattle.image_search.proofs.goes_on.Reads as goes_on_reads
use Rattle.image_search.proofs.leaf_port.Kinds as leaf_port_kinds
use Rattle.image_search.proofs.leaf_port.Reads as leaf_port_reads

address_of_unique : Determined 1 address_of_kinds.ps address_of_kinds.r address_of_reads.Post (λ κs x s. x)
address_of_unique κs a x y s t p q = p ∙ sym q

find_slot_unique : Determined 1 find_slot_kinds.ps find_slot_kinds.r find_slot_reads.Post (λ κs x s. x)
find_slot_unique κs a x y s t p q = p ∙ sym q

search_from_unique : Determined 1 search_from_kinds.ps search_from_kinds.r search_from_reads.Post (λ κs x s. x)
search_from_unique κs a x y s t p q = p ∙ sym q

search_after_unique : Determined 1 search_after_kinds.ps search_after_kinds.r search_after_reads.Post (λ κs x s. x)
search_after_unique κs a x y s t p q = p ∙ sym q

goes_on_unique : Determined 1 goes_on_kinds.ps goes_on_kinds.r goes_on_reads.Post (λ κs x s. x)
goes_on_unique κs a x y s t p q = p ∙ sym q

leaf_port_unique : Determined 1 leaf_port_kinds.ps leaf_port_kinds.r leaf_port_reads.Post (λ κs x s. x)
leaf_port_unique κs a x y s t p q = p ∙ sym q
