-- States what many lookups in one call leave, of any single lookup. Proofs are in proofs/. Assumes nothing.
use Rattle.std.specs.Prelude.{◌≡◌, List, ℕ, ◌≤◌, ◌<◌, length, get_or, drop}
use Rattle.promise.specs.Over.{Outcome, outcome, over}
use Rattle.lists.specs.Numbered.{list_of}
use Rattle.refusals.specs.Refusals.{no_room, refused, accepted}
use Rattle.refusals.specs.declared.Answer.{Answer}
use Rattle.refusals.specs.declared.found.Found.{Found}
use Rattle.many_rules.specs.Many.{unfound, element, element_at, lookup_many}

-- an element, of those of the addresses, that is 65,535
pub record Unfound (look : ℕ → Found) (addresses : List ℕ) : Type 0 where
  pub which : ℕ
  pub below : which < length addresses
  pub is : element_at look addresses which ≡ unfound

-- the single lookups one after the other
pub record EachLooked (look : ℕ → Found) (addresses out : List ℕ) (o : Outcome Answer) : Type 0 where
  pub done : o.answer.number ≡ 0
  pub place : o.answer.place ≡ 0
  pub size : length o.lent ≡ length out
  pub each : (i : ℕ) → i < length addresses → get_or o.lent i 0 ≡ element (look (get_or addresses i 0))
  pub rest : drop (length addresses) o.lent ≡ drop (length addresses) out
  pub told : Unfound look addresses → o.answer.count ≡ 1
  pub untold : (Unfound look addresses → ⊥) → o.answer.count ≡ 0

abbrev pub ManyIsEach : Type 0
ManyIsEach =
    (look : ℕ → Found) (addresses out : List ℕ) → length addresses ≤ length out
    → EachLooked look addresses out (lookup_many look addresses out)

-- where every lookup finds a port, that are the elements, and none is 65,535
abbrev pub ManyFound : Type 0
ManyFound =
    (look : ℕ → Found) (addresses out : List ℕ) (port : ℕ → ℕ) → length addresses ≤ length out
    → ((i : ℕ) → i < length addresses → ((look (get_or addresses i 0)).number ≡ 0) × ((look (get_or addresses i 0)).port ≡ port i))
    → ((i : ℕ) → i < length addresses → port i < unfound)
    → lookup_many look addresses out ≡ outcome (accepted 0) (over (list_of port (length addresses) 0) out)

-- "9 at 0 where `out` .. is shorter than the addresses", with nothing written
abbrev pub ShortIsRefused : Type 0
ShortIsRefused =
    (look : ℕ → Found) (addresses out : List ℕ) → length out < length addresses
    → lookup_many look addresses out ≡ outcome (refused no_room 0) out
