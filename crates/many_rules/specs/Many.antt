-- Defines many lookups in one call, over any single lookup: RULES, "Many lookups in one call". Assumes nothing.
use Rattle.std.specs.Prelude.{Bool, cond, List, ℕ, ◌≡◌, ◌<◌, ◌^◌, eqb, leb, length, get_or}
use Rattle.promise.specs.Over.{Outcome, outcome, over}
use Rattle.lists.specs.Below.{some_below}
use Rattle.lists.specs.Numbered.{list_of}
use Rattle.refusals.specs.Refusals.{no_room, refused, accepted}
use Rattle.refusals.specs.declared.Answer.{Answer}
use Rattle.refusals.specs.declared.found.Found.{Found}

-- "or 65,535 where that lookup answers 11": no port is as large
abbrev pub unfound : ℕ
unfound = 65535

-- "the port of the single lookup", or that
abbrev pub element : Found → ℕ
element x = cond (eqb x.number 0) x.port unfound

-- what a call may answer at an address is what that lookup leaves in its element
abbrev pub Gives : (ℕ → ℕ → Type 0) → (ℕ → Found) → Type 0
Gives post look = (address e : ℕ) → address < 2 ^ 32 → post address e → e ≡ element (look address)

-- "answer: .. 1 if some element is 65,535, else 0"
abbrev pub told : Bool → Answer
told some = accepted (cond some 1 0)

module _ (look : ℕ → Found) (addresses : List ℕ) where
  -- element i is that of address i
  abbrev pub element_at : ℕ → ℕ
  element_at i = element (look (get_or addresses i 0))

  -- the elements of the first k addresses
  abbrev pub elements : ℕ → List ℕ
  elements k = list_of element_at k 0

  -- "some element is 65,535", of those
  abbrev pub some_unfound : ℕ → Bool
  some_unfound k = some_below (λ i. eqb (element_at i) unfound) k

  -- "9 at 0 where `out` .. is shorter than the addresses. Else each element of `out` .., the rest of `out` unchanged"
  unfoldable pub lookup_many : List ℕ → Outcome Answer
  lookup_many out =
      cond (leb (length addresses) (length out))
      (outcome (told (some_unfound (length addresses))) (over (elements (length addresses)) out))
      (outcome (refused no_room 0) out)
