-- Defines what is promised of the part of a store that the entries of a segment are: where it stands, and that it is handed back itself.
-- RULES, "The entries of a segment". Assumes nothing.
use Rattle.std.specs.Prelude.{◌≡◌, cond, List, ℕ, ◌+◌, ◌*◌, ◌^◌, ◌≤◌, ◌<◌, length}
use Rattle.std.specs.Borrow.{Bor}
use Rattle.segment_rules.specs.declared.Part.{Part}
use Rattle.segment_rules.specs.Parts.{part_of, entries_of}

-- r is where they stand, in stores of so many words, and all of it is in its store
pub record Placed (packed plain entry : ℕ) (r : Part) : Type 0 where
  pub is : r ≡ part_of packed plain entry
  pub within : r.from + r.count ≤ cond r.plain plain packed
  pub small : r.from + r.count < 2 ^ 32

-- where a part lies in the memory lent: a word is two bytes
abbrev pub lies_at : Bor (List ℕ) → Bor (List ℕ) → Part → ℕ × ℕ
lies_at packed plain p = let store : Bor (List ℕ) = cond p.plain plain packed in (store.ref_ptr.0, p.from * 2 + store.ref_ptr.1)

-- r is the part itself: its words, and where it lies in the memory lent, so that nothing was copied
pub record Handed (packed plain : Bor (List ℕ)) (entry : ℕ) (r : Bor (List ℕ)) : Type 0 where
  pub is : r.now ≡ entries_of packed.now plain.now entry
  pub there : r.ref_ptr ≡ lies_at packed plain (part_of (length packed.now) (length plain.now) entry)
