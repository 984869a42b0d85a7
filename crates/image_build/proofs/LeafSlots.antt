-- Some slots at once that are leaves with one port: their ports, their bits. Assumes nothing.
use mathlib.Core.Path.{◌≡◌, refl, sym, ap, ◌∙◌}
use mathlib.Core.Bool.{Bool, true, false, cond}
use mathlib.Core.List.{List, ◌∷◌, ◌++◌}
use Prim.Native.Nat.{ℕ, zero, suc, ◌+◌, ◌-◌, ◌*◌, ◌^◌, ◌≤◌, ◌<◌}
use native.Mathlib.Omega.{arith}
use native.Mathlib.Nat.{mul-le-mul}
use lib.Dec.{eqb}
use lib.ListN.{length, set, replicate, length-replicate}
use lib.Pow.{pow_mono, pow_pos}
use lib.Seq.{sets, length-sets}
use borrow.Author.Tests.{eq-eqb, ne_eqb, eqb-true}
use Rattle.lists.specs.Flat.{flat}
use Rattle.lists.specs.Numbered.{list_of}
use Rattle.entries.specs.Entries.{filled}
use Rattle.entries.proofs.Filled.{stretch_none, filled_within}
use Rattle.image_rules.specs.Breadth.{Slot, leaf, non_leaf, slot_ports}
use Rattle.image_numbers.specs.declared.Leaf.{Leaf}
use Rattle.image_stretch.specs.declared.Stretch.{Stretch}
use Rattle.image_stretch.specs.declared.Filled.{Filled}
use Rattle.image_stretch.specs.Memory.{filled_leaves, owed, kept_after}
use Rattle.image_stretch.proofs.SlotLoop.{SlotsDone, sets_append}
use Rattle.image_build.specs.Needs.{most_slots}

-- a bitmap with ones after it, in a word
pub ones_fit : (b k : ℕ) → b < 2 ^ most_slots → k ≤ most_slots → (1 ≤ (b + 1) * 2 ^ k) × ((b + 1) * 2 ^ k ≤ 2 ^ 32)
ones_fit b k h l = (
  mul-le-mul {n₁ = 1} {m₁ = 1} (omega arith) (pow_pos k),
  mul-le-mul {n₁ = b + 1} {m₁ = 2 ^ k} {n₂ = 2 ^ most_slots} {m₂ = 2 ^ most_slots} (omega arith) (pow_mono {i = k} {j = most_slots} l),
)

pub filled_leaves_lem : (st : Filled) (k bits : ℕ) (past : Leaf) → bits ≡ (st.bitmap + 1) * 2 ^ k - 1 → past.0 ≡ st.leaf.0 + k
    → record { bitmap = bits; node = st.node; leaf = past } ≡ filled_leaves k st
filled_leaves_lem st k bits past a b = λ i. record { bitmap = a i; node = st.node; leaf = record { 0 = b i } }

-- ports that are still owed, after a slot without a port, and after one with a port
pub owed_goes : (ports : List ℕ) (kept place best : ℕ) {y : Stretch} (o : Slot Stretch) → o ≡ non_leaf y → (k : ℕ) → k ≡ kept_after kept place place
    → owed ports k place best ≡ sets (owed ports kept place best) place (slot_ports o)
owed_goes ports kept place best o e k f =
    ap (λ (m : ℕ). owed ports m place best) (f ∙ ap (λ (b : Bool). cond b kept place) (eq-eqb place place refl))
    ∙ ap (λ (u : Slot Stretch). sets (owed ports kept place best) place (slot_ports u)) (sym e)

pub owed_ends : (ports stored : List ℕ) (kept place after best p : ℕ) (o : Slot Stretch) → o ≡ leaf p → after ≡ place + 1 → stored ≡ owed ports kept place best
    → (k : ℕ) → k ≡ kept_after kept place after → owed (set stored place p) k after best ≡ sets (owed ports kept place best) place (slot_ports o)
owed_ends ports stored kept place after best p o e f g k h =
    ap (λ (m : ℕ). owed (set stored place p) m after best) (h ∙ ap (λ (b : Bool). cond b kept after) (ne_eqb place after (λ z. omega arith)))
    ∙ stretch_none (set stored place p) after after best (omega arith)
    ∙ ap (λ (l : List ℕ). set l place p) g
    ∙ ap (λ (u : Slot Stretch). sets (owed ports kept place best) place (slot_ports u)) (sym e)

-- more leaves that are only counted
replicate_add : (a b p : ℕ) → replicate (a + b) p ≡ replicate a p ++ replicate b p
replicate_add zero b p = let z : 0 + b ≡ b = omega arith in ap (λ (k : ℕ). replicate k p) z
replicate_add (suc a) b p = let z : suc a + b ≡ suc (a + b) = omega arith in ap (λ (k : ℕ). replicate k p) z ∙ ap (λ (l : List ℕ). p ∷ l) (replicate_add a b p)

pub owed_more : (ports : List ℕ) (kept place k past best : ℕ) → kept ≤ place → past ≡ place + k
    → owed ports kept past best ≡ sets (owed ports kept place best) place (replicate k best)
owed_more ports kept place k past best h e =
    let z : past - kept ≡ place - kept + k = omega arith in
    let q : kept + length (replicate (place - kept) best) ≡ place = omega (arith, length-replicate (place - kept) best) in
    ap (λ (n : ℕ). sets ports kept (replicate n best)) z ∙ ap (sets ports kept) (replicate_add (place - kept) k best)
    ∙ sets_append ports kept (replicate (place - kept) best) (replicate k best)
    ∙ ap (λ (n : ℕ). sets (owed ports kept place best) n (replicate k best)) q

pub kept_le : (kept before after next : ℕ) → kept ≤ before → next ≡ kept_after kept before after → next ≤ after
kept_le kept before after next h e = by (eqb before after) refl
  where
    by : (b : Bool) → eqb before after ≡ b → next ≤ after
    by true t = let z : next ≡ kept = e ∙ ap (λ (b : Bool). cond b kept after) t in omega (arith, z, eqb-true before after t)
    by false t = let z : next ≡ after = e ∙ ap (λ (b : Bool). cond b kept after) t in omega (arith, z)

-- after the last slot all ports have room, so that those still owed are stored
pub owed_all : {f : ℕ → Slot Stretch} {m next base j : ℕ} {nodes₀ ports₀ nodes : List ℕ} (ports stored : List ℕ) (kept best : ℕ) (st : Filled)
    → SlotsDone f m nodes₀ ports₀ next base nodes (owed ports kept st.leaf.0 best) j st → base + length (flat slot_ports (list_of f m 0)) ≤ length ports₀
    → stored ≡ filled ports kept st.leaf.0 best → stored ≡ owed ports kept st.leaf.0 best
owed_all ports stored kept best st l room e =
    e ∙ filled_within ports kept st.leaf.0 best
    (omega (arith, l.same.leaves, room, l.ports_lent, length-sets ports kept (replicate (st.leaf.0 - kept) best)))
