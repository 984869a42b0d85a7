-- Words stored one after the other: read back, a word that lies elsewhere, and more of them. Assumes nothing.
use mathlib.Core.Path.{◌≡◌, refl, sym, ap, ◌∙◌}
use mathlib.Core.List.{List, [], ◌∷◌, ◌++◌, append_assoc}
use Prim.Native.Nat.{ℕ, suc, ◌+◌, ◌<◌, ◌≤◌}
use native.Mathlib.Omega.{arith}
use lib.ListN.{length, get_or, set, take, drop, get_or-append}
use lib.Seq.{sets, sets-eq, length-take-le, get_or-append-add, get_or-set_other}
use native.Mathlib.Nat.{add-zero}

-- words stored one after the other, read back, and a word that lies elsewhere
pub get_sets_same : (vs ws : List ℕ) (at k : ℕ) → k < length vs → at + length vs ≤ length ws → get_or (sets ws at vs) (at + k) 0 ≡ get_or vs k 0
get_sets_same vs ws at k h room =
    let n : length (take at ws) ≡ at = length-take-le at ws (omega arith) in
    ap (λ (l : List ℕ). get_or l (at + k) 0) (sets-eq vs ws at room ∙ append_assoc (take at ws) vs (drop (at + length vs) ws))
    ∙ ap (λ (i : ℕ). get_or (take at ws ++ (vs ++ drop (at + length vs) ws)) (i + k) 0) (sym n)
    ∙ get_or-append-add (take at ws) (vs ++ drop (at + length vs) ws) k 0
    ∙ get_or-append vs (drop (at + length vs) ws) 0 k h

pub get_sets_other : (vs ws : List ℕ) (at i : ℕ) → (at ≤ i → i < at + length vs → ⊥) → get_or (sets ws at vs) i 0 ≡ get_or ws i 0
get_sets_other [] ws at i out = refl
get_sets_other (v ∷ vs) ws at i out =
    get_sets_other vs (set ws at v) (suc at) i (λ l h. out (omega arith) (omega arith))
    ∙ get_or-set_other ws at i v 0 (λ z. out (omega arith) (omega arith))

-- words stored after words that were stored
pub sets_append : (xs ys ws : List ℕ) (i : ℕ) → sets (sets ws i xs) (i + length xs) ys ≡ sets ws i (xs ++ ys)
sets_append [] ys ws i = ap (λ (j : ℕ). sets ws j ys) (add-zero i)
sets_append (x ∷ xs) ys ws i =
    let e : i + suc (length xs) ≡ suc i + length xs = omega arith in
    ap (λ (j : ℕ). sets (sets (set ws i x) (suc i) xs) j ys) e ∙ sets_append xs ys (set ws i x) (suc i)
