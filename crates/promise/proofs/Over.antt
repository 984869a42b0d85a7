-- Output written one element, or three, after the other over the front of lent memory, and what is left there. Assumes nothing.
use mathlib.Core.Path.{◌≡◌, sym, ap, ◌∙◌}
use mathlib.Core.List.{List, [], ◌∷◌, ◌++◌, append_assoc, append-nil}
use Prim.Native.Nat.{ℕ, suc, ◌+◌, ◌-◌, ◌≤◌, ◌<◌}
use native.Mathlib.Omega.{arith}
use native.Mathlib.Numerals.{add-one}
use lib.ListN.{length, get_or, set, take, drop, length-append, length-drop, get_or-append}
use lib.Seq.{take_at, drop-cons, drop-length, get_or-append-add, get_or-drop, set-append_seam, append_snoc, sets}
use Rattle.promise.specs.Over.{over, store_three}

module _ {A : Type 0} where
  -- one element more
  pub over_push : (out lent : List A) (v : A) (at : ℕ) → length out ≡ at → at < length lent
      → set (over out lent) at v ≡ over (out ++ (v ∷ [])) lent
  over_push out lent v at e h =
      let l : length out < length lent = omega arith in
      ap (λ (j : ℕ). set (over out lent) j v) (sym e)
      ∙ ap (λ (x : List A). set (out ++ x) (length out) v) (drop-cons lent (length out) v l)
      ∙ set-append_seam out _ (drop (suc (length out)) lent) v
      ∙ sym (append_snoc out v (drop (suc (length out)) lent))
      ∙ ap (λ (n : ℕ). out ++ (v ∷ []) ++ drop n lent) (sym (length-append out (v ∷ []) ∙ add-one (length out)))

  -- some more, one after the other
  pub over_sets : (vs out lent : List A) (at : ℕ) → length out ≡ at → at + length vs ≤ length lent
      → sets (over out lent) at vs ≡ over (out ++ vs) lent
  over_sets [] out lent at e h = ap (λ (x : List A). over x lent) (sym (append-nil out))
  over_sets (v ∷ vs) out lent at e h =
      let l : length (out ++ (v ∷ [])) ≡ suc at = length-append out (v ∷ []) ∙ omega (arith, e) in
      ap (λ (x : List A). sets x (suc at) vs) (over_push out lent v at e (omega arith))
      ∙ over_sets vs (out ++ (v ∷ [])) lent (suc at) l (omega arith)
      ∙ ap (λ (x : List A). over x lent) (append_snoc out v vs)

  -- the output is the front of what is left
  pub over_taken : (out lent : List A) (n : ℕ) → length out ≡ n → take n (over out lent) ≡ out
  over_taken out lent n l = take_at out (drop (length out) lent) n l

  pub over_front : (out lent : List A) (d : A) (i : ℕ) → i < length out → get_or (over out lent) i d ≡ get_or out i d
  over_front out lent d i h = get_or-append out (drop (length out) lent) d i h

  -- and what lay past it is as it was
  pub over_past : (out lent : List A) (d : A) (i : ℕ) → length out ≤ i → get_or (over out lent) i d ≡ get_or lent i d
  over_past out lent d i h =
      let e : i ≡ length out + (i - length out) = omega arith in
      ap (λ (j : ℕ). get_or (over out lent) j d) e
      ∙ get_or-append-add out (drop (length out) lent) (i - length out) d
      ∙ get_or-drop (length out) lent (i - length out) d
      ∙ ap (λ (j : ℕ). get_or lent j d) (sym e)

  -- nothing is left of what was written over whole
  pub over_all : (out lent : List A) → length out ≡ length lent → over out lent ≡ out
  over_all out lent e =
      ap (λ (k : ℕ). out ++ drop k lent) e ∙ ap (λ (xs : List A). out ++ xs) (drop-length lent) ∙ append-nil out

  pub length_over : (out lent : List A) → length out ≤ length lent → length (over out lent) ≡ length lent
  length_over out lent h = simp (length-append, length-drop) (omega arith)

-- three words more
pub over_three : (out lent : List ℕ) (a b c at : ℕ) → length out ≡ at → at + 3 ≤ length lent
    → store_three (over out lent) at a b c ≡ over (out ++ (a ∷ b ∷ c ∷ [])) lent
over_three out lent a b c at l h =
    let m : length (out ++ (a ∷ [])) ≡ at + 1 = length-append out (a ∷ []) ∙ ap (λ (i : ℕ). i + 1) l in
    let n : length (out ++ (a ∷ []) ++ (b ∷ [])) ≡ at + 2 = length-append (out ++ (a ∷ [])) (b ∷ []) ∙ omega (arith, m) in
    ap (λ (x : List ℕ). set (set x (at + 1) b) (at + 2) c) (over_push out lent a at l (omega arith))
    ∙ ap (λ (x : List ℕ). set x (at + 2) c) (over_push (out ++ (a ∷ [])) lent b (at + 1) m (omega arith))
    ∙ over_push (out ++ (a ∷ []) ++ (b ∷ [])) lent c (at + 2) n (omega arith)
    ∙ ap (λ (x : List ℕ). over x lent) (append_assoc (out ++ (a ∷ [])) (b ∷ []) (c ∷ []) ∙ append_assoc out (a ∷ []) (b ∷ c ∷ []))
