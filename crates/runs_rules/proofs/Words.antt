-- The runs of a listing's words are the runs listed: RULES, "The run listing". Assumes nothing.
use mathlib.Core.Path.{◌≡◌, refl, ap, ap₂, ◌∙◌}
use mathlib.Core.List.{List, [], ◌∷◌, ◌++◌}
use Prim.Native.Nat.{ℕ, zero, suc, ◌+◌, ◌*◌}
use native.Mathlib.Omega.{arith}
use lib.ListN.{length, get_or}
use Rattle.lists.specs.Numbered.{list_of}
use Rattle.runs_rules.specs.Runs.{Run, run_words, run_at}

-- elements numbered from one more
list_of_shift : (R Q : ℕ → Run) → ((j : ℕ) → R (j + 1) ≡ Q j) → (k i : ℕ) → list_of R k (i + 1) ≡ list_of Q k i
unfolding list_of
list_of_shift R Q e zero i = refl
list_of_shift R Q e (suc k) i = ap₂ (λ (r : Run) (rs : List Run). r ∷ rs) (e i) (list_of_shift R Q e k (i + 1))

run_at_next : (a b c : ℕ) (ws : List ℕ) (j : ℕ) → run_at (a ∷ b ∷ c ∷ ws) (j + 1) ≡ run_at ws j
run_at_next a b c ws j =
    let e : (j + 1) * 3 ≡ suc (suc (suc (j * 3))) = omega arith in
    let f : (j + 1) * 3 + 1 ≡ suc (suc (suc (j * 3 + 1))) = omega arith in
    let g : (j + 1) * 3 + 2 ≡ suc (suc (suc (j * 3 + 2))) = omega arith in
    λ t. record {
      first = ap (λ (i : ℕ). get_or (a ∷ b ∷ c ∷ ws) i 0) e t;
      last = ap (λ (i : ℕ). get_or (a ∷ b ∷ c ∷ ws) i 0) f t;
      port = ap (λ (i : ℕ). get_or (a ∷ b ∷ c ∷ ws) i 0) g t;
    }

-- the runs of their words are they
pub runs_of_words : (rs : List Run) (rest : List ℕ) → list_of (run_at (run_words rs ++ rest)) (length rs) 0 ≡ rs
unfolding list_of
runs_of_words [] rest = refl
runs_of_words (r ∷ rs) rest =
    let ws : List ℕ = run_words rs ++ rest in
    ap (λ (qs : List Run). r ∷ qs)
    (list_of_shift (run_at (r.first ∷ r.last ∷ r.port ∷ ws)) (run_at ws) (run_at_next r.first r.last r.port ws) (length rs) 0
    ∙ runs_of_words rs rest)
