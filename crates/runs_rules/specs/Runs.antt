-- Defines the run listing of any port of an address f : ℕ → ℕ: RULES, "The run listing". Assumes nothing.
use Rattle.std.specs.Prelude.{◌≡◌, cond, List, [], ◌∷◌, ℕ, zero, suc, ◌+◌, ◌-◌, ◌*◌, ◌≤◌, ◌<◌, eqb, get_or}
use Rattle.lists.specs.Flat.{flat}

-- a run: first address, last address, port
pub record Run : Type 0 where
  pub first : ℕ
  pub last : ℕ
  pub port : ℕ

abbrev pub run : ℕ → ℕ → ℕ → Run
run first last port = record { first = first; last = last; port = port }

-- a run from address a on, below n, that has one port under f
pub record RunAt (f : ℕ → ℕ) (n a : ℕ) (r : Run) : Type 0 where
  pub starts : r.first ≡ a
  pub some : a ≤ r.last
  pub within : r.last < n
  pub one_port : (x : ℕ) → a ≤ x → x ≤ r.last → f x ≡ r.port

-- "neighbours have different ports": no run follows one of port p, or one with another port
abbrev pub Apart : ℕ → List Run → Type 0
Apart p [] = Unit {0}
Apart p (r ∷ rs) = r.port ≡ p → ⊥

-- THE LISTING. The runs cover the addresses a .. n-1 in order, without gap or overlap; each has one port under f, and
-- neighbours differ
abbrev pub Lists : (ℕ → ℕ) → ℕ → ℕ → List Run → Type 0
Lists f n a [] = a ≡ n
Lists f n a (r ∷ rs) = RunAt f n a r × Apart r.port rs × Lists f n (r.last + 1) rs

-- address by address: a run is open since s, and k addresses are left from c on
unfoldable pub runs_from : (ℕ → ℕ) → ℕ → ℕ → ℕ → List Run
runs_from f s c zero = run s (c - 1) (f s) ∷ []
runs_from f s c (suc k) =
    cond (eqb (f c) (f s)) (runs_from f s (c + 1) k) (run s (c - 1) (f s) ∷ runs_from f c (c + 1) k)

-- the listing of n addresses, address by address
unfoldable pub runs : (ℕ → ℕ) → ℕ → List Run
runs f n = runs_from f 0 0 n

-- "Three words a run"
abbrev pub run_size : ℕ
run_size = 3

-- "first address, last address, port"
abbrev pub words_of_run : Run → List ℕ
words_of_run r = r.first ∷ r.last ∷ r.port ∷ []

abbrev pub run_words : List Run → List ℕ
run_words rs = flat words_of_run rs

-- run i of a listing's words
abbrev pub run_at : List ℕ → ℕ → Run
run_at words i = run (get_or words (i * run_size) 0) (get_or words (i * run_size + 1) 0) (get_or words (i * run_size + 2) 0)
