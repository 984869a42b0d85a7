-- The search for the run of an address: it ends at a run that reaches the address, a later address may resume there, and in a listing it
-- gives the port. Assumes nothing.
use mathlib.Core.Path.{◌≡◌, refl, sym, ap, ◌∙◌}
use mathlib.Core.Logic.{⊎_elim}
use mathlib.Core.Bool.{Bool, true, false, cond}
use mathlib.Core.List.{List, [], ◌∷◌, ◌++◌}
use Prim.Native.Nat.{ℕ, zero, suc, ◌+◌, ◌-◌, ◌*◌, ◌%◌, ◌^◌, ◌≤◌, ◌<◌}
use native.Mathlib.Omega.{arith}
use native.Mathlib.Nat.{mod-eq_of_lt}
use lib.Dec.{ltb}
use lib.ListN.{length, get_or, drop, get_or-append}
use borrow.Author.Tests.{lt-ltb, le-ltb, ltb-true, ltb-false}
use Rattle.promise.specs.Over.{over}
use Rattle.promise.proofs.Over.{length_over}
use Rattle.lists.proofs.Tests.{way}
use Rattle.runs_rules.specs.Runs.{Run, run, Lists, run_size, words_of_run, run_words}
use Rattle.runs_rules.proofs.Listing.{length_run_words}
use Rattle.segment_ports.specs.RunSearch.{run_count, run_end, run_port, run_from, run_of, port_from}

module _ (runs : List ℕ) where
  -- past the runs lent every address is reached
  pub end_past : (c : ℕ) → run_count runs ≤ c → run_end runs c ≡ 2 ^ 32 - 1
  unfolding run_end
  end_past c h = rw (le-ltb c (run_count runs) h)

  pub ends_before : (c a : ℕ) → a < 2 ^ 32 → run_end runs c < a → c < run_count runs
  ends_before c a small h =
      ⊎_elim
      (λ (t : ltb c (run_count runs) ≡ true). ltb-true c (run_count runs) t)
      (λ (t : ltb c (run_count runs) ≡ false). absurd (omega (arith, end_past c (ltb-false c (run_count runs) t))))
      (way (ltb c (run_count runs)))

  -- a run that reaches the address ends the search, and one that does not is passed
  run_here : (k c a : ℕ) → a ≤ run_end runs c → run_from runs k c a ≡ c
  unfolding run_from
  run_here zero c a h = refl
  run_here (suc k) c a h = rw (le-ltb (run_end runs c) a h)

  pub run_of_here : (c a : ℕ) → a ≤ run_end runs c → run_of runs c a ≡ c
  run_of_here c a h = run_here (run_count runs - c) c a h

  pub run_of_past : (c a : ℕ) → run_count runs ≤ c → run_of runs c a ≡ c
  unfolding run_from
  run_of_past c a h = let none : run_count runs - c ≡ 0 = omega arith in rw none

  pub run_of_passed : (c a : ℕ) → c < run_count runs → run_end runs c < a → run_of runs c a ≡ run_of runs (c + 1) a
  unfolding run_from
  run_of_passed c a l h =
      let z : run_count runs - c ≡ suc (run_count runs - (c + 1)) = omega arith in rw (z, lt-ltb (run_end runs c) a h)

  -- the search ends at a run that reaches the address
  reaches : (k c a : ℕ) → run_count runs ≤ c + k → a < 2 ^ 32 → a ≤ run_end runs (run_from runs k c a)
  unfolding run_from
  reaches zero c a h small = omega (arith, end_past c (omega arith))
  reaches (suc k) c a h small = go (ltb (run_end runs c) a) refl (reaches k (c + 1) a (omega arith) small)
    where
      go : (b : Bool) → ltb (run_end runs c) a ≡ b → a ≤ run_end runs (run_from runs k (c + 1) a)
          → a ≤ run_end runs (cond b (run_from runs k (c + 1) a) c)
      go true t rest = rest
      go false t rest = ltb-false (run_end runs c) a t

  pub run_of_reaches : (c a : ℕ) → a < 2 ^ 32 → a ≤ run_end runs (run_of runs c a)
  run_of_reaches c a small = reaches (run_count runs - c) c a (omega arith) small

  -- and a later address may be sought from there
  resumed : (k c a b : ℕ) → k ≡ run_count runs - c → a ≤ b → run_from runs k c b ≡ run_of runs (run_from runs k c a) b
  unfolding run_from
  resumed zero c a b e h = sym (ap (λ (k : ℕ). run_from runs k c b) (sym e))
  resumed (suc k) c a b e h = go (ltb (run_end runs c) a) refl (resumed k (c + 1) a b (omega arith) h)
    where
      go : (t : Bool) → ltb (run_end runs c) a ≡ t → run_from runs k (c + 1) b ≡ run_of runs (run_from runs k (c + 1) a) b
          → run_from runs (suc k) c b ≡ run_of runs (cond t (run_from runs k (c + 1) a) c) b
      go true t rest = rw (lt-ltb (run_end runs c) b (omega (arith, ltb-true (run_end runs c) a t))) rest
      go false t rest = ap (λ (j : ℕ). run_from runs j c b) e

  pub run_of_resumed : (c a b : ℕ) → a ≤ b → run_of runs c b ≡ run_of runs (run_of runs c a) b
  run_of_resumed c a b h = resumed (run_count runs - c) c a b refl h

-- the runs of a listing by their numbers

module _ (f : ℕ → ℕ) (n : ℕ) where
  abbrev at : List Run → ℕ → Run
  at rs c = get_or rs c (run 0 0 0)

  first_run : (rs : List Run) (a : ℕ) → Lists f n a rs → 0 < length rs → (at rs 0).first ≡ a
  first_run [] a l h = absurd (omega arith)
  first_run (r ∷ rs) a l h = l.0.starts

  one_port : (rs : List Run) (a c x : ℕ) → Lists f n a rs → c < length rs → (at rs c).first ≤ x → x ≤ (at rs c).last → f x ≡ (at rs c).port
  one_port [] a c x l h u v = absurd (omega arith)
  one_port (r ∷ rs) a zero x l h u v = l.0.one_port x (omega (arith, l.0.starts)) v
  one_port (r ∷ rs) a (suc c) x l h u v = one_port rs (r.last + 1) c x l.2 (omega arith) u v

  -- each begins after the one before it, and the last ends with the space
  next_run : (rs : List Run) (a c : ℕ) → Lists f n a rs → suc c < length rs → (at rs (suc c)).first ≡ (at rs c).last + 1
  next_run [] a c l h = absurd (omega arith)
  next_run (r ∷ rs) a zero l h = first_run rs (r.last + 1) l.2 (omega arith)
  next_run (r ∷ rs) a (suc c) l h = next_run rs (r.last + 1) c l.2 (omega arith)

  more_runs : (rs : List Run) (a c : ℕ) → Lists f n a rs → c < length rs → (at rs c).last + 1 < n → suc c < length rs
  more_runs [] a c l h u = absurd (omega arith)
  more_runs (r ∷ []) a zero l h u = absurd (omega (arith, l.2))
  more_runs (r ∷ q ∷ rs) a zero l h u = omega arith
  more_runs (r ∷ rs) a (suc c) l h u = omega (arith, more_runs rs (r.last + 1) c l.2 (omega arith) u)

-- their words
run_word : (rs : List Run) (rest : List ℕ) (c j : ℕ) → c < length rs → j < 3
    → get_or (run_words rs ++ rest) (c * run_size + j) 0 ≡ get_or (words_of_run (get_or rs c (run 0 0 0))) j 0
run_word [] rest c j h l = absurd (omega arith)
run_word (r ∷ rs) rest zero j h l =
    let z : 0 * 3 + j ≡ j = omega arith in rw z (get_or-append (words_of_run r) (run_words rs ++ rest) 0 j l)
run_word (r ∷ rs) rest (suc c) j h l =
    let z : suc c * 3 + j ≡ suc (suc (suc (c * 3 + j))) = omega arith in rw z (run_word rs rest c j (omega arith) l)

-- in the words of a listing, the search gives the port of the address
module _ (f : ℕ → ℕ) (rs : List Run) (lent : List ℕ) (lists : Lists f (2 ^ 32) 0 rs) (small : (x : ℕ) → f x < 65536)
    (room : length rs * 3 ≤ length lent) where
  abbrev words : List ℕ
  words = over (run_words rs) lent

  counted : length rs ≤ run_count words
  counted =
      let l : length words ≡ length lent = length_over (run_words rs) lent (omega (arith, length_run_words rs)) in
      omega (arith, l)

  end_is : (c : ℕ) → c < length rs → run_end words c ≡ (at f (2 ^ 32) rs c).last
  unfolding run_end
  end_is c h = rw (lt-ltb c (run_count words) (omega (arith, counted))) (run_word rs (drop (length (run_words rs)) lent) c 1 h (omega arith))

  port_is : (c : ℕ) → c < length rs → run_port words c ≡ (at f (2 ^ 32) rs c).port % 65536
  unfolding run_port
  port_is c h =
      rw (lt-ltb c (run_count words) (omega (arith, counted)))
      (ap (λ (p : ℕ). p % 65536) (run_word rs (drop (length (run_words rs)) lent) c 2 h (omega arith)))

  searched : (d c a : ℕ) → length rs ≤ c + d → c < length rs → (at f (2 ^ 32) rs c).first ≤ a → a < 2 ^ 32 → port_from words c a ≡ f a
  searched zero c a e h u v = absurd (omega arith)
  searched (suc d) c a e h u v =
      ⊎_elim
      (λ (t : ltb (run_end words c) a ≡ true).
      let passed : run_end words c < a = ltb-true (run_end words c) a t in
      let ends = end_is c h in
      let more : suc c < length rs = more_runs f (2 ^ 32) rs 0 c lists h (omega arith) in
      let next = next_run f (2 ^ 32) rs 0 c lists more in
      let one : c + 1 ≡ suc c = omega arith in
      ap (run_port words) (run_of_passed words c a (omega (arith, counted)) passed)
      ∙ rw one (searched d (suc c) a (omega arith) more (omega arith) v))
      (λ (t : ltb (run_end words c) a ≡ false).
      let reached : a ≤ run_end words c = ltb-false (run_end words c) a t in
      let port = one_port f (2 ^ 32) rs 0 c a lists h u (omega (arith, end_is c h)) in
      ap (run_port words) (run_of_here words c a reached) ∙ port_is c h
      ∙ ap (λ (p : ℕ). p % 65536) (sym port) ∙ mod-eq_of_lt (small a))
      (way (ltb (run_end words c) a))

  some_run : 0 < length rs
  some_run = go rs lists
    where
      go : (qs : List Run) → Lists f (2 ^ 32) 0 qs → 0 < length qs
      go [] l = absurd (omega arith)
      go (q ∷ qs) l = omega arith

  pub listing_port : (a : ℕ) → a < 2 ^ 32 → port_from words 0 a ≡ f a
  listing_port a h =
      searched (length rs) 0 a (omega arith) some_run (omega (arith, first_run f (2 ^ 32) rs 0 lists some_run)) h
