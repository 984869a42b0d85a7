-- Runs added up are the number of addresses of each port. Assumes nothing.
use mathlib.Core.Path.{◌≡◌, sym, ap, ◌∙◌, subst}
use mathlib.Core.Logic.{◌⊎◌, inl, inr}
use mathlib.Core.Bool.{Bool, true, false, cond}
use mathlib.Core.List.{List, [], ◌∷◌, ◌++◌}
use Prim.Native.Nat.{ℕ, zero, suc, ◌+◌, ◌-◌, ◌*◌, ◌^◌, ◌≤◌, ◌<◌}
use native.Mathlib.Omega.{arith}
use native.Mathlib.Numerals.{add-one}
use lib.Dec.{eqb}
use lib.ListN.{length, get_or, set, length-set, get_or-append}
use lib.Seq.{ext_get_or, get_or-set_same, get_or-set_other, set-append_left}
use borrow.Author.Tests.{eqb-true, eqb-false}
use Rattle.promise.specs.Over.{over}
use Rattle.promise.proofs.Over.{over_push}
use Rattle.lists.specs.Numbered.{list_of}
use Rattle.lists.proofs.Tests.{way}
use Rattle.lists.proofs.Numbered.{list_of_snoc, length_list_of, list_of_same}
use Rattle.lists.proofs.Below.{number_zero}
use Rattle.runs_rules.specs.Runs.{Run, RunAt, Lists}
use Rattle.count_rules.specs.Tally.{ports, addresses, tally}
use Rattle.count_rules.proofs.Tally.{addresses_run}
use Rattle.count_rules.proofs.OfTable.{tally_at}
use Rattle.count_make.specs.Adding.{noughts, addresses_of, add_run, added_runs}

-- one count more is 0
pub noughts_push : (lent : List ℕ) (k : ℕ) → k < length lent → set (over (noughts k) lent) k 0 ≡ over (noughts (k + 1)) lent
noughts_push lent k h =
    over_push (noughts k) lent 0 k (length_list_of (λ _. 0) k 0) h
    ∙ ap (λ (xs : List ℕ). over xs lent) (sym (list_of_snoc (λ _. 0) k 0) ∙ ap noughts (sym (add-one k)))

-- no address is counted yet
pub noughts_tally : (f : ℕ → ℕ) → noughts ports ≡ tally f 0
noughts_tally f = list_of_same (λ _. 0) (λ port. addresses f port 0) ports 0 (λ port h l. sym (number_zero (λ a. eqb (f a) port)))

length_tally : (f : ℕ → ℕ) (k : ℕ) → length (tally f k) ≡ ports
length_tally f k = length_list_of (λ port. addresses f port k) ports 0

-- a run more
tally_run : (f : ℕ → ℕ) (n a : ℕ) (r : Run) → RunAt f n a r → r.port < ports → add_run (tally f a) r ≡ tally f (r.last + 1)
tally_run f n a r at few =
    ext_get_or 0 (add_run (tally f a) r) (tally f (r.last + 1))
    (length-set (tally f a) r.port _ ∙ length_tally f a ∙ sym (length_tally f (r.last + 1)))
    (λ port h. each port (subst (λ (m : ℕ). port < m) (length-set (tally f a) r.port _ ∙ length_tally f a) h) (way (eqb r.port port)))
  where
    each : (port : ℕ) → port < ports → (eqb r.port port ≡ true) ⊎ (eqb r.port port ≡ false)
        → get_or (add_run (tally f a) r) port 0 ≡ get_or (tally f (r.last + 1)) port 0
    each port h (inl t) =
        let e : r.port ≡ port = eqb-true r.port port t in
        ap (λ (p : ℕ). get_or (add_run (tally f a) r) p 0) (sym e)
        ∙ get_or-set_same (tally f a) r.port (get_or (tally f a) r.port 0 + addresses_of r) 0 (subst (λ (m : ℕ). r.port < m) (sym (length_tally f a)) few)
        ∙ ap (λ (x : ℕ). x + addresses_of r) (tally_at f a r.port few)
        ∙ ap (λ (p : ℕ). addresses f p a + addresses_of r) e
        ∙ sym (tally_at f (r.last + 1) port h ∙ addresses_run f port n a r at ∙ ap (λ (b : Bool). addresses f port a + cond b (addresses_of r) 0) t)
    each port h (inr t) =
        let ne : (r.port ≡ port → ⊥) = eqb-false r.port port t in
        let z : addresses f port a + 0 ≡ addresses f port a = omega arith in
        get_or-set_other (tally f a) r.port port (get_or (tally f a) r.port 0 + addresses_of r) 0 (λ e. ne (sym e))
        ∙ tally_at f a port h
        ∙ sym (tally_at f (r.last + 1) port h ∙ addresses_run f port n a r at ∙ ap (λ (b : Bool). addresses f port a + cond b (addresses_of r) 0) t ∙ z)

-- all of them, in front of what else is lent
tally_runs : (f : ℕ → ℕ) (n a : ℕ) (rs : List Run) (rest : List ℕ) → Lists f n a rs → ((x : ℕ) → f x < ports)
    → added_runs (tally f a ++ rest) rs ≡ tally f n ++ rest
unfolding added_runs
tally_runs f n a [] rest ls few = ap (λ (k : ℕ). tally f k ++ rest) ls
tally_runs f n a (r ∷ rs) rest ls few =
    let at = ls.0 in
    let port : r.port < ports = subst (λ (p : ℕ). p < ports) (at.one_port a (omega arith) at.some) (few a) in
    let within : r.port < length (tally f a) = subst (λ (m : ℕ). r.port < m) (sym (length_tally f a)) port in
    ap (λ (xs : List ℕ). added_runs xs rs)
    (ap (λ (c : ℕ). set (tally f a ++ rest) r.port (c + addresses_of r)) (get_or-append (tally f a) rest 0 r.port within)
    ∙ set-append_left (tally f a) rest r.port _ within
    ∙ ap (λ (xs : List ℕ). xs ++ rest) (tally_run f n a r at port))
    ∙ tally_runs f n (r.last + 1) rs rest ls.2 few

-- from noughts on
pub added_all : (f : ℕ → ℕ) (n : ℕ) (rs : List Run) (lent : List ℕ) → Lists f n 0 rs → ((x : ℕ) → f x < ports)
    → added_runs (over (noughts ports) lent) rs ≡ over (tally f n) lent
added_all f n rs lent ls few =
    ap (λ (xs : List ℕ). added_runs (over xs lent) rs) (noughts_tally f)
    ∙ ap (λ (m : ℕ). added_runs (tally f 0 ++ lib.ListN.drop m lent) rs) (length_tally f 0)
    ∙ tally_runs f n 0 rs (lib.ListN.drop ports lent) ls few
    ∙ ap (λ (m : ℕ). tally f n ++ lib.ListN.drop m lent) (sym (length_tally f n))

-- every run of a listing has addresses, and a port that is counted

pub listed_some : (f : ℕ → ℕ) (n a : ℕ) (rs : List Run) (d : Run) → Lists f n a rs → (i : ℕ) → i < length rs → (get_or rs i d).first ≤ (get_or rs i d).last
listed_some f n a [] d ls i h = absurd (omega arith)
listed_some f n a (r ∷ rs) d ls zero h = omega (arith, ls.0.starts, ls.0.some)
listed_some f n a (r ∷ rs) d ls (suc i) h = listed_some f n (r.last + 1) rs d ls.2 i (omega arith)

pub listed_port : (f : ℕ → ℕ) (n a : ℕ) (rs : List Run) (d : Run) → Lists f n a rs → ((x : ℕ) → f x < ports) → (i : ℕ) → i < length rs
    → (get_or rs i d).port < ports
listed_port f n a [] d ls few i h = absurd (omega arith)
listed_port f n a (r ∷ rs) d ls few zero h = subst (λ (p : ℕ). p < ports) (ls.0.one_port a (omega arith) ls.0.some) (few a)
listed_port f n a (r ∷ rs) d ls few (suc i) h = listed_port f n (r.last + 1) rs d ls.2 few i (omega arith)

-- a turn of the loop

pub added_more : (R : ℕ → Run) (counts : List ℕ) (k i : ℕ) → i < k
    → added_runs counts (list_of R (k - i) i) ≡ added_runs (add_run counts (R i)) (list_of R (k - (i + 1)) (i + 1))
unfolding added_runs list_of
added_more R counts k i h = let e : k - i ≡ suc (k - (i + 1)) = omega arith in ap (λ (m : ℕ). added_runs counts (list_of R m i)) e

pub added_none : (R : ℕ → Run) (counts : List ℕ) (k i : ℕ) → k ≤ i → added_runs counts (list_of R (k - i) i) ≡ counts
unfolding added_runs list_of
added_none R counts k i h = let e : k - i ≡ 0 = omega arith in ap (λ (m : ℕ). added_runs counts (list_of R m i)) e

-- a run has at most 2^32 addresses, so that as many fewer are still to come
pub added_small : (counts : List ℕ) (r : Run) (k i : ℕ) → i < k → r.port < length counts → r.last < 2 ^ 32
    → r.port < ports → ((port : ℕ) → port < ports → get_or counts port 0 + (k - i) * 2 ^ 32 < 2 ^ 64)
    → (port : ℕ) → port < ports → get_or (add_run counts r) port 0 + (k - (i + 1)) * 2 ^ 32 < 2 ^ 64
added_small counts r k i h within few counted small port low = by (way (eqb port r.port))
  where
    fewer : (k - i) * 2 ^ 32 ≡ (k - (i + 1)) * 2 ^ 32 + 2 ^ 32
    fewer = let e : k - i ≡ k - (i + 1) + 1 = omega arith in ap (λ (m : ℕ). m * 2 ^ 32) e ∙ omega arith

    by : (eqb port r.port ≡ true) ⊎ (eqb port r.port ≡ false) → get_or (add_run counts r) port 0 + (k - (i + 1)) * 2 ^ 32 < 2 ^ 64
    by (inl t) =
        let e : port ≡ r.port = eqb-true port r.port t in
        let is : get_or (add_run counts r) port 0 ≡ get_or counts r.port 0 + addresses_of r =
        ap (λ (p : ℕ). get_or (add_run counts r) p 0) e ∙ get_or-set_same counts r.port (get_or counts r.port 0 + addresses_of r) 0 within in
        omega (arith, is, fewer, small r.port counted)
    by (inr t) =
        let is : get_or (add_run counts r) port 0 ≡ get_or counts port 0 =
        get_or-set_other counts r.port port (get_or counts r.port 0 + addresses_of r) 0 (eqb-false port r.port t) in
        omega (arith, is, fewer, small port low)
