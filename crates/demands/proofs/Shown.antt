-- How the lamp of a call is shown to be exact: one check at a time, in any answer that has a number and a place. Assumes nothing.
use mathlib.Core.Path.{◌≡◌, refl, sym}
use mathlib.Core.Logic.{inl, inr}
use mathlib.Core.Bool.{Bool, true, false}
use mathlib.Core.List.{List}
use Prim.Native.Nat.{ℕ}
use Rattle.promise.specs.Over.{Outcome, outcome}
use Rattle.refusals.specs.Refusals.{unless, refused, accepted}
use Rattle.refusals.specs.declared.Answer.{Answer}
use Rattle.refusals.specs.declared.found.Found.{Found}
use Rattle.demands.specs.Lamp.{Verdict, shows, done, whether, refuse, Lamp}
use Rattle.demands.proofs.Tells.{Tells}

-- what is seen of an answer
pub record View : Type 1 where
  pub Seen : Type 0
  pub number : Seen → ℕ
  pub place : Seen → ℕ
  pub Kept : Seen → Type 0

abbrev pub On : (v : View) → Verdict → v.Seen → Type 0
On v checks x = Lamp checks (v.number x) (v.place x) (v.Kept x)

-- the views of the demands: an answer alone, and with the memory that was lent
abbrev pub alone : View
alone = record { Seen = Answer; number = λ x. x.number; place = λ x. x.place; Kept = λ x. x.count ≡ 0 }

abbrev pub writing : ℕ → List ℕ → View
writing count lent = record {
  Seen = Outcome Answer;
  number = λ o. o.answer.number;
  place = λ o. o.answer.place;
  Kept = λ o. (o.answer.count ≡ count) × (o.lent ≡ lent);
}

-- the answer of a lookup: its place is 0, and refused, so is its port
abbrev pub looking : View
looking = record { Seen = Found; number = λ x. x.number; place = λ _. 0; Kept = λ x. x.port ≡ 0 }

-- a call that answers a count: refused, that is as said, and no lent memory is written
abbrev pub Refuses : Verdict → ℕ → List ℕ → Outcome Answer → Type 0
Refuses checks count lent o = On (writing count lent) checks o

-- a call that is lent nothing to write
abbrev pub RefusesOnly : Verdict → Answer → Type 0
RefusesOnly checks x = On alone checks x

pub on_accepted : (count : ℕ) (lent : List ℕ) (n : ℕ) (words : List ℕ) → On (writing count lent) done (outcome (accepted n) words)
on_accepted count lent n words = record { exact = (refl, refl); kept = λ wrong. absurd (wrong refl) }

pub on_refused : (lent : List ℕ) (m p : ℕ) → On (writing 0 lent) (shows m p) (outcome (refused m p) lent)
on_refused lent m p = record { exact = (refl, refl); kept = λ _. (refl, refl) }

module _ (v : View) where
  -- what follows, where nothing is wrong; and the refusal, where something is
  fine_on : (Wrong : Type 0) (m p : ℕ) (rest : Verdict) (x : v.Seen) → (Wrong → ⊥) → On v rest x → On v (refuse m p Wrong rest) x
  fine_on Wrong m p rest x isnt on = record { exact = inr (isnt, on.exact); kept = on.kept }

  wrong_on : (Wrong : Type 0) (m p : ℕ) (rest : Verdict) (x : v.Seen) → Wrong → On v (shows m p) x → On v (refuse m p Wrong rest) x
  wrong_on Wrong m p rest x is on = record { exact = inl (is, on.exact); kept = on.kept }

  module _ (b : Bool) (Wrong : Type 0) (tells : Tells b Wrong) (m p : ℕ) (rest : Verdict) where
    -- a test that is true where nothing is wrong, for any answer that depends on it; what follows may use that it was true
    pub on_test_then : (answer : Bool → v.Seen) → (b ≡ true → On v rest (answer true)) → On v (shows m p) (answer false)
        → On v (refuse m p Wrong rest) (answer b)
    on_test_then answer next shown = go b refl
      where
        go : (c : Bool) → c ≡ b → On v (refuse m p Wrong rest) (answer c)
        go true e = fine_on Wrong m p rest (answer true) (tells.fine (sym e)) (next (sym e))
        go false e = wrong_on Wrong m p rest (answer false) (tells.wrong (sym e)) shown

    pub on_test : (answer : Bool → v.Seen) → On v rest (answer true) → On v (shows m p) (answer false) → On v (refuse m p Wrong rest) (answer b)
    on_test answer next shown = on_test_then answer (λ _. next) shown

    -- a chain of numbered faults
    pub on_unless_then : (answer : ℕ → v.Seen) (after : ℕ) → (b ≡ true → On v rest (answer after)) → On v (shows m p) (answer m)
        → On v (refuse m p Wrong rest) (answer (unless b m after))
    on_unless_then answer after next shown = on_test_then (λ c. answer (unless c m after)) next shown

    pub on_unless : (answer : ℕ → v.Seen) (after : ℕ) → On v rest (answer after) → On v (shows m p) (answer m)
        → On v (refuse m p Wrong rest) (answer (unless b m after))
    on_unless answer after next shown = on_unless_then answer after (λ _. next) shown

  module _ (b : Bool) (P : Type 0) (then else : Verdict) (answer : Bool → v.Seen) (is : b ≡ true → P) (isnt : b ≡ false → P → ⊥) where
    -- one of two ways: the test is true where P is; what follows may use how it went
    pub on_whether_then : (b ≡ true → On v then (answer true)) → (b ≡ false → On v else (answer false)) → On v (whether P then else) (answer b)
    on_whether_then x y = go b refl
      where
        go : (c : Bool) → c ≡ b → On v (whether P then else) (answer c)
        go true e = let on = x (sym e) in record { exact = inl (is (sym e), on.exact); kept = on.kept }
        go false e = let on = y (sym e) in record { exact = inr (isnt (sym e), on.exact); kept = on.kept }

    pub on_whether : On v then (answer true) → On v else (answer false) → On v (whether P then else) (answer b)
    on_whether x y = on_whether_then (λ _. x) (λ _. y)
