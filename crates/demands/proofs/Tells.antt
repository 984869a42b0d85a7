-- A test that is true exactly where nothing is wrong: the tests of the definitions, and what the checks call wrong. Assumes nothing.
use mathlib.Core.Path.{◌≡◌, refl, sym, ◌∙◌}
use mathlib.Core.Logic.{◌⊎◌, inl, inr}
use mathlib.Core.Bool.{Bool, true, false, not, ◌&&◌, ◌||◌, false≢true, true≢false}
use Prim.Native.Nat.{ℕ, ◌-◌, ◌<◌, ◌≤◌}
use native.Mathlib.Omega.{arith}
use lib.Dec.{eqb, leb, ltb}
use borrow.Author.Tests.{eqb-true, eqb-false, leb-true, leb-false, ltb-true, ltb-false}
use Rattle.bits.specs.Prefix.{precedes}
use Rattle.routes.specs.Check.{is_port, above}
use Rattle.routes.specs.Bounds.{last_port}
use Rattle.routes.specs.declared.Route.{Route}
use Rattle.demands.specs.Checks.{NoPort, NotAbove}

pub record Tells (test : Bool) (Wrong : Type 0) : Type 0 where
  pub fine : test ≡ true → Wrong → ⊥
  pub wrong : test ≡ false → Wrong

-- and what is the same as being wrong
pub tells_as : (b : Bool) (A B : Type 0) → (A → B) → (B → A) → Tells b A → Tells b B
tells_as b A B f g t = record { fine = λ e x. t.fine e (g x); wrong = λ e. f (t.wrong e) }

pub tells_itself : (b : Bool) → Tells b (b ≡ false)
tells_itself b = record { fine = λ e f. true≢false (sym e ∙ f); wrong = λ e. e }

pub tells_not : (b : Bool) → Tells (not b) (b ≡ true)
tells_not true = record { fine = λ e _. false≢true e; wrong = λ _. refl }
tells_not false = record { fine = λ _ f. false≢true f; wrong = λ e. absurd (true≢false e) }

pub tells_le : (a b : ℕ) → Tells (leb a b) (b < a)
tells_le a b = record { fine = λ e h. omega (arith, leb-true a b e); wrong = leb-false a b }

pub tells_lt : (a b : ℕ) → Tells (ltb a b) (b ≤ a)
tells_lt a b = record { fine = λ e h. omega (arith, ltb-true a b e); wrong = ltb-false a b }

pub tells_eq : (a b : ℕ) → Tells (eqb a b) (a ≡ b → ⊥)
tells_eq a b = record { fine = λ e h. h (eqb-true a b e); wrong = eqb-false a b }

pub tells_and : (a b : Bool) (A B : Type 0) → Tells a A → Tells b B → Tells (a && b) (A ⊎ B)
tells_and true b A B s t = record { fine = λ e. ⊎_no e; wrong = λ e. inr (t.wrong e) }
  where
    ⊎_no : b ≡ true → A ⊎ B → ⊥
    ⊎_no e (inl x) = s.fine refl x
    ⊎_no e (inr y) = t.fine e y
tells_and false b A B s t = record { fine = λ e _. false≢true e; wrong = λ _. inl (s.wrong refl) }

pub tells_or : (a b : Bool) (A B : Type 0) → Tells a A → Tells b B → Tells (a || b) (A × B)
tells_or true b A B s t = record { fine = λ _ x. s.fine refl x.0; wrong = λ e. absurd (true≢false e) }
tells_or false b A B s t = record { fine = λ e x. t.fine e x.1; wrong = λ e. (s.wrong refl, t.wrong e) }

pub tells_port : (port : ℕ) → Tells (is_port port) (NoPort port)
tells_port port =
    tells_and (ltb 0 port) (leb port last_port) (port ≡ 0) (last_port < port)
    (tells_as (ltb 0 port) (port ≤ 0) (port ≡ 0) (λ h. omega arith) (λ h. omega arith) (tells_lt 0 port)) (tells_le port last_port)

pub tells_above : (R : ℕ → Route) (i : ℕ) → Tells (above R i) (NotAbove R i)
tells_above R i =
    let before = precedes (R (i - 1)).value (R (i - 1)).len (R i).value (R i).len in
    tells_or (eqb i 0) before (0 < i) (before ≡ false)
    (tells_as (eqb i 0) (i ≡ 0 → ⊥) (0 < i) (λ h. omega (arith, h)) (λ h e. omega arith) (tells_eq i 0)) (tells_itself before)
