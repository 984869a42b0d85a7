-- After a build that is done the lookup is the plain scan, and a refused one has left every word. Assumes nothing.
use mathlib.Core.Path.{◌≡◌, ap, ◌∙◌}
use mathlib.Core.Logic.{⊎_elim}
use mathlib.Core.Bool.{true, false}
use mathlib.Core.List.{List}
use Prim.Native.Nat.{ℕ}
use native.Mathlib.Omega.{arith}
use lib.Dec.{eqb}
use borrow.Author.Tests.{eqb-true, eqb-false, eq-eqb}
use Rattle.lists.proofs.Tests.{way}
use Rattle.routes.specs.Routes.{route_at, route_count}
use Rattle.routes.specs.Check.{list_check}
use Rattle.routes.specs.declared.Route.{Route}
use Rattle.routes.proofs.Check.{accepted_valid}
use Rattle.segment_rules.specs.Build.{Stores, have_room, tables_over, segments_into, build_segments, lookup_stores, BuiltIsScan, RefusalWritesNothing}
use Rattle.segment_rules.proofs.Walk.{lookup_is_scan}

module _ (R : ℕ → Route) (n : ℕ) (s : Stores) where
  pub into_done : (segments_into R n s).built.number ≡ 0 → (segments_into R n s).stores ≡ tables_over R n s
  unfolding segments_into
  into_done e =
      ⊎_elim
      (λ (t : have_room R n s ≡ true). rw t)
      (λ (t : have_room R n s ≡ false). absurd (omega (arith, rw t at e)))
      (way (have_room R n s))

  pub into_refused : ((segments_into R n s).built.number ≡ 0 → ⊥) → (segments_into R n s).stores ≡ s
  unfolding segments_into
  into_refused e =
      ⊎_elim
      (λ (t : have_room R n s ≡ true). absurd (e (rw t)))
      (λ (t : have_room R n s ≡ false). rw t)
      (way (have_room R n s))

-- a build that is done had a list that is accepted
pub build_accepted : (list : List ℕ) (s : Stores) → (build_segments list s).built.number ≡ 0 → (list_check 32 list).number ≡ 0
unfolding build_segments
build_accepted list s e =
    ⊎_elim
    (λ (t : eqb (list_check 32 list).number 0 ≡ true). eqb-true (list_check 32 list).number 0 t)
    (λ (t : eqb (list_check 32 list).number 0 ≡ false). absurd (eqb-false (list_check 32 list).number 0 t (rw t at e)))
    (way (eqb (list_check 32 list).number 0))

pub build_into_lem : (list : List ℕ) (s : Stores) → (list_check 32 list).number ≡ 0 → build_segments list s ≡ segments_into (route_at list) (route_count list) s
unfolding build_segments
build_into_lem list s z = rw (eq-eqb (list_check 32 list).number 0 z)

pub build_done : (list : List ℕ) (s : Stores) → (build_segments list s).built.number ≡ 0
    → (build_segments list s).stores ≡ tables_over (route_at list) (route_count list) s
build_done list s e =
    let into = build_into_lem list s (build_accepted list s e) in
    rw into (into_done (route_at list) (route_count list) s (rw into at e))

pub built_is_scan : BuiltIsScan
built_is_scan list s a fits e h =
    let R = route_at list in
    let n = route_count list in
    ap (λ (t : Stores). lookup_stores t a) (build_done list s e)
    ∙ lookup_is_scan R n a s.first s.packed s.plain s.last (accepted_valid 32 list fits (build_accepted list s e)) h

pub refusal_writes_nothing : RefusalWritesNothing
unfolding build_segments
refusal_writes_nothing list s e =
    ⊎_elim
    (λ (t : eqb (list_check 32 list).number 0 ≡ true). rw t (into_refused (route_at list) (route_count list) s (rw t at e)))
    (λ (t : eqb (list_check 32 list).number 0 ≡ false). rw t)
    (way (eqb (list_check 32 list).number 0))
