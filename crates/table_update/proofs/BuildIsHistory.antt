-- A build leaves what the history of its announcements leaves, and each of them is accepted. Assumes nothing.
use mathlib.Core.Path.{◌≡◌, sym, ap, ◌∙◌, subst}
use mathlib.Core.Logic.{◌⊎◌, inl, inr}
use mathlib.Core.Bool.{true, false}
use mathlib.Core.List.{List}
use Prim.Native.Nat.{ℕ, zero, suc, ◌+◌, ◌≤◌}
use native.Mathlib.Omega.{arith}
use lib.Dec.{eqb, leb}
use borrow.Author.Tests.{eqb-true, eqb-false, leb-true}
use Rattle.lists.specs.Numbered.{list_of}
use Rattle.lists.proofs.Tests.{way}
use Rattle.promise.specs.Over.{Outcome, outcome}
use Rattle.refusals.specs.Refusals.{accepted}
use Rattle.refusals.specs.declared.Answer.{Answer}
use Rattle.routes.specs.Routes.{route_at, route_count, ValidList}
use Rattle.routes.specs.Check.{list_check}
use Rattle.routes.specs.declared.Route.{Route}
use Rattle.routes.proofs.Check.{accepted_valid}
use Rattle.table_rules.specs.Rows.{Layout, Stores}
use Rattle.table_update.specs.Calls.{announce_into, built_from, build_into}
use Rattle.table_update.specs.History.{Call, announcing, Table, after, is_accepted, ran, AllAccepted, announcements}
use Rattle.table_update.specs.Theorems.{LeftBy, BuildIsHistory, AcceptedBuildIsHistory}
use Rattle.table_update.proofs.BuildIsGood.{build_is_announcing}

module _ (L : Layout (List ℕ)) (w : ℕ) (st : Stores w L) (R : ℕ → Route) (words : List ℕ) (n : ℕ) (ok : ValidList w R n) (room : n ≤ L.room words) where
  -- the table of the first i routes
  abbrev up_to : ℕ → Table
  up_to i = record { words = built_from L w R i 0 words; count = i }

  history_from : (m i : ℕ) → i + m ≡ n
      → let calls : List Call = list_of (λ j. announcing (R j)) m i in
      AllAccepted L w (up_to i) calls × (ran L w (up_to i) calls ≡ up_to n)
  unfolding list_of ran
  history_from zero i e = (tt, ap up_to (let z : i ≡ n = omega arith in z))
  history_from (suc m) i e =
      let calls : List Call = list_of (λ j. announcing (R j)) m (i + 1) in
      let step : announce_into L w (built_from L w R i 0 words) i (R i) ≡ outcome (accepted (i + 1)) (built_from L w R (i + 1) 0 words) =
      build_is_announcing L w st R words n i ok room (omega arith) in
      let next : after L w (up_to i) (announcing (R i)) ≡ up_to (i + 1) =
      ap (λ (o : Outcome Answer). record { words = o.lent; count = o.answer.count }) step in
      let taken : is_accepted L w (up_to i) (announcing (R i)) ≡ true = ap (λ (o : Outcome Answer). eqb o.answer.number 0) step in
      let rest = history_from m (i + 1) (omega arith) in (
        (taken, subst (λ (t : Table). AllAccepted L w t calls) (sym next) rest.0),
        ap (λ (t : Table). ran L w t calls) next ∙ rest.1,
      )

pub build_is_history : (L : Layout (List ℕ)) (w : ℕ) → Stores w L → BuildIsHistory L w
unfolding built_from
build_is_history L w st R words n ok room =
    let all = history_from L w st R words n ok room n 0 (omega arith) in record { each = all.0; left = all.1 }

-- a build that is done had a valid list, and room for it
module _ (L : Layout (List ℕ)) (w : ℕ) (list words : List ℕ) (z : (build_into L w list words).answer.number ≡ 0) where
  pub record Built : Type 0 where
    pub fine : (list_check w list).number ≡ 0
    pub room : route_count list ≤ L.room words
    pub is : build_into L w list words ≡ outcome (accepted (route_count list)) (built_from L w (route_at list) (route_count list) 0 words)

  pub build_accepted : Built
  unfolding build_into
  build_accepted = by (way (eqb (list_check w list).number 0)) (way (leb (route_count list) (L.room words)))
    where
      by : (eqb (list_check w list).number 0 ≡ true) ⊎ (eqb (list_check w list).number 0 ≡ false)
          → (leb (route_count list) (L.room words) ≡ true) ⊎ (leb (route_count list) (L.room words) ≡ false) → Built
      by (inr a) b = absurd (eqb-false (list_check w list).number 0 a (rw a at z))
      by (inl a) (inr b) = absurd (omega (arith, rw (a, b) at z))
      by (inl a) (inl b) = record { fine = eqb-true (list_check w list).number 0 a; room = leb-true (route_count list) (L.room words) b; is = rw (a, b) }

pub accepted_build_is_history : (L : Layout (List ℕ)) (w : ℕ) → Stores w L → AcceptedBuildIsHistory L w
accepted_build_is_history L w st list words fits z =
    let b = build_accepted L w list words z in
    subst (λ (o : Outcome Answer). LeftBy L w words (announcements (route_at list) (route_count list)) o.lent o.answer.count) (sym b.is)
    (build_is_history L w st (route_at list) words (route_count list) (accepted_valid w list fits b.fine) b.room)
