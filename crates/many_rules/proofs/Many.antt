-- Laws of many lookups in one call: one element more, all of them, and what they leave. Assumes nothing.
use mathlib.Core.Path.{◌≡◌, sym, ap, ◌∙◌}
use mathlib.Core.Logic.{◌⊎◌, inl, inr}
use mathlib.Core.Bool.{Bool, true, false, cond, ◌||◌}
use mathlib.Core.List.{List, [], ◌∷◌, ◌++◌}
use Prim.Native.Nat.{ℕ, ◌+◌, ◌≤◌, ◌<◌}
use native.Mathlib.Omega.{arith}
use native.Mathlib.Nat.{zero-add}
use native.Mathlib.Numerals.{add-one}
use lib.Dec.{eqb, leb}
use lib.ListN.{length, get_or, set, drop, get_or-append}
use lib.Seq.{drop_at}
use borrow.Author.Tests.{le-leb, lt-leb, leb-true, eq-eqb, eqb-true}
use Rattle.promise.specs.Over.{Outcome, outcome, over}
use Rattle.promise.proofs.Over.{over_push, length_over}
use Rattle.lists.specs.Below.{some_below}
use Rattle.lists.proofs.Below.{some_below_lem, passing}
use Rattle.lists.proofs.Numbered.{list_of_snoc, length_list_of, get_d_list_of, list_of_same}
use Rattle.lists.proofs.Tests.{way, test_no}
use Rattle.refusals.specs.declared.Answer.{Answer}
use Rattle.refusals.specs.declared.found.Found.{Found}
use Rattle.many_rules.specs.Many.{unfound, told, element_at, elements, some_unfound, lookup_many}
use Rattle.many_rules.specs.Theorems.{Unfound, ManyIsEach, ManyFound, ShortIsRefused}

module _ (look : ℕ → Found) (addresses : List ℕ) where
  -- one element more
  pub elements_push : (out : List ℕ) (i : ℕ) → i < length out
      → set (over (elements look addresses i) out) i (element_at look addresses i) ≡ over (elements look addresses (i + 1)) out
  elements_push out i h =
      let z : 0 + i ≡ i = zero-add i in
      over_push (elements look addresses i) out (element_at look addresses i) i (length_list_of (element_at look addresses) i 0) h
      ∙ ap (λ (xs : List ℕ). over xs out)
      (sym (ap (λ (k : ℕ). elements look addresses k) (add-one i) ∙ list_of_snoc (element_at look addresses) i 0
      ∙ ap (λ (k : ℕ). elements look addresses i ++ (element_at look addresses k ∷ [])) z))

  -- and whether some is 65,535 now
  pub some_unfound_push : (i : ℕ) → some_unfound look addresses (i + 1) ≡ (eqb (element_at look addresses i) unfound || some_unfound look addresses i)
  unfolding some_below
  some_unfound_push i = rw (add-one i)

  -- with room for all of them
  pub many_done : (out : List ℕ) → length addresses ≤ length out
      → lookup_many look addresses out
      ≡ outcome (told (some_unfound look addresses (length addresses))) (over (elements look addresses (length addresses)) out)
  unfolding lookup_many
  many_done out h = rw (le-leb (length addresses) (length out) h)

  unfound_told : some_unfound look addresses (length addresses) ≡ true → Unfound look addresses
  unfound_told t =
      let p = passing (λ i. eqb (element_at look addresses i) unfound) (length addresses) t in
      record { which = p.which; below = p.below; is = eqb-true (element_at look addresses p.which) unfound p.passes }

  told_unfound : Unfound look addresses → some_unfound look addresses (length addresses) ≡ true
  told_unfound u =
      some_below_lem (λ i. eqb (element_at look addresses i) unfound) (length addresses) u.which u.below
      (eq-eqb (element_at look addresses u.which) unfound u.is)

  -- what is left where there is room
  each_element : (out : List ℕ) (i : ℕ) → i < length addresses
      → get_or (over (elements look addresses (length addresses)) out) i 0 ≡ element_at look addresses i
  each_element out i h =
      let n = length addresses in
      let z : 0 + i ≡ i = zero-add i in
      let l : length (elements look addresses n) ≡ n = length_list_of (element_at look addresses) n 0 in
      get_or-append (elements look addresses n) (drop (length (elements look addresses n)) out) 0 i (omega (arith, l, h))
      ∙ get_d_list_of (element_at look addresses) n 0 i 0 h ∙ ap (λ (k : ℕ). element_at look addresses k) z

  rest_stays : (out : List ℕ) → drop (length addresses) (over (elements look addresses (length addresses)) out) ≡ drop (length addresses) out
  rest_stays out =
      let n = length addresses in
      let l : length (elements look addresses n) ≡ n = length_list_of (element_at look addresses) n 0 in
      drop_at (elements look addresses n) (drop (length (elements look addresses n)) out) n l ∙ ap (λ (k : ℕ). drop k out) l

pub many_is_each : ManyIsEach
many_is_each look addresses out h =
    let e = many_done look addresses out h in
    let n = length addresses in
    record {
      done = ap (λ (o : Outcome Answer). o.answer.number) e;
      place = ap (λ (o : Outcome Answer). o.answer.place) e;
      size = ap (λ (o : Outcome Answer). length o.lent) e ∙ length_over (elements look addresses n) out (omega (arith, length_list_of (element_at look addresses) n 0));
      each = λ i l. ap (λ (o : Outcome Answer). get_or o.lent i 0) e ∙ each_element look addresses out i l;
      rest = ap (λ (o : Outcome Answer). drop n o.lent) e ∙ rest_stays look addresses out;
      told = λ u. ap (λ (o : Outcome Answer). o.answer.count) e ∙ ap (λ (b : Bool). cond b 1 0) (told_unfound look addresses u);
      untold = λ none.
          ap (λ (o : Outcome Answer). o.answer.count) e
          ∙ ap (λ (b : Bool). cond b 1 0) (test_no (some_unfound look addresses n) (λ t. none (unfound_told look addresses t)));
    }

-- a call that is done had room
pub many_room : (look : ℕ → Found) (addresses out : List ℕ) → (lookup_many look addresses out).answer.number ≡ 0 → length addresses ≤ length out
unfolding lookup_many
many_room look addresses out z = by (way (leb (length addresses) (length out)))
  where
    by : (leb (length addresses) (length out) ≡ true) ⊎ (leb (length addresses) (length out) ≡ false) → length addresses ≤ length out
    by (inl t) = leb-true (length addresses) (length out) t
    by (inr t) = absurd (omega (arith, rw t at z))

pub many_found : ManyFound
many_found look addresses out port room found below =
    let n = length addresses in
    let at : (i : ℕ) → i < n → element_at look addresses i ≡ port i = λ i l. let f = found i l in rw f.0 f.1 in
    let none : some_unfound look addresses n ≡ false =
    test_no (some_unfound look addresses n)
    (λ t. let u = unfound_told look addresses t in omega (arith, u.is, at u.which u.below, below u.which u.below)) in
    many_done look addresses out room
    ∙ (λ j. outcome (told (none j)) (over (list_of_same (element_at look addresses) port n 0 (λ i u v. at i (omega arith)) j) out))

pub short_is_refused : ShortIsRefused
unfolding lookup_many
short_is_refused look addresses out h = rw (lt-leb (length addresses) (length out) h)
