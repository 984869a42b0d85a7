-- Demands 1 and 2 of many lookups in one call. Assumes nothing.
use mathlib.Core.Path.{◌≡◌, sym, ap, ◌∙◌}
use mathlib.Core.Logic.{◌⊎◌, inl, inr}
use mathlib.Core.Bool.{true, false, cond}
use mathlib.Core.List.{List}
use Prim.Native.Nat.{ℕ, ◌≤◌}
use native.Mathlib.Omega.{arith}
use lib.Dec.{eqb, leb}
use lib.ListN.{length, get_or, drop}
use Rattle.promise.specs.Over.{Outcome, outcome, over}
use Rattle.lists.specs.Numbered.{list_of}
use Rattle.lists.proofs.Tests.{way}
use Rattle.refusals.specs.Refusals.{no_room, wrong_stride, refused, accepted, found}
use Rattle.refusals.specs.Reply.{Reply, looked, replied}
use Rattle.refusals.specs.declared.found.Found.{Found}
use Rattle.routes.specs.Bounds.{last_port}
use Rattle.many_rules.specs.Many.{unfound, told, elements, some_unfound, lookup_many}
use Rattle.many_rules.proofs.Many.{many_is_each, many_room, many_found}
use Rattle.image_rules.specs.Lookup.{is_stride, lookup_words}
use Rattle.image_lookup.specs.Many.{many_words}
use Rattle.demands.specs.Lamp.{done}
use Rattle.demands.specs.ManyChecks.{many_checks, image_many_checks, EachElement}
use Rattle.demands.specs.Boundary.{result}
use Rattle.demands.proofs.Tells.{tells_le}
use Rattle.demands.proofs.Shown.{Refuses, writing, on_test, on_accepted, on_refused}
use Rattle.demands.proofs.OfImages.{tells_stride}

pub many_refuses : (look : ℕ → Found) (addresses out : List ℕ) → Refuses (many_checks addresses out) 0 out (lookup_many look addresses out)
unfolding lookup_many
many_refuses look addresses out =
    let n = length addresses in
    on_test (writing 0 out) (leb n (length out)) _ (tells_le n (length out)) no_room 0 done
    (λ b. cond b (outcome (told (some_unfound look addresses n)) (over (elements look addresses n) out)) (outcome (refused no_room 0) out))
    (on_accepted 0 out (cond (some_unfound look addresses n) 1 0) (over (elements look addresses n) out)) (on_refused out no_room 0)

pub image_many_refuses : (w s : ℕ) (nodes ports addresses out : List ℕ)
    → Refuses (image_many_checks s addresses out) 0 out (many_words w s nodes ports addresses out)
unfolding many_words
image_many_refuses w s nodes ports addresses out =
    on_test (writing 0 out) (is_stride s) _ (tells_stride s) wrong_stride 0 _
    (λ b. cond b (lookup_many (lookup_words w s nodes ports) addresses out) (outcome (refused wrong_stride 0) out))
    (many_refuses (lookup_words w s nodes ports) addresses out) (on_refused out wrong_stride 0)

-- with a stride, it is the lookups in the image
pub many_strided : (w s : ℕ) (nodes ports addresses out : List ℕ) → is_stride s ≡ true
    → many_words w s nodes ports addresses out ≡ lookup_many (lookup_words w s nodes ports) addresses out
unfolding many_words
many_strided w s nodes ports addresses out e = rw e

-- and a call that is done had one
pub many_done_strided : (w s : ℕ) (nodes ports addresses out : List ℕ) → (many_words w s nodes ports addresses out).answer.number ≡ 0 → is_stride s ≡ true
unfolding many_words
many_done_strided w s nodes ports addresses out z = by (way (is_stride s))
  where
    by : (is_stride s ≡ true) ⊎ (is_stride s ≡ false) → is_stride s ≡ true
    by (inl a) = a
    by (inr a) = absurd (omega (arith, rw a at z))

-- where a single lookup replies what `look` says, the elements are those of the single lookups
pub elements_are : (look : ℕ → Found) (Looks : ℕ → Reply → Type 0) → ((a : ℕ) (x : Reply) → Looks a x → x ≡ looked (look a))
    → (addresses out : List ℕ) (o : Outcome Reply) → o ≡ replied (lookup_many look addresses out) → o.answer.number ≡ 0
    → EachElement Looks addresses out o
elements_are look Looks follows addresses out o is z =
    let m = many_is_each look addresses out (many_room look addresses out (sym (ap (λ (p : Outcome Reply). p.answer.number) is) ∙ z)) in
    let at : (i : ℕ) → get_or o.lent i 0 ≡ get_or (lookup_many look addresses out).lent i 0 = λ i. ap (λ (p : Outcome Reply). get_or p.lent i 0) is in
    let answered : result o.answer ≡ (lookup_many look addresses out).answer.count = ap (λ (p : Outcome Reply). result p.answer) is in
    record {
      each = λ i x l k.
          at i ∙ m.each i l
          ∙ sym (ap (λ (y : Reply). cond (eqb y.number 0) (result y) unfound) (follows (get_or addresses i 0) x k));
      size = ap (λ (p : Outcome Reply). length p.lent) is ∙ m.size;
      rest = ap (λ (p : Outcome Reply). drop (length addresses) p.lent) is ∙ m.rest;
      told = λ i l e. answered ∙ m.told (record { which = i; below = l; is = sym (m.each i l) ∙ sym (at i) ∙ e });
      untold = λ none. answered ∙ m.untold (λ u. none u.which u.below (at u.which ∙ m.each u.which u.below ∙ u.is));
    }

-- where every lookup finds a port, and ports are at most 4094
pub all_found : (look : ℕ → Found) (port reads : ℕ → ℕ) (addresses out : List ℕ) → length addresses ≤ length out
    → ((i : ℕ) → look (get_or addresses i 0) ≡ found (port i) (reads i)) → ((a : ℕ) → (look a).port ≤ last_port)
    → lookup_many look addresses out ≡ outcome (accepted 0) (over (list_of port (length addresses) 0) out)
all_found look port reads addresses out room finds low =
    many_found look addresses out port room
    (λ i l. (ap (λ (x : Found). x.number) (finds i), ap (λ (x : Found). x.port) (finds i)))
    (λ i l. omega (arith, low (get_or addresses i 0), ap (λ (x : Found). x.port) (finds i)))
