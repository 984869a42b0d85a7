-- Any two results that a promise of this crate allows coincide; those of the loop over a closure, where the closure gives what one lookup
-- leaves. Assumes nothing.
use mathlib.Core.Path.{sym, ap, ◌∙◌}
use mir.Syntax.{Dict}
use denote.RattleType.{RattleType}
use denote.Param.Laws.{Laws}
use Rattle.std.proofs.Common.{◌≡◌, ℕ, List, Result}
use Rattle.promise.specs.Over.{outcome}
use Rattle.promise.specs.Determined.{Determined}
use Rattle.refusals.specs.Refusals.{answered}
use Rattle.refusals.specs.declared.Answer.{Answer}
use Rattle.refusals.specs.declared.Refusal.{Refusal}
use Rattle.refusals.specs.declared.found.Found.{Found}
use Rattle.refusals.proofs.Numbers.{told_one, answered_one}
use Rattle.many_rules.specs.Many.{element, lookup_many, Gives}
use Rattle.many_rules.specs.declared.Lookup.{Ghosts}
use Rattle.many_rules.specs.contracts.lookup_many.F-Fn as Closure
use Rattle.many_rules.proofs.element_of.Kinds as element_of_kinds
use Rattle.many_rules.proofs.element_of.Reads as element_of_reads
use Rattle.many_rules.proofs.lookup_each.Kinds as lookup_each_kinds
use Rattle.many_rules.proofs.lookup_each.Reads as lookup_each_reads
use Rattle.many_rules.proofs.lookup_many.Kinds as lookup_many_kinds
use Rattle.many_rules.proofs.lookup_many.Reads as lookup_many_reads
use Rattle.many_rules.proofs.told.Kinds as told_kinds
use Rattle.many_rules.proofs.told.Reads as told_reads

element_of_unique : Determined 0 element_of_kinds.ps element_of_kinds.r element_of_reads.Post (λ κs x s. x)
element_of_unique κs a x y s t p q = p ∙ sym q

told_unique : Determined 0 told_kinds.ps told_kinds.r told_reads.Post (λ κs x s. x)
told_unique κs a x y s t p q = ap (λ (answer : Answer). answer.count) (p ∙ sym q)

-- of the calls that give what one lookup leaves
lookups_one : (look : ℕ → Found) (addresses lent out out' : List ℕ) (x y : Result ℕ Refusal)
    → outcome (answered x) out ≡ lookup_many look addresses lent → outcome (answered y) out' ≡ lookup_many look addresses lent → outcome x out ≡ outcome y out'
lookups_one look addresses lent out out' x y p q = told_one answered answered_one x y out out' (p ∙ sym q)

-- of any lookup
lookup_each_unique : (T : RattleType) (laws : Laws T) (L : Ghosts T.Denot) (dict : Dict) → Determined 4 (lookup_each_kinds.ps T laws) (lookup_each_kinds.r T laws) (lookup_each_reads.Post T laws L dict) (λ κs x s. outcome x s.1.1.0.now)
lookup_each_unique T laws L dict κs a x y s t p q = lookups_one (L.look a.0.now) a.1.0.now a.1.1.0.now _ _ x y p q

-- of any closure that gives what one lookup leaves
lookup_many_given : (F : RattleType) (laws : Laws F) (Fn : Closure.Ghosts F) (fn fn_mut fn_once destruct : Dict)
    → Determined 3 (lookup_many_kinds.ps F laws) (lookup_many_kinds.r F laws)
    (λ κs a x s. ((look : ℕ → Found) × Gives ((Closure.words F Fn).post a.0) look) × lookup_many_reads.Post F laws Fn fn fn_mut fn_once destruct κs a x s)
    (λ κs x s. outcome x s.1.1.0.now)
lookup_many_given F laws Fn fn fn_mut fn_once destruct κs a x y s t ((look, gives), p) (also, q) =
    lookups_one look a.1.0.now a.1.1.0.now _ _ x y (p look gives) (q look gives)

-- what is promised of closures over a lookup: each may be called at any address, gives what the lookup leaves, and stays as it is
abbrev giving : (T : RattleType) → Ghosts T.Denot → Closure.Ghosts T
giving T L = record { pre = λ f a. Unit; post = λ f a e. e ≡ element (L.look f a.0); steps = λ f a e f'. f' ≡ f }

-- of those, whatever the arguments
lookup_many_unique : (T : RattleType) (laws : Laws T) (L : Ghosts T.Denot) (dict : Dict) → Determined 3 (lookup_many_kinds.ps T laws) (lookup_many_kinds.r T laws) (lookup_many_reads.Post T laws (giving T L) dict dict dict dict) (λ κs x s. outcome x s.1.1.0.now)
lookup_many_unique T laws L dict κs a x y s t p q =
    let one : (look : ℕ → Found) × Gives (λ address e. e ≡ element (L.look a.0 address)) look = (L.look a.0, λ address e small post. post) in
    lookup_many_given T laws (giving T L) dict dict dict dict κs a x y s t (one, p) (one, q)
