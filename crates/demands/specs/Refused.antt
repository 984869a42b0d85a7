-- Defines what a call leaves that its checks refuse: RULES, "Refusals". "A refusal returns its number and a place, all other results 0 (n as
-- it was; for a lookup the rows or nodes read so far), and writes no lent memory." Assumes nothing.
use Rattle.std.specs.Prelude.{◌≡◌, List, [], ◌∷◌, ℕ}
use Rattle.promise.specs.Over.{Outcome}
use Rattle.refusals.specs.Reply.{Reply}
use Rattle.maftehon.specs.Reply.{Booked}
use Rattle.demands.specs.Lamp.{Verdict, Lamp}
use Rattle.demands.specs.Boundary.{place}

-- a call that is refused as its checks say stores the place and these results
abbrev pub Refuses : Verdict → List ℕ → Reply → Type 0
Refuses checks results x = Lamp checks x.number (place x) (x.answer ≡ place x ∷ results)

-- and leaves the lent memory as it was
abbrev pub RefusesWhole : Verdict → List ℕ → List ℕ → Outcome Reply → Type 0
RefusesWhole checks results lent o =
    Lamp checks o.answer.number (place o.answer) ((o.answer.answer ≡ place o.answer ∷ results) × (o.lent ≡ lent))

-- and an update the rows and the counts, with n as it was
abbrev pub RefusesBook : Verdict → ℕ → List ℕ → List ℕ → Booked → Type 0
RefusesBook checks n rows counts x =
    Lamp checks x.reply.number (place x.reply) ((x.reply.answer ≡ place x.reply ∷ n ∷ []) × (x.rows ≡ rows) × (x.counts ≡ counts))
