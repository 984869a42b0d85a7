-- Defines the saving of a table as a list: RULES, "Build and save". Assumes nothing.
use Rattle.std.specs.Prelude.{cond, List, [], ◌∷◌, ◌++◌, ℕ, zero, suc, ◌*◌, eqb, leb, length}
use Rattle.promise.specs.Over.{over, Outcome, outcome}
use Rattle.bits.specs.Prefix.{precedes}
use Rattle.refusals.specs.Refusals.{no_room, not_in_order, refused, accepted}
use Rattle.routes.specs.Routes.{words_of}
use Rattle.refusals.specs.declared.Answer.{Answer}
use Rattle.routes.specs.declared.Route.{Route}
use Rattle.table_rules.specs.Rows.{Mem, route_of}
use Rattle.table_rules.specs.Check.{is_good}

-- a route put into an ascending list
unfoldable pub insert_route : Route → List Route → List Route
insert_route q [] = q ∷ []
insert_route q (r ∷ rs) =
    cond (precedes r.value r.len q.value q.len) (r ∷ insert_route q rs) (q ∷ r ∷ rs)

-- The routes from row r on, ascending. All to the left of a place come before all to its right; the row's own goes where its
-- value and length say.
unfoldable pub saved_at : Mem → ℕ → ℕ → List Route
saved_at M zero r = route_of (M r) ∷ []
saved_at M (suc k) r =
    insert_route (route_of (M r))
    (cond (eqb (M r).left 0) [] (saved_at M k (M r).left) ++ cond (eqb (M r).right 0) [] (saved_at M k (M r).right))

-- the routes of a table of n rows
abbrev pub saved : ℕ → Mem → ℕ → List Route
saved w M n = cond (eqb n 0) [] (saved_at M w 0)

-- "Saving a table as a list: 11, then 9."
unfoldable pub save_into : ℕ → ℕ → Mem → ℕ → List ℕ → Outcome Answer
save_into w capacity M n lent =
    cond (is_good w capacity M n)
    (cond (leb (n * 3) (length lent)) (outcome (accepted n) (over (words_of (saved w M n)) lent)) (outcome (refused no_room 0) lent))
    (outcome (refused not_in_order 0) lent)
