-- Defines the calls that change a table, on its words: RULES, "Announce", "Withdraw" and the order of their refusals. Assumes nothing.
use Rattle.std.specs.Prelude.{cond, List, ℕ, zero, suc, ◌+◌, ◌-◌, eqb, leb, ltb}
use Rattle.promise.specs.Over.{Outcome, outcome}
use Rattle.refusals.specs.Refusals.{no_room, not_held, not_in_order, refused, accepted, keeping_at}
use Rattle.routes.specs.Routes.{route, route_at, route_count}
use Rattle.routes.specs.Check.{prefix_fault, route_fault, list_check}
use Rattle.refusals.specs.declared.Answer.{Answer}
use Rattle.routes.specs.declared.Route.{Route}
use Rattle.table_rules.specs.Rows.{Layout}
use Rattle.table_rules.specs.Check.{is_good}
use Rattle.table_rules.specs.Announce.{is_held, announced}
use Rattle.table_rules.specs.Withdraw.{withdrawn}

-- "all other results 0 (n as it was ...)", at place 0: "0 for an announce or withdraw"
abbrev pub keeping : ℕ → ℕ → Answer
keeping number n = keeping_at number 0 n

-- a refusal writes no lent memory
abbrev pub leaves : ℕ → ℕ → List ℕ → Outcome Answer
leaves number n words = outcome (keeping number n) words

-- the words of a table in good order, with the route
abbrev pub announced_words : Layout (List ℕ) → ℕ → List ℕ → ℕ → Route → List ℕ
announced_words L w words n q = announced L w words n q

-- "then 9": "a new prefix at full capacity"
unfoldable pub announce_in : Layout (List ℕ) → ℕ → List ℕ → ℕ → Route → Outcome Answer
announce_in L w words n q =
    cond (is_held w (L.get words) n q) (outcome (accepted n) (announced_words L w words n q))
    (cond (ltb n (L.room words)) (outcome (accepted (n + 1)) (announced_words L w words n q)) (leaves no_room n words))

-- "Announce ...: 4, 5, 6 on the arguments, 11, then 9"
unfoldable pub announce_into : Layout (List ℕ) → ℕ → List ℕ → ℕ → Route → Outcome Answer
announce_into L w words n q =
    cond (eqb (route_fault w q 0) 0)
    (cond (is_good w (L.room words) (L.get words) n) (announce_in L w words n q) (leaves not_in_order n words))
    (leaves (route_fault w q 0) n words)

-- a withdrawal names a prefix alone
abbrev pub prefix_only : ℕ → ℕ → Route
prefix_only value len = route value len 0

-- "then ... 10": "withdrawn prefix not held"
unfoldable pub withdraw_in : Layout (List ℕ) → ℕ → List ℕ → ℕ → Route → Outcome Answer
withdraw_in L w words n q =
    cond (is_held w (L.get words) n q) (outcome (accepted (n - 1)) (withdrawn L w words n q)) (leaves not_held n words)

-- "... and withdraw: 4, 5 ... (withdraw has no port), 11, then ... 10"
unfoldable pub withdraw_into : Layout (List ℕ) → ℕ → List ℕ → ℕ → ℕ → ℕ → Outcome Answer
withdraw_into L w words n value len =
    cond (eqb (prefix_fault w value len 0) 0)
    (cond (is_good w (L.room words) (L.get words) n) (withdraw_in L w words n (prefix_only value len)) (leaves not_in_order n words))
    (leaves (prefix_fault w value len 0) n words)

-- k routes from number i on, each announced into a table of as many as came before it
unfoldable pub built_from : Layout (List ℕ) → ℕ → (ℕ → Route) → ℕ → ℕ → List ℕ → List ℕ
built_from L w R zero i words = words
built_from L w R (suc k) i words = built_from L w R k (i + 1) (announced_words L w words i (R i))

-- "Building a table from a list gives what announcing its routes in list order into an empty table gives": the list's checks, then 9
unfoldable pub build_into : Layout (List ℕ) → ℕ → List ℕ → List ℕ → Outcome Answer
build_into L w list words =
    cond (eqb (list_check w list).number 0)
    (cond (leb (route_count list) (L.room words))
    (outcome (accepted (route_count list)) (built_from L w (route_at list) (route_count list) 0 words))
    (outcome (refused no_room 0) words))
    (outcome (list_check w list) words)
