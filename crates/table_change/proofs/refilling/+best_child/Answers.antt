use borrow.Author.Rules.{rules}
use mathlib.Core.Path.{refl}
use Rattle.table_rows.specs.Words.{five_words}
use Rattle.routes.specs.Routes.{no_route}
use Rattle.table_change.proofs.Withdraw.{best_none, best_last, best_priority, best_ordinary}
use Rattle.table_change.proofs.refilling.+best_child.Goals as goal

pub returns-then-child-eq0 : goal.returns-then-child-eq0
returns-then-child-eq0 t c = best_none 32 (five_words.get c.args.rows.now) c.args.left c.args.child (five_words.get c.args.rows.now c.args.child) refl no_route c.if-child-eq0.true

pub returns-then-left-eq0 : goal.returns-then-left-eq0
returns-then-left-eq0 t c = best_last 32 (five_words.get c.args.rows.now) c.args.left c.args.child c.row_at-x.result c.row_at-x.ensures c.route_of.result c.if-child-eq0.false c.if-left-eq0.true c.route_of.ensures

pub returns-then-left-x : goal.returns-then-left-x
returns-then-left-x t c = best_priority 32 (five_words.get c.args.rows.now) c.args.left c.args.child c.row_at-x.result c.row_at-x.ensures c.route_of-then-left-x.result c.if-child-eq0.false c.if-left-eq0.false c.if-left-x.true c.route_of-then-left-x.ensures

pub best_child-a-requires : goal.best_child-a-requires
best_child-a-requires t c = (search rules, search rules)

pub best_child-b-requires : goal.best_child-b-requires
best_child-b-requires t c = (search rules, search rules)

pub returns : goal.returns
returns t c = best_ordinary 32 (five_words.get c.args.rows.now) c.args.left c.args.child c.row_at-x.result c.row_at-x.ensures c.or_route.result c.if-child-eq0.false c.if-left-eq0.false c.if-left-x.false
    c.best_child-a.result c.best_child-b.result c.first_route.result c.route_of-2.result
    c.best_child-a.ensures c.best_child-b.ensures c.first_route.ensures c.route_of-2.ensures c.or_route.ensures
