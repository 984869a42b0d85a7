use mathlib.Core.Bool.{true, false}
use Rattle.image_search.proofs.SearchTests.{match_found}
use Rattle.image_search.proofs.port_if.Goals as goal

pub returns-then-matches : goal.returns-then-matches
returns-then-matches c = let a = c.args in rw (match_found 32 a.address a.route _ _ true c.prefix.ensures c.matches.ensures c.if-matches.true) c.port_of.ensures

pub returns-else-matches : goal.returns-else-matches
returns-else-matches c = let a = c.args in rw (match_found 32 a.address a.route _ _ false c.prefix.ensures c.matches.ensures c.if-matches.false)
