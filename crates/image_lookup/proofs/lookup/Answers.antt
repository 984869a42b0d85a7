use Rattle.std.proofs.Common.{rules, tests}
use Rattle.image_rules.specs.Lookup.{lookup_words}
use Rattle.image_lookup.proofs.lookup.Goals as goal

pub returns-in_default : goal.returns-in_default
unfolding lookup_words
returns-in_default c = search (tests, rules)
