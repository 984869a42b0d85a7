-- Defines many lookups in an image in one call: RULES, "Many lookups in one call". Assumes nothing.
use Rattle.std.specs.Prelude.{ℕ, cond, List}
use Rattle.promise.specs.Over.{Outcome, outcome}
use Rattle.refusals.specs.Refusals.{wrong_stride, refused}
use Rattle.refusals.specs.declared.Answer.{Answer}
use Rattle.image_rules.specs.Lookup.{is_stride, lookup_words}
use Rattle.many_rules.specs.Many.{lookup_many}

-- "12, then 9 at 0 where `out` .. is shorter than the addresses"
unfoldable pub many_words : ℕ → ℕ → List ℕ → List ℕ → List ℕ → List ℕ → Outcome Answer
many_words w s nodes ports addresses out =
    cond (is_stride s) (lookup_many (lookup_words w s nodes ports) addresses out) (outcome (refused wrong_stride 0) out)
