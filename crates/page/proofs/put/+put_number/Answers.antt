use native.Mathlib.Omega.{arith}
use mathlib.Core.Path.{ap, ◌∙◌}
use mathlib.Core.List.{[], ◌∷◌, ◌++◌}
use Prim.Native.Nat.{◌/◌}
use Rattle.page.specs.Text.{numeral}
use Rattle.page.proofs.Wrote.{wrote_more, wrote_as}
use Rattle.page.proofs.Text.{numeral_small, numeral_large, length_numeral_small, length_numeral_large}
use Prim.Native.Nat.{ℕ}
use Rattle.page.proofs.put.+put_number.Goals as goal

pub put_byte-requires : goal.put_byte-requires
put_byte-requires t c = omega (arith, length_numeral_small c.args.x c.if-x-lt10.true, c.requires)

pub returns-then-x-lt10 : goal.returns-then-x-lt10
returns-then-x-lt10 t c = wrote_as (numeral c.args.x) c.put_byte.ensures (ap (λ (d : ℕ). d ∷ []) c.digit.ensures ∙ numeral_small c.args.x c.if-x-lt10.true)

pub put_number-last-requires : goal.put_number-last-requires
put_number-last-requires t c = (omega arith, omega (arith, length_numeral_large c.args.x c.if-x-lt10.false (omega arith), c.requires))

pub put_byte-requires-2 : goal.put_byte-requires-2
put_byte-requires-2 t c = omega (arith, length_numeral_large c.args.x c.if-x-lt10.false (omega arith), c.requires, c.put_number-last.ensures.next_is_lem)

pub returns : goal.returns
returns t c = wrote_as (numeral c.args.x) (wrote_more c.put_number-last.ensures c.put_byte-2.ensures) (ap (λ (d : ℕ). numeral (c.args.x / 10) ++ (d ∷ [])) c.digit-2.ensures ∙ numeral_large c.args.x c.if-x-lt10.false (omega arith))
