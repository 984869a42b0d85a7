use Rattle.std.proofs.Common.{◌≡◌, ◌%◌, ◌^◌, ◌∙◌, arith}
use borrow.Author.Tests.{le-leb, lt-leb}
use Rattle.segment_rules.specs.Lookup.{lookup_in}
use Rattle.segment_rules.proofs.Lent.{ports_le}
use Rattle.many_rules.specs.Many.{element}
use Rattle.many_rules.proofs.Filling.{element_whole}
use Rattle.segment_lookup.proofs.many.TablesLookup.element.Goals as goal

pub returns-then-self-lt-FIRST_SIZE : goal.returns-then-self-lt-FIRST_SIZE
unfolding lookup_in
returns-then-self-lt-FIRST_SIZE c = simp (lt-leb _ _ c.if-self-lt-FIRST_SIZE.true)

pub returns : goal.returns
unfolding lookup_in
returns c =
    let t = c.args.self.now in
    let found = lookup_in t.first.now t.packed.now t.plain.now t.last.now c.args.address in
    let cut : c.first_element.result ≡ element found % 2 ^ 16 = simp (le-leb _ _ c.if-self-lt-FIRST_SIZE.false) (cc) in
    cut ∙ element_whole found (omega (arith, ports_le t.first.now t.packed.now t.plain.now t.last.now c.args.address))
