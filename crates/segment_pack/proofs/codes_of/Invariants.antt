use Rattle.segment_pack.proofs.Codewords.{CodedTo}
use Rattle.segment_pack.proofs.codes_of.Given as goal

abbrev pub invariant-loop-c : goal.invariant-loop-c
invariant-loop-c l = CodedTo l.entries l.initial.codes l.codes l.ones l.c
