use native.Mathlib.Omega.{arith}
use lib.ListN.{length-set}
use Rattle.segment_pack.specs.Pack.{code}
use Rattle.segment_pack.proofs.Codewords.{words_more, words_none}
use Rattle.segment_pack.proofs.Packed.{bits_lt, base_le, word_at}
use Rattle.segment_pack.proofs.put_codes.Goals as goal

pub loop-c-init : goal.loop-c-init
loop-c-init c = (c.requires.1, words_none _ _)

pub overflow_mul-block : goal.overflow_mul-block
overflow_mul-block c = omega (arith, bits_lt _ _ c.requires.0.is (code 0 0) _ c.loop-c-test.true)

pub overflow_add-block : goal.overflow_add-block
overflow_add-block c = omega (arith, bits_lt _ _ c.requires.0.is (code 0 0) _ c.loop-c-test.true, base_le _ _ c.requires.0.is (code 0 0) _ c.loop-c-test.true c.requires.0.few)

pub loop-c-preserved : goal.loop-c-preserved
loop-c-preserved c = let inv = c.loop-c.invariant in
    (simp length-set inv.0, words_more _ _ _ _ _ inv.1 (omega (arith, c.requires.1)) (word_at _ _ c.requires.0.is _ _ c.loop-c-test.true))
