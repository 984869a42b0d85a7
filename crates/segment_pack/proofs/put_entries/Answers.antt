use Rattle.segment_pack.proofs.Packed.{code_at, skip_more}
use Rattle.segment_pack.proofs.put_entries.Goals as goal

pub loop-c-preserved-then-code-eq0 : goal.loop-c-preserved-then-code-eq0
loop-c-preserved-then-code-eq0 c = skip_more _ _ _ (code_at _ _ c.requires.0.is _ _ c.loop-c-test.true) _ c.loop-c.invariant c.if-code-eq0.true

pub put_eight-requires : goal.put_eight-requires
put_eight-requires c = (record { is = code_at _ _ c.requires.0.is _ _ c.loop-c-test.true; few = c.requires.0.few }, c.loop-c-test.true, c.loop-c.invariant)
