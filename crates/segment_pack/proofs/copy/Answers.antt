use mathlib.Core.Path.{◌∙◌}
use Rattle.segment_pack.proofs.Packed.{copy_sized, copy_all}
use Rattle.segment_pack.proofs.copy.Goals as goal

pub returns-then-block-ne-BLOCK_SIZE : goal.returns-then-block-ne-BLOCK_SIZE
returns-then-block-ne-BLOCK_SIZE c = copy_sized _ _ c.if-block-ne-BLOCK_SIZE.true

pub returns : goal.returns
returns c = c.copy_from_slice.ensures.after ∙ copy_all _ _ c.if-block-ne-BLOCK_SIZE.false c.told-entries
