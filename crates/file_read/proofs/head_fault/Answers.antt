use Rattle.file_read.proofs.Head.{head_short, head_other, head_sized, head_unsized}
use Rattle.file_read.proofs.head_fault.Goals as goal

pub returns-then-file-lt-HEAD_SIZE : goal.returns-then-file-lt-HEAD_SIZE
returns-then-file-lt-HEAD_SIZE c = head_short c.args.file.now c.if-file-lt-HEAD_SIZE.true

pub returns-then-file-ne-VERSION : goal.returns-then-file-ne-VERSION
returns-then-file-ne-VERSION c = head_other c.args.file.now c.if-file-lt-HEAD_SIZE.false c.if-file-ne-VERSION.true

pub returns-then-stated-present : goal.returns-then-stated-present
returns-then-stated-present c = head_sized c.args.file.now c.if-file-lt-HEAD_SIZE.false c.if-file-ne-VERSION.false _ c.number_at-stated.ensures.is c.if-stated-present.true

pub returns-else-stated-present : goal.returns-else-stated-present
returns-else-stated-present c = head_unsized c.args.file.now c.if-file-lt-HEAD_SIZE.false c.if-file-ne-VERSION.false _ c.number_at-stated.ensures.is c.if-stated-present.false
