use mathlib.Core.Path.{◌≡◌}
use lib.ListN.{length}
use Rattle.promise.specs.Over.{over}
use Rattle.lists.specs.Numbered.{list_of}
use Rattle.segment_rules.specs.Packed.{codeword, packed_size}
use Rattle.segment_pack.proofs.put_codes.Given as goal

abbrev pub invariant-loop-c : goal.invariant-loop-c
invariant-loop-c l = (length l.block ≡ packed_size) × (l.block ≡ over (list_of (codeword l.entries) l.c 0) l.initial.block)
