use mathlib.Core.Path.{ap, ◌∙◌}
use mathlib.Core.List.{List}
use Prim.Native.Nat.{ℕ}
use Rattle.entries.specs.Entries.{filled}
use Rattle.segment_rules.specs.Packed.{codewords, packed_size}
use Rattle.segment_pack.proofs.Packed.{rank_all, coded, packed_none, pack_sized, pack_plain, pack_done}
use Rattle.segment_pack.proofs.pack.Goals as goal

pub returns-then-block-ne-PACKED_SIZE : goal.returns-then-block-ne-PACKED_SIZE
returns-then-block-ne-PACKED_SIZE c = pack_sized _ _ c.if-block-ne-PACKED_SIZE.true

pub returns-then-rank_of-gt-MOST_KEPT : goal.returns-then-rank_of-gt-MOST_KEPT
returns-then-rank_of-gt-MOST_KEPT c = pack_plain _ _ c.if-block-ne-PACKED_SIZE.false _ (rank_all _ _ _ _ c.codes_of-codes.ensures c.rank_of.ensures.0) c.if-rank_of-gt-MOST_KEPT.true

pub put_codes-requires : goal.put_codes-requires
put_codes-requires c = (coded _ _ _ _ c.codes_of-codes.ensures c.rank_of.ensures.0 c.if-rank_of-gt-MOST_KEPT.false, c.if-block-ne-PACKED_SIZE.false)

pub put_entries-requires : goal.put_entries-requires
put_entries-requires c = (
  coded _ _ _ _ c.codes_of-codes.ensures c.rank_of.ensures.0 c.if-rank_of-gt-MOST_KEPT.false,
  c.fill.ensures ∙ ap (λ (l : List ℕ). filled l codewords packed_size 0) c.put_codes.ensures ∙ packed_none _ _ c.if-block-ne-PACKED_SIZE.false,
)

pub returns : goal.returns
returns c = c.put_entries.ensures
    ∙ pack_done _ _ c.if-block-ne-PACKED_SIZE.false _ (rank_all _ _ _ _ c.codes_of-codes.ensures c.rank_of.ensures.0) c.if-rank_of-gt-MOST_KEPT.false
