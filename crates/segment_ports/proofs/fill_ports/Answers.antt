use mathlib.Core.Path.{sym, ◌∙◌}
use Rattle.segment_ports.proofs.Within.{within_blocks}
use Rattle.segment_ports.proofs.Ported.{into_within, into_past}
use Rattle.segment_ports.proofs.fill_ports.Goals as goal

pub fill_runs-requires : goal.fill_runs-requires
fill_runs-requires c = within_blocks _ _ _ (sym c.lie_within.ensures ∙ c.if-lie_within.true)

pub returns-then-lie_within : goal.returns-then-lie_within
returns-then-lie_within c = c.fill_runs.ensures
    ∙ sym (into_within _ _ _ _ _ (sym c.lie_within.ensures ∙ c.if-lie_within.true))

pub returns : goal.returns
returns c = into_past _ _ _ _ _ (sym c.lie_within.ensures ∙ c.if-lie_within.false)
