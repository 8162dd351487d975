use Rattle.std.proofs.Common.{◌≡◌, ◌≤◌, take}
use Rattle.synth_flow.specs.SummaryParts.{levels_at_clock}
use Rattle.synth_flow.proofs.counts.clock_count.Given as goal

abbrev pub invariant-levels : goal.invariant-levels
invariant-levels l = (l.count ≡ levels_at_clock l.phases l.top (take l.level-index l.levels) l.clock) × (l.count ≤ l.level-index)
