use Rattle.std.proofs.Common.{◌≡◌, map}
use Rattle.std.specs.List.{range_with_len}
use Rattle.synth_flow.specs.SummaryParts.{levels_at_clock}
use Rattle.synth_flow.proofs.counts.clock_counts.Given as goal

abbrev pub invariant-clocks : goal.invariant-clocks
invariant-clocks l = l.counts.items ≡ map (levels_at_clock l.phases l.top l.levels) (range_with_len 1 l.k)
