use Rattle.std.proofs.Common.{◌≡◌, ◌++◌, take}
use Rattle.std.specs.List.{enumerate_from, flat_map}
use Rattle.synth_flow.specs.SummaryLines.{clock_line}
use Rattle.synth_flow.proofs.figures.append_clocks.Given as goal

abbrev pub invariant-clocks : goal.invariant-clocks
invariant-clocks l = l.text.items ≡ l.fn.text.items ++ flat_map clock_line (enumerate_from 1 (take l.k l.cells))
