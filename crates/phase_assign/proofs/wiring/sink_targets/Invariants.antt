use Rattle.std.proofs.Common.{◌≡◌, List, length}
use Rattle.gate_decompose.specs.declared.gates.Node.{Node}
use Rattle.dual_rail.specs.Targets.{AreTargets}
use Rattle.phase_assign.specs.Wiring.{AreEnds}
use Rattle.phase_assign.proofs.wiring.sink_targets.Given as goal

abbrev pub invariant-loop-sink : goal.invariant-loop-sink
invariant-loop-sink l = record {
  count : length l.ends.items ≡ l.sink-index;
  ends : (nodes : List Node) → AreTargets nodes l.targets → AreEnds nodes l.sinks l.ends.items;
}
