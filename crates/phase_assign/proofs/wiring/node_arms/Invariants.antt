use Rattle.std.proofs.Common.{◌≡◌, length}
use Rattle.phase_assign.specs.Wiring.{AreNodeArms}
use Rattle.phase_assign.proofs.wiring.node_arms.Given as goal

abbrev pub invariant-loop-node : goal.invariant-loop-node
invariant-loop-node l = record {
  count : length l.arms.items ≡ l.node-index;
  arms : AreNodeArms l.nodes l.arms.items;
}
