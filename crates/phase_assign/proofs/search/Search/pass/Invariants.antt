use Rattle.gate_decompose.specs.GatesData.{GatesData}
use Rattle.gate_decompose.specs.GatesOrder.{AreOrderedGates}
use Rattle.phase_assign.specs.Search.{IsPassTo, IsSearch}
use Rattle.phase_assign.specs.Trials.{AreTrials}
use Rattle.phase_assign.specs.Wiring.{AreWired}
use Rattle.phase_assign.proofs.search.Search.pass.Given as goal

abbrev pub invariant-loop-sink : goal.invariant-loop-sink
invariant-loop-sink l = record {
  search : IsSearch l.wiring.arms.items l.wiring.ends.items l.self.signs.items l.self.needed.uses.items l.self.needed.size;
  trials : AreTrials l.wiring.arms.items l.wiring.ends.items l.self.signs.items l.self.needed.uses.items l.self.needed.size l.self.changed.items l.self.trials.items;
  pass : (gates : GatesData) → AreOrderedGates gates → AreWired gates l.wiring.arms.items l.wiring.ends.items → IsPassTo gates l.sink l.fn.self.signs.items l.self.signs.items;
}
