use Rattle.phase_assign.specs.Search.{AreReached, IsSearch}
use Rattle.phase_assign.specs.Trials.{AreTrials}
use Rattle.phase_assign.proofs.search.assign.Given as goal

abbrev pub invariant-passes : goal.invariant-passes
invariant-passes l = record {
  search : IsSearch l.wiring.arms.items l.wiring.ends.items l.search.signs.items l.search.needed.uses.items l.search.needed.size;
  trials : AreTrials l.wiring.arms.items l.wiring.ends.items l.search.signs.items l.search.needed.uses.items l.search.needed.size l.search.changed.items l.search.trials.items;
  reached : AreReached l.gates l.search.signs.items;
}

abbrev pub decreases-passes : goal.decreases-passes
decreases-passes l = l.search.needed.size
