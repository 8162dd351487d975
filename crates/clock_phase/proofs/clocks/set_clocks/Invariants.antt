use Rattle.std.proofs.Common.{◌≡◌, map, take}
use Rattle.clock_phase.specs.Levels.{clock_of}
use Rattle.clock_phase.specs.Plans.{clocks_of, trees_of}
use Rattle.clock_phase.proofs.clocks.set_clocks.Given as goal

abbrev pub invariant-loop-k : goal.invariant-loop-k
invariant-loop-k l = record {
  trees : trees_of l.plans ≡ trees_of l.fn.plans;
  clocks : take l.k (clocks_of l.plans) ≡ map (clock_of l.phases l.top) (take l.k l.levels);
}
