use Rattle.net_run.specs.RunnerData.{RunsNetwork}
use Rattle.compare_designs.proofs.networks.runs.same_run.Given as goal

abbrev pub invariant-loop-pins : goal.invariant-loop-pins
invariant-loop-pins l = RunsNetwork l.fn.network l.runner
