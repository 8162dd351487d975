use Rattle.std.proofs.Common.{◌≤◌, ◌-◌, length}
use Rattle.net_run.specs.RunnerData.{StandBetween}
use Rattle.net_run.proofs.table.matches.Given as goal

abbrev pub invariant-compare : goal.invariant-compare
invariant-compare l = StandBetween l.fn.letters l.fn.inputs l.fn.values 0 l.start

abbrev pub decreases-compare : goal.decreases-compare
decreases-compare l = length l.fn.letters - l.start
