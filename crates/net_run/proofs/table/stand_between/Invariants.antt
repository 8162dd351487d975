use Rattle.std.proofs.Common.{◌≡◌, ◌≤◌, true}
use Rattle.std.specs.Prelude.{◌↔◌}
use Rattle.net_run.specs.RunnerData.{StandBetween}
use Rattle.net_run.proofs.table.stand_between.Given as goal

abbrev pub invariant-loop-k : goal.invariant-loop-k
invariant-loop-k l = ((l.all ≡ true) ↔ StandBetween l.fn.letters l.fn.inputs l.fn.values l.fn.start l.k) × (l.fn.start ≤ l.k)
