use Rattle.std.proofs.Common.{◌≡◌, map, take, length}
use Rattle.net_run.specs.Runs.{value_at}
use Rattle.net_run.proofs.values.read.Given as goal

abbrev pub invariant-loop-k : goal.invariant-loop-k
invariant-loop-k l = (take l.k l.into ≡ map (value_at l.fn.values) (take l.k l.fn.signals)) × (length l.into ≡ length l.fn.signals)
