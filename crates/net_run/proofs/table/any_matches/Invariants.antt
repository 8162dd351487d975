use Rattle.std.proofs.Common.{map}
use Rattle.net_run.specs.Runs.{value_at}
use Rattle.net_run.proofs.RowMatches.{NoneMatches}
use Rattle.net_run.proofs.table.any_matches.Given as goal

abbrev pub invariant-loop-k : goal.invariant-loop-k
invariant-loop-k l = NoneMatches l.fn.rows (map (value_at l.fn.values) l.fn.inputs) l.k
