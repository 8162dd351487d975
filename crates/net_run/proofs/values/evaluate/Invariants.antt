use Rattle.std.proofs.Common.{◌++◌}
use Rattle.net_run.proofs.Evaluation.{AreValuesUpTo}
use Rattle.net_run.proofs.values.evaluate.Given as goal

abbrev pub invariant-loop-k : goal.invariant-loop-k
invariant-loop-k l = AreValuesUpTo (l.fn.pins ++ l.fn.state) l.fn.tables l.values l.k
