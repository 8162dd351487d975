use Rattle.std.proofs.Common.{length}
use Rattle.gate_decompose.proofs.expression.+join_all.Given as goal

abbrev pub decreases-join_all : goal.decreases-join_all
decreases-join_all l = length l.items.now
