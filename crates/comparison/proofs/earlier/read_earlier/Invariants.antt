use Rattle.clock_phase.proofs.EarlierCells.{FirstReadEarlier}
use Rattle.comparison.proofs.earlier.read_earlier.Given as goal

abbrev pub invariant-loop-k : goal.invariant-loop-k
invariant-loop-k l = FirstReadEarlier l.leaves l.plans l.k
