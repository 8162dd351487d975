use Rattle.numbered_signals.proofs.BlockSteps.{IsOwning}
use Rattle.numbered_signals.proofs.roots.ScopeRoots.push_own.Given as goal

abbrev pub invariant-loop-index : goal.invariant-loop-index
invariant-loop-index l = IsOwning l.count l.fn.self l.self l.index
