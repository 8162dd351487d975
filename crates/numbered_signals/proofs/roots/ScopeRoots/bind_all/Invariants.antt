use Rattle.numbered_signals.proofs.BlockSteps.{IsBinding}
use Rattle.numbered_signals.proofs.roots.ScopeRoots.bind_all.Given as goal

abbrev pub invariant-loop-index : goal.invariant-loop-index
invariant-loop-index l = IsBinding l.start l.above l.pairs l.fn.self l.self l.index
