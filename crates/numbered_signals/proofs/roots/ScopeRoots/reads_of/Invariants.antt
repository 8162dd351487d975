use Rattle.std.proofs.Common.{◌≡◌, map, take}
use Rattle.numbered_signals.specs.ScopeRoots.{local_root}
use Rattle.numbered_signals.proofs.roots.ScopeRoots.reads_of.Given as goal

abbrev pub invariant-loop-local : goal.invariant-loop-local
invariant-loop-local l = l.reads.items ≡ map (local_root l.self l.scope) (take l.local-index l.locals)
