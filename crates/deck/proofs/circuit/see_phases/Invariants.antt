use Rattle.std.proofs.Common.{All, take}
use Rattle.dom_base.specs.Names.{IsNetName}
use Rattle.deck.proofs.circuit.see_phases.Given as goal

abbrev pub invariant-loop-phase : goal.invariant-loop-phase
invariant-loop-phase l = All (λ phase. IsNetName phase.net) (take l.phase-index l.phases)
