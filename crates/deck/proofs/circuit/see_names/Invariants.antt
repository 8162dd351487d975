use Rattle.std.proofs.Common.{All, take}
use Rattle.dom_base.specs.Names.{IsNetName}
use Rattle.deck.proofs.circuit.see_names.Given as goal

abbrev pub invariant-loop-name : goal.invariant-loop-name
invariant-loop-name l = All IsNetName (take l.name-index l.names)
