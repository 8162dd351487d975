use Rattle.std.proofs.Common.{◌≡◌, [], take}
use Rattle.deck.specs.Numbers.{with_all}
use Rattle.subckt_expand.proofs.circuit.set_of.Given as goal

abbrev pub invariant-loop-name : goal.invariant-loop-name
invariant-loop-name l = l.nets.keys ≡ with_all [] (take l.name-index l.names)
