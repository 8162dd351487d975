use Rattle.std.proofs.Common.{◌≡◌, [], take}
use Rattle.deck.specs.Numbers.{with_all}
use Rattle.deck.specs.Ports.{leading_ports}
use Rattle.deck.proofs.ports.leading_nets.Given as goal

abbrev pub invariant-loop-port : goal.invariant-loop-port
invariant-loop-port l = l.nets.keys ≡ with_all [] (take l.port (leading_ports l.clocks))
