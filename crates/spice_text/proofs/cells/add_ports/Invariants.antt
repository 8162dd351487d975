use Rattle.std.proofs.Common.{◌≡◌}
use Rattle.spice_text.specs.GroupNets.{first_ports}
use Rattle.spice_text.proofs.cells.add_ports.Given as goal

abbrev pub invariant-numbers : goal.invariant-numbers
invariant-numbers l = l.ports.items ≡ first_ports l.number
