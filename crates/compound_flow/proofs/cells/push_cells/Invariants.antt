use Rattle.std.proofs.Common.{◌≡◌, take}
use Rattle.deck.specs.NamedDevices.{with_devices}
use Rattle.deck.specs.Nets.{net_name}
use Rattle.compound_flow.specs.MadeCells.{named_cells, plain_cells}
use Rattle.compound_flow.proofs.cells.push_cells.Given as goal

abbrev pub invariant-cells : goal.invariant-cells
invariant-cells l = l.circuit ≡ with_devices l.fn.circuit (named_cells (net_name l.names) 0 (take l.k (plain_cells l.plans)))
