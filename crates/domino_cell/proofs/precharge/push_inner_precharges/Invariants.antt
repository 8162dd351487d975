use Rattle.std.proofs.Common.{◌≡◌}
use Rattle.deck.specs.NamedDevices.{with_devices}
use Rattle.domino_cell.specs.HeldNames.{held_nets}
use Rattle.domino_cell.specs.StyledCells.{inner_precharges}
use Rattle.domino_cell.proofs.precharge.push_inner_precharges.Given as goal

-- the precharges of the first inner nets stand
abbrev pub invariant-inners : goal.invariant-inners
invariant-inners l = l.circuit ≡ with_devices l.fn.circuit (inner_precharges (held_nets l.nets) 0 l.number)
