use Rattle.std.proofs.Common.{Some, ap, sym, ◌∙◌}
use Rattle.deck.specs.NamedDevices.{with_devices}
use Rattle.deck.proofs.CircuitGrowth.{Grew-then}
use Rattle.sp_network.specs.TypedTree.{tree_of}
use Rattle.domino_cell.specs.Cell.{inverter}
use Rattle.domino_cell.specs.HeldNames.{held_nets}
use Rattle.domino_cell.specs.NamedTrees.{named_tree}
use Rattle.domino_cell.proofs.CellCircuits.{cell_devices_pushed}
use Rattle.domino_cell.proofs.NetsAt.{AreNumbersAt-grew, StandInCircuit-grew}
use Rattle.domino_cell.proofs.push.push_cell.Goals as goal

pub push_stage-requires-clause-named : goal.push_stage-requires-clause-named
push_stage-requires-clause-named c = c.nets_at-cell.ensures.named

pub push_stage-requires-clause-stand : goal.push_stage-requires-clause-stand
push_stage-requires-clause-stand c = c.nets_at-cell.ensures.stand

pub returns-in_err-last-clause-grew : goal.returns-in_err-last-clause-grew
returns-in_err-last-clause-grew c = Grew-then c.push_stage.ensures.grew c.push_inverter.ensures.grew

pub returns-clause-grew : goal.returns-clause-grew
returns-clause-grew c = Grew-then c.push_stage.ensures.grew c.push_inverter.ensures.grew

pub push_inverter-requires-clause-gate : goal.push_inverter-requires-clause-gate
push_inverter-requires-clause-gate c =
    c.at-dynamic.ensures.stands c.push_stage.new.circuit.nets (c.in_ok-number.ensures.dynamic ∙ ap Some (sym c.nets_at-cell.ensures.named.dynamic))

pub push_inverter-requires-clause-out : goal.push_inverter-requires-clause-out
push_inverter-requires-clause-out c = c.in_ok-number.ensures.output

pub push_inverter-requires-clause-vdd : goal.push_inverter-requires-clause-vdd
push_inverter-requires-clause-vdd c =
    (StandInCircuit-grew c.args.circuit.now c.push_stage.new.circuit c.nets_at-cell.result c.push_stage.ensures.grew c.nets_at-cell.ensures.stand).vdd

pub push_inverter-requires-clause-vss : goal.push_inverter-requires-clause-vss
push_inverter-requires-clause-vss c =
    (StandInCircuit-grew c.args.circuit.now c.push_stage.new.circuit c.nets_at-cell.result c.push_stage.ensures.grew c.nets_at-cell.ensures.stand).vss

pub returns-clause-numbers : goal.returns-clause-numbers
returns-clause-numbers c =
    c.keep_number.ensures c.push_inverter.new.circuit.nets
    (AreNumbersAt-grew c.push_stage.new.circuit c.push_inverter.new.circuit c.args.names.now c.push_stage.new.numbers c.push_inverter.ensures.grew c.in_ok-number.ensures.numbers)
    c.in_ok-last.ensures.stands

pub returns-clause-devices : goal.returns-clause-devices
returns-clause-devices c =
    let tree = named_tree c.args.names.now (tree_of c.args.plan.now.tree) in
    let is = c.nets_at-cell.ensures.named in
    let nets = held_nets c.args.nets.now in
    let dynamic = c.at-dynamic.ensures.name ∙ is.dynamic in
    cell_devices_pushed c.args.style c.args.circuit.now c.push_stage.new.circuit c.push_inverter.new.circuit nets tree c.in_ok-number.ensures.devices
    (c.in_ok-last.ensures.devices ∙ (λ i. with_devices c.push_stage.new.circuit (inverter (is.vdd i) (is.vss i) (dynamic i) nets.output)))
