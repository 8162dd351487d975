use Rattle.std.proofs.Common.{◌≡◌, ◌+◌, ap, arith, subst}
use Rattle.std.proofs.lemmas.List.{take_all}
use Rattle.deck.specs.NamedDevices.{with_devices}
use Rattle.deck.specs.Nets.{net_name}
use Rattle.compound_plan.specs.Plans.{compound_costs, cost}
use Rattle.compound_cell.specs.CompoundCells.{whole_tree}
use Rattle.compound_plan.specs.CellPlans.{clock_of, trees_of}
use Rattle.synth_flow.proofs.CellNets.{each_named}
use Rattle.synth_flow.proofs.LoopItems.{item_at}
use Rattle.compound_flow.specs.MadeCells.{named_cells, plain_cells}
use Rattle.compound_flow.proofs.CellLoop.{next_cell, plain_at, plain_count, plain_trees, room_in_circuit}
use Rattle.compound_flow.proofs.NextCells.{room_for_next}
use Rattle.compound_flow.proofs.cells.push_cells.Goals as goal

pub push_compound-requires-clause-nets : goal.push_compound-requires-clause-nets
push_compound-requires-clause-nets c =
    let p = c.index-plans-k.result in
    let plans = c.args.plans.now in
    let at = plain_at plans c.cells.k p (item_at plans c.cells.k p (omega arith) c.index-plans-k.is) in
    let count = plain_count plans in
    room_for_next c.args.circuit.now c.cells.circuit c.args.names.now (plain_cells plans) c.cells.k (trees_of p, clock_of p) (omega (arith, count, c.requires.few)) at
    c.requires.nets c.requires.clocks c.requires.gates c.whole.ensures.whole.numbered c.cells.invariant

pub push_compound-requires-clause-gates : goal.push_compound-requires-clause-gates
push_compound-requires-clause-gates c =
    let p = c.index-plans-k.result in
    let plans = c.args.plans.now in
    let at = plain_at plans c.cells.k p (item_at plans c.cells.k p (omega arith) c.index-plans-k.is) in
    each_named c.args.names.now (0 + c.cells.k) (whole_tree (trees_of p)) (c.requires.gates c.cells.k (trees_of p, clock_of p) at)

pub push_compound-requires-clause-room : goal.push_compound-requires-clause-room
push_compound-requires-clause-room c =
    let p = c.index-plans-k.result in
    let plans = c.args.plans.now in
    let at = plain_at plans c.cells.k p (item_at plans c.cells.k p (omega arith) c.index-plans-k.is) in
    let room = room_in_circuit c.args.circuit.now c.cells.circuit (net_name c.args.names.now) (plain_cells plans) c.cells.k (trees_of p, clock_of p) at c.cells.invariant in
    omega (arith, room, ap (cost compound_costs) (plain_trees plans), c.requires.room)

pub cells-preserved : goal.cells-preserved
cells-preserved c =
    let p = c.index-plans-k.result in
    let plans = c.args.plans.now in
    let at = plain_at plans c.cells.k p (item_at plans c.cells.k p (omega arith) c.index-plans-k.is) in
    next_cell c.args.circuit.now c.cells.circuit c.push_compound.new.circuit (net_name c.args.names.now) (plain_cells plans) c.cells.k (trees_of p, clock_of p) at
    c.cells.invariant c.in_ok-push_compound.ensures.devices

pub returns : goal.returns
returns c =
    let plans = c.args.plans.now in
    let count = plain_count plans in
    subst (λ l. c.cells.circuit ≡ with_devices c.args.circuit.now (named_cells (net_name c.args.names.now) 0 l))
    (take_all c.cells.k (plain_cells plans) (omega (arith, count, c.cells-test.false))) c.cells.invariant
