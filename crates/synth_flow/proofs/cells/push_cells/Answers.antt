use Rattle.std.proofs.Common.{◌≡◌, ◌+◌, ◌∙◌, ap, arith, length, rules, subst, sym}
use Rattle.dual_rail.proofs.Marks.{written_over}
use Rattle.domino_cell.specs.NetsAt.{AreNumbersAt}
use Rattle.sp_network.specs.TypedTree.{tree_of}
use Rattle.synth_flow.proofs.CellNets.{each_named, next_cell, room_in_circuit}
use Rattle.synth_flow.proofs.LoopItems.{item_at}
use Rattle.synth_flow.proofs.cells.push_cells.Goals as goal

pub push_numbered_domino-requires-clause-gates : goal.push_numbered_domino-requires-clause-gates
push_numbered_domino-requires-clause-gates c =
    let p = c.index-plans-k.result in
    each_named c.args.names.now (0 + c.cells.k) (tree_of p.tree) (c.requires.gates c.cells.k p (item_at c.args.plans.now c.cells.k p (omega arith) c.index-plans-k.is))

pub push_numbered_domino-requires-clause-room : goal.push_numbered_domino-requires-clause-room
push_numbered_domino-requires-clause-room c =
    let p = c.index-plans-k.result in
    let room = room_in_circuit c.args.style c.args.circuit.now c.cells.circuit c.args.names.now c.args.plans.now c.cells.k p (item_at c.args.plans.now c.cells.k p (omega arith) c.index-plans-k.is) c.cells.invariant.made in
    omega (arith, room, c.requires.room)

pub cells-preserved : goal.cells-preserved
cells-preserved c =
    let p = c.index-plans-k.result in
    let len : c.cells.numbers.len ≡ length c.cells.numbers.items = search rules in
    let back = written_over c.cells.numbers.len c.push_numbered_domino.new.numbers c.cells.numbers.items
    (len ∙ sym (c.push_numbered_domino.auto.numbers ∙ ap length c.as_mut_slice.ensures.value)) in
    record {
      made = next_cell c.args.style c.args.circuit.now c.cells.circuit c.push_numbered_domino.new.circuit c.args.names.now c.args.plans.now c.cells.k p
          (item_at c.args.plans.now c.cells.k p (omega arith) c.index-plans-k.is) c.cells.invariant.made c.in_ok-push_numbered_domino.ensures.devices;
      vdd = c.in_ok-renumber.ensures.vdd;
      vss = c.in_ok-renumber.ensures.vss;
      held = subst (AreNumbersAt c.push_numbered_domino.new.circuit.nets c.args.names.now) (sym back) c.in_ok-push_numbered_domino.ensures.numbers;
    }
