use Rattle.std.proofs.Common.{get_or, subst, sym, take, ◌∙◌}
use Rattle.std.proofs.lemmas.List.{take_more}
use Rattle.audit_deck.specs.DeckOrders.{AddsCells}
use Rattle.audit_deck.proofs.DeckOrders.{cell_added}
use Rattle.audit_deck.proofs.index.Index.push_cells.Goals as goal

pub push_cell-requires-clause-dynamic : goal.push_cell-requires-clause-dynamic
push_cell-requires-clause-dynamic c = c.requires.dynamic c.loop-net.net-index 0 c.loop-net-test.true

pub loop-net-preserved : goal.loop-net-preserved
loop-net-preserved c =
    let ds = c.args.self.now.devices in
    let tops = c.args.tops.now in
    let i = c.loop-net.net-index in
    record {
      nets_room = c.push_cell.ensures.nets_room ∙ c.loop-net.invariant.nets_room;
      places_room = c.push_cell.ensures.places_room ∙ c.loop-net.invariant.places_room;
      added = subst (λ ps. AddsCells ds c.args.roles ps c.args.order.now c.push_cell.new.order) (sym (take_more tops i 0 c.loop-net-test.true))
          (cell_added ds c.args.roles c.args.self.now.nets (take i tops) (get_or tops i 0) c.args.order.now c.loop-net.order c.push_cell.new.order
          (c.requires.dynamic i 0 c.loop-net-test.true) c.loop-net.invariant.added c.in_ok-push_cell.ensures.added);
    }
