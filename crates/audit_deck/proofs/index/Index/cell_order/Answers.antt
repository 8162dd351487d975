use Rattle.std.proofs.Common.{subst}
use Rattle.graph_order.specs.Orders.{IsAnswer}
use Rattle.graph_order.specs.declared.order.Order.TheVariants.{Circular}
use Rattle.deck_audit.specs.Audits.{loop}
use Rattle.audit_deck.proofs.ReadNets.{circle_to, reads_graph}
use Rattle.audit_deck.proofs.index.Index.cell_order.Goals as goal

pub put_in_order-requires-clause-graph : goal.put_in_order-requires-clause-graph
put_in_order-requires-clause-graph c =
    reads_graph c.args.self.now.devices c.args.roles c.args.self.now.nets c.args.nodes.now c.requires.reads c.requires.in_range

pub unreachable-requires : goal.unreachable-requires
unreachable-requires c =
    let circle : IsAnswer c.args.nodes.now Circular = subst (IsAnswer c.args.nodes.now) c.in-Circular.is (c.in_ok-order.ensures {u = tt}) in
    let d = circle_to c.args.self.now.devices c.args.roles c.args.self.now.nets c.args.nodes.now c.requires.reads c.requires.in_range circle.0 circle.1 in
    c.requires.kept circle.0 (loop d.0 d.1)
