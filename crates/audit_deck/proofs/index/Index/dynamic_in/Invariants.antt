use Rattle.std.proofs.Common.{length, ◌≡◌}
use Rattle.audit_deck.proofs.CellOrders.{AreMetUpto}
use Rattle.audit_deck.proofs.index.Index.dynamic_in.Given as goal

abbrev pub invariant-loop-net : goal.invariant-loop-net
invariant-loop-net l = record {
  room : l.cells.room ≡ length l.nodes;
  met : AreMetUpto l.self.devices l.fn.roles l.order l.net-index l.cells.nets;
}
