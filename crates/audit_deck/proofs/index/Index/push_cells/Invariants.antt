use Rattle.std.proofs.Common.{length, take, ◌≡◌}
use Rattle.audit_deck.specs.DeckOrders.{AddsCells}
use Rattle.audit_deck.proofs.index.Index.push_cells.Given as goal

abbrev pub invariant-loop-net : goal.invariant-loop-net
invariant-loop-net l = record {
  nets_room : l.nets.room ≡ l.self.nets;
  places_room : l.places.room ≡ length l.self.devices;
  added : AddsCells l.self.devices l.roles (take l.net-index l.tops) l.fn.order l.order;
}
