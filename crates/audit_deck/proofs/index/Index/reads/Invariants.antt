use Rattle.std.proofs.Common.{length, ◌≡◌}
use Rattle.audit_deck.specs.Loops.{AreReads}
use Rattle.audit_deck.proofs.index.Index.reads.Given as goal

abbrev pub invariant-loop-net : goal.invariant-loop-net
invariant-loop-net l = record {
  nets_room : l.nets.room ≡ l.self.nets;
  places_room : l.places.room ≡ length l.self.devices;
  nodes : AreReads l.self.devices l.roles l.net l.nodes.items;
}
