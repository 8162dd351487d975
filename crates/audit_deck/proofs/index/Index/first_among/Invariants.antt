use Rattle.std.proofs.Common.{length, ℕ, ◌<◌, ◌≡◌}
use Rattle.deck_audit.specs.Audits.{Breaks}
use Rattle.audit_deck.proofs.index.Index.first_among.Given as goal

abbrev pub invariant-loop-net : goal.invariant-loop-net
invariant-loop-net l = record {
  nets_room : l.nets.room ≡ l.self.nets;
  places_room : l.places.room ≡ length l.self.devices;
  none : (m : ℕ) → m < l.net → Breaks l.self.devices l.roles l.self.nets 6 m → ⊥;
}
