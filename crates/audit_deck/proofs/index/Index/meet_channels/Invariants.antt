use Rattle.std.proofs.Common.{length, [], ◌≡◌}
use Rattle.audit_deck.specs.Walks.{IsChannelAt, MeetsThose}
use Rattle.audit_deck.proofs.Meets.{Upto}
use Rattle.audit_deck.proofs.index.Index.meet_channels.Given as goal

abbrev pub invariant-loop-net : goal.invariant-loop-net
invariant-loop-net l = record {
  room : l.met.room ≡ length l.self.devices;
  met : MeetsThose (Upto (IsChannelAt l.self.devices) l.nets l.net-index) [] l.met.nets;
}
