use Rattle.std.proofs.Common.{◌≡◌}
use Rattle.audit_deck.specs.Walks.{IsNextBy, MeetsThose}
use Rattle.audit_deck.proofs.Meets.{Upto}
use Rattle.audit_deck.proofs.index.Index.meet_next.Given as goal

abbrev pub invariant-loop-place : goal.invariant-loop-place
invariant-loop-place l = record {
  room : l.met.room ≡ l.self.nets;
  met : MeetsThose (Upto (IsNextBy l.self.devices l.roles l.net) l.place-items l.place-index) l.fn.met.nets l.met.nets;
}
