use Rattle.audit_deck.proofs.FirstComplements.{AreFirstBelow}
use Rattle.audit_deck.proofs.index.Index.complements.Given as goal

abbrev pub invariant-loop-net : goal.invariant-loop-net
invariant-loop-net l = AreFirstBelow l.self.devices l.roles l.self.nets l.net l.complements
