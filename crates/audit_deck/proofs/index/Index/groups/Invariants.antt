use Rattle.audit_deck.specs.Latches.{AreGroupsBelow}
use Rattle.audit_deck.proofs.index.Index.groups.Given as goal

abbrev pub invariant-loop-net : goal.invariant-loop-net
invariant-loop-net l = AreGroupsBelow l.self.devices l.roles l.net l.groups.items
