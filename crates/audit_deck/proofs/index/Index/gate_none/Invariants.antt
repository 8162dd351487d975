use Rattle.audit_deck.specs.Latches.{GatesNone}
use Rattle.audit_deck.specs.Scans.{AllBefore}
use Rattle.audit_deck.proofs.index.Index.gate_none.Given as goal

abbrev pub invariant-loop-net : goal.invariant-loop-net
invariant-loop-net l = AllBefore (GatesNone l.self.devices) l.nets l.net-index
