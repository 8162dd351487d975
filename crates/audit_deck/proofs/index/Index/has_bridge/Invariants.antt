use Rattle.audit_deck.specs.Uses.{IsBridgeFrom}
use Rattle.audit_deck.proofs.Scans.{NoneBefore}
use Rattle.audit_deck.proofs.index.Index.has_bridge.Given as goal

abbrev pub invariant-loop-place : goal.invariant-loop-place
invariant-loop-place l = NoneBefore (IsBridgeFrom l.self.devices l.roles l.net) l.place-items l.place-index
