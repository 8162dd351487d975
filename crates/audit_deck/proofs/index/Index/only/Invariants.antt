use Rattle.audit_deck.specs.Indexes.{HasKind}
use Rattle.audit_deck.proofs.Scans.{IsOnlyBefore}
use Rattle.audit_deck.proofs.index.Index.only.Given as goal

abbrev pub invariant-loop-place : goal.invariant-loop-place
invariant-loop-place l = IsOnlyBefore (HasKind l.self.devices l.kind) l.place-items l.place-index l.only
