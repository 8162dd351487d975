use Rattle.audit_deck.specs.CellTrees.{IsAtSource}
use Rattle.audit_deck.proofs.Scans.{IsOnlyBefore}
use Rattle.audit_deck.proofs.index.Index.only_at_source.Given as goal

abbrev pub invariant-loop-place : goal.invariant-loop-place
invariant-loop-place l = IsOnlyBefore (IsAtSource l.self.devices l.roles) l.places l.place-index l.only
