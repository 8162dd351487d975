use Rattle.dom_base.specs.declared.kind.Kind.TheVariants.{N as nch}
use Rattle.audit_deck.specs.Indexes.{HasKind}
use Rattle.audit_deck.specs.Scans.{AllBefore}
use Rattle.audit_deck.proofs.index.Index.is_inside.Given as goal

abbrev pub invariant-loop-place : goal.invariant-loop-place
invariant-loop-place l = AllBefore (HasKind l.self.devices nch) l.place-items l.place-index
