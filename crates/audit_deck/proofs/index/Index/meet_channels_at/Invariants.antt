use Rattle.std.proofs.Common.{length, ◌≡◌}
use Rattle.dom_base.specs.declared.kind.Kind.TheVariants.{N as nch}
use Rattle.audit_deck.specs.Indexes.{HasKind}
use Rattle.audit_deck.specs.Walks.{MeetsThose}
use Rattle.audit_deck.proofs.Meets.{Upto}
use Rattle.audit_deck.proofs.index.Index.meet_channels_at.Given as goal

abbrev pub invariant-loop-place : goal.invariant-loop-place
invariant-loop-place l = record {
  room : l.met.room ≡ length l.self.devices;
  met : MeetsThose (Upto (λ place p. (p ≡ place) × HasKind l.self.devices nch p) l.place-items l.place-index) l.fn.met.nets l.met.nets;
}
