use Rattle.std.proofs.Common.{[], ℕ, ◌<◌, ◌≡◌}
use Rattle.deck_audit.specs.Rules.{HasLatch, IsAtControl}
use Rattle.audit_deck.specs.Walks.{MeetsThose}
use Rattle.audit_deck.proofs.LatchLists.{OwnUpto}
use Rattle.audit_deck.proofs.index.Index.first_latch.Given as goal

abbrev pub invariant-loop-group : goal.invariant-loop-group
invariant-loop-group l = record {
  room : l.own.room ≡ l.self.nets;
  met : MeetsThose (OwnUpto l.groups l.group-index) [] l.own.nets;
}

abbrev pub invariant-loop-net : goal.invariant-loop-net
invariant-loop-net l = (m : ℕ) → m < l.net → IsAtControl l.self.devices l.roles m → HasLatch l.self.devices l.roles m
