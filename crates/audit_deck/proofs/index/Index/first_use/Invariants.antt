use Rattle.std.proofs.Common.{ℕ, ◌<◌}
use Rattle.deck_audit.specs.Audits.{Breaks}
use Rattle.audit_deck.specs.Uses.{KeepsUseAt}
use Rattle.audit_deck.proofs.index.Index.first_use.Given as goal

abbrev pub invariant-loop-net : goal.invariant-loop-net
invariant-loop-net l = record {
  none : (m : ℕ) → m < l.net → Breaks l.self.devices l.roles l.self.nets 5 m → ⊥;
  keeps : (m : ℕ) → m < l.net → KeepsUseAt l.self.devices l.roles l.self.nets m;
}
