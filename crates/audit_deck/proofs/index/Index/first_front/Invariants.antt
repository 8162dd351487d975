use Rattle.std.proofs.Common.{ℕ, ◌<◌}
use Rattle.deck_audit.specs.Audits.{Breaks}
use Rattle.audit_deck.proofs.index.Index.first_front.Given as goal

abbrev pub invariant-loop-net : goal.invariant-loop-net
invariant-loop-net l = (m : ℕ) → m < l.net → Breaks l.self.devices l.roles l.self.nets 1 m → ⊥
