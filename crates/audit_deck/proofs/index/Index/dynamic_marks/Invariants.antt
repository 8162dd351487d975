use Rattle.deck_audit.specs.Words.{IsDynamic}
use Rattle.audit_deck.specs.Marks.{AreMarks}
use Rattle.audit_deck.proofs.index.Index.dynamic_marks.Given as goal

abbrev pub invariant-loop-net : goal.invariant-loop-net
invariant-loop-net l = AreMarks (IsDynamic l.self.devices l.roles) l.net l.marks
