use Rattle.std.specs.Prelude.{replicate, false, ◌≡◌}
use Rattle.deck_audit.specs.Words.{IsDynamic, Reached}
use Rattle.audit_deck.specs.Marks.{AddsMarks}
use Rattle.audit_deck.proofs.MarkedNets.{Below}
use Rattle.audit_deck.proofs.index.Index.inside_marks.Given as goal

abbrev pub invariant-loop-net : goal.invariant-loop-net
invariant-loop-net l = record {
  room : l.nets.room ≡ l.self.nets;
  marks : AddsMarks (Below (λ x n. IsDynamic l.self.devices l.roles x × Reached l.self.devices l.roles x n) l.net) (replicate l.count false) l.marks;
}
