use Rattle.std.specs.Prelude.{Some, slice_get, ◌≡◌}
use Rattle.audit_deck.specs.Marks.{AddsMarks}
use Rattle.audit_deck.proofs.MarkedNets.{Below}
use Rattle.audit_deck.proofs.net_marks.NetMarks.mark_all.Given as goal

abbrev pub invariant-loop-net : goal.invariant-loop-net
invariant-loop-net l = AddsMarks (Below (λ j n. slice_get l.nets j ≡ Some n) l.net-index) l.fn.self l.self
