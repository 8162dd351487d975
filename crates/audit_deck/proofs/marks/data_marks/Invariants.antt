use Rattle.std.specs.Prelude.{Some, false, replicate, slice_get, ◌≡◌}
use Rattle.found_decks.specs.FoundDecks.{FoundLatch}
use Rattle.audit_deck.specs.Marks.{AddsMarks}
use Rattle.audit_deck.proofs.MarkedNets.{Below}
use Rattle.audit_deck.proofs.marks.data_marks.Given as goal

abbrev pub invariant-loop-group : goal.invariant-loop-group
invariant-loop-group l =
    AddsMarks (Below (λ j n. (g : FoundLatch) × (slice_get l.groups j ≡ Some g) × (n ≡ (g.group).data_net)) l.group-index)
    (replicate l.count false) l.marks
