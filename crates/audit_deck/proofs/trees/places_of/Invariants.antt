use Rattle.std.specs.Prelude.{slice_index_or}
use Rattle.std.proofs.Common.{map, take, ◌≡◌}
use Rattle.audit_deck.proofs.trees.places_of.Given as goal

abbrev pub invariant-loop-number : goal.invariant-loop-number
invariant-loop-number l = l.named.items ≡ map (λ n. slice_index_or l.places n 0) (take l.number-index l.numbers)
