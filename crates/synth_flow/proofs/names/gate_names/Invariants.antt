use Rattle.std.proofs.Common.{◌≡◌, map}
use Rattle.std.specs.List.{range_with_len}
use Rattle.deck_form.specs.DeckNets.{named_gate}
use Rattle.synth_flow.proofs.names.gate_names.Given as goal

abbrev pub invariant-gates : goal.invariant-gates
invariant-gates l = l.names.items ≡ map (named_gate l.pins l.leaves) (range_with_len 0 l.gate)
