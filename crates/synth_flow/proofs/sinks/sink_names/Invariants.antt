use Rattle.std.proofs.Common.{◌≡◌, ◌++◌, map}
use Rattle.std.specs.List.{range_with_len}
use Rattle.deck_form.specs.DeckNets.{data_net}
use Rattle.synth_flow.proofs.sinks.sink_names.Given as goal

abbrev pub invariant-latches : goal.invariant-latches
invariant-latches l = l.nets.items ≡ l.outs ++ map data_net (range_with_len 0 l.j)
