use Rattle.std.proofs.Common.{◌≡◌, map, take}
use Rattle.deck_form.specs.DeckNets.{sink_gate}
use Rattle.synth_flow.specs.SinkParts.{end_in}
use Rattle.synth_flow.proofs.sinks.sink_gate_names.Given as goal

abbrev pub invariant-ends : goal.invariant-ends
invariant-ends l = l.gates.items ≡ map (sink_gate l.pins) (map (end_in l.cells) (take l.end-index l.ends))
