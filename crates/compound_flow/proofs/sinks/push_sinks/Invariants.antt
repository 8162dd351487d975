use Rattle.std.proofs.Common.{◌≡◌, map, take}
use Rattle.deck.specs.NamedDevices.{with_devices}
use Rattle.synth_flow.specs.SinkParts.{end_in}
use Rattle.compound_flow.specs.MadeCells.{plain_cells}
use Rattle.compound_flow.specs.MadeSinks.{sink_gates}
use Rattle.compound_flow.proofs.sinks.push_sinks.Given as goal

abbrev pub invariant-sinks : goal.invariant-sinks
invariant-sinks l =
    l.circuit ≡ with_devices l.fn.circuit (sink_gates l.pins (plain_cells l.plans) (take l.k l.outs) (take l.k (map (end_in l.cells) l.ends)))
