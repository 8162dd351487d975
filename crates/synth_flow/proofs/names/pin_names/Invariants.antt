use Rattle.std.proofs.Common.{◌≡◌, map}
use Rattle.std.specs.Prelude.{codes}
use Rattle.std.specs.List.{range_with_len}
use Rattle.synth_flow.specs.MadeDecks.{port_net}
use Rattle.synth_flow.proofs.names.pin_names.Given as goal

abbrev pub invariant-pins : goal.invariant-pins
invariant-pins l = l.pins.items ≡ map (port_net (codes "i_") l.names) (range_with_len 0 l.signal)
