use Rattle.std.proofs.Common.{◌≡◌, map, take}
use Rattle.std.specs.Prelude.{codes}
use Rattle.synth_flow.specs.MadeDecks.{port_net}
use Rattle.synth_flow.proofs.names.out_names.Given as goal

abbrev pub invariant-outs : goal.invariant-outs
invariant-outs l = l.outs.items ≡ map (port_net (codes "o_") l.names) (take l.signal-index l.outputs)
