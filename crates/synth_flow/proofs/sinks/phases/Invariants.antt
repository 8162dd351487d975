use Rattle.std.proofs.Common.{◌≡◌, map, take}
use Rattle.std.specs.List.{zip}
use Rattle.synth_flow.specs.SinkParts.{phase_of_sink}
use Rattle.synth_flow.proofs.sinks.phases.Given as goal

abbrev pub invariant-sinks : goal.invariant-sinks
invariant-sinks l = l.phases.items ≡ map phase_of_sink (take l.k (zip l.nets l.signs))
