use Rattle.std.proofs.Common.{take}
use Rattle.numbered_file.specs.Numbered.{models_in}
use Rattle.model_calls.specs.CallNumbers.{AreCalls, names_of_models}
use Rattle.numbered_calls.proofs.accepted_calls.call_graph.Given as goal

abbrev pub invariant-loop-model : goal.invariant-loop-model
invariant-loop-model l = AreCalls (names_of_models (models_in l.file)) (take l.model (models_in l.file)) l.nodes.items
