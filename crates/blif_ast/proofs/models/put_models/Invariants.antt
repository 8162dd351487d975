use Rattle.std.proofs.Common.{◌≡◌, ◌++◌, take}
use Rattle.std.specs.List.{flat_map}
use Rattle.blif_ast.specs.Printed.{printed_line, model_lines}
use Rattle.blif_ast.proofs.models.put_models.Given as goal

abbrev pub invariant-loop-model : goal.invariant-loop-model
invariant-loop-model l = l.text.items ≡ l.fn.text.items ++ flat_map (λ model. flat_map printed_line (model_lines model)) (take l.model-index l.models)
