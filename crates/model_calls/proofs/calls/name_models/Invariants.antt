use Rattle.std.proofs.Common.{◌≡◌, ◌<◌, ℕ, take, Some}
use Rattle.std.specs.Prelude.{slice_get}
use Rattle.blif_ast.specs.BlifModelData.{BlifModelData}
use Rattle.model_calls.specs.CallNumbers.{names_of_models}
use Rattle.model_calls.specs.ModelFaults.{IsDuplicateModel}
use Rattle.model_calls.proofs.calls.name_models.Given as goal

abbrev pub invariant-loop-model : goal.invariant-loop-model
invariant-loop-model l =
    (l.names ≡ names_of_models (take l.model-index l.models))
    × ((k : ℕ) (m : BlifModelData) → k < l.model-index → slice_get l.models k ≡ Some m → IsDuplicateModel (take k l.models) m → ⊥)
