use Rattle.std.proofs.Common.{◌≡◌, take}
use Rattle.numbered_file.specs.Numbered.{models_in}
use Rattle.part_numbers.specs.NetworkSizes.{model_weights}
use Rattle.local_names.proofs.sizes.weigh_models.Given as goal

abbrev pub invariant-loop-model : goal.invariant-loop-model
invariant-loop-model l = l.weights.items ≡ model_weights l.limit (take l.model (models_in l.file))
