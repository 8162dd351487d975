use Rattle.std.proofs.Common.{◌≡◌, ◌++◌, take}
use Rattle.file_copies.specs.FileLetters.{models_letters}
use Rattle.file_copies.proofs.letters.append_models.Given as goal

abbrev pub invariant-loop-model : goal.invariant-loop-model
invariant-loop-model l = l.bytes.items ≡ l.fn.bytes.items ++ models_letters (take l.model-index l.models)
