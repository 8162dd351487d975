-- When what is wrong with its models refuses a file of BLIF (Berkeley Logic Interchange Format) by numbers.
use Rattle.std.specs.Prelude.{◌≡◌, length}
use Rattle.blif_ast.specs.Good.{IsGoodFile}
use Rattle.numbered_file.specs.NumberedData.{NumberedData}
use Rattle.numbered_file.specs.Numbered.{file_of}
use Rattle.numbered_file.specs.Places.{first_part}
use Rattle.model_calls.specs.ModelCalls.{NothingRefuses}

-- where the file is good and each of its parts is one of a model's, not every fault of its models is absent: a name of a model or a
-- port that is there twice, an instance of no model, a formal that is wrong, and a model that reaches itself
abbrev pub IsRefusedForModels : NumberedData → Type 0
IsRefusedForModels d = IsGoodFile (file_of d) → first_part d (length d.models) ≡ length d.parts → NothingRefuses (file_of d) 5 → ⊥
