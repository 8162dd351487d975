-- What holds of each text of BLIF, the Berkeley Logic Interchange Format, and its answer.
use Rattle.std.specs.Prelude.{List, ℕ}
use Rattle.dom_base.specs.Answers.{HasOneAnswer}
use Rattle.blif_ast.specs.BlifFileData.{BlifFileData}
use Rattle.blif_ast.specs.Good.{IsGoodFile}
use Rattle.blif_ast.specs.Reading.{IsBlifFault, IsBlifFaultAt, IsFileOf}

-- the file of an accepted text is good
abbrev pub AcceptedFileIsGood : Type 0
AcceptedFileIsGood = (text : List ℕ) (file : BlifFileData) → IsFileOf text file → IsGoodFile file

-- each text is accepted with one file and has no fault, or is refused for one fault, and never both
abbrev pub TextHasOneAnswer : Type 0
TextHasOneAnswer = (text : List ℕ) → HasOneAnswer (IsFileOf text) (IsBlifFault text) (IsBlifFaultAt text)
