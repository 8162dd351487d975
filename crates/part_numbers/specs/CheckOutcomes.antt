-- What comes of looking through a file of BLIF, the Berkeley Logic Interchange Format, for what it can be refused for.
use Rattle.std.specs.Prelude.{ℕ, ◌≡◌, List, Some, Result, Ok, Err, slice_get}
use Rattle.blif_ast.specs.BlifFileData.{BlifFileData}
use Rattle.model_calls.specs.declared.fault.FlatFault.{FlatFault}
use Rattle.model_calls.specs.declared.fault.FlatFault.TheVariants.{At, TooMany, Memory}
use Rattle.model_calls.specs.declared.fault.FlatKind.{FlatKind}
use Rattle.model_calls.specs.Ends.{End, driven_end, read_ends}
use Rattle.model_calls.specs.Expanded.{PlacedPart, expanded}
use Rattle.part_numbers.specs.NumberedFiles.{card_of_part}
use Rattle.model_calls.specs.Occurrences.{main_model}
use Rattle.part_numbers.specs.PartCards.{card_control}
use Rattle.model_calls.specs.Refusals.{IsOfKind}

-- a fault is of this kind, and this holds of its line and its name, or there was too little memory
abbrev pub IsFaultOf : FlatKind → (ℕ → List ℕ → Type 0) → FlatFault → Type 0
IsFaultOf kind Holds (At line k name) = (k ≡ kind) × Holds line name
IsFaultOf kind Holds (TooMany limit count) = ⊥
IsFaultOf kind Holds Memory = Unit {0}

-- the line of the part at an index of the expanded list, and the name that it drives there
pub record IsAtOutput (f : BlifFileData) (index : ℕ) (line : ℕ) (name : List ℕ) : Type 0 where
  pub part : PlacedPart
  pub there : slice_get (expanded f) index ≡ Some part
  pub line_is : line ≡ (driven_end part).line
  pub name_is : name ≡ (driven_end part).name

-- the line of the part at an index of the expanded list, and the name at an index of those that it reads
pub record IsAtInput (f : BlifFileData) (index read : ℕ) (line : ℕ) (name : List ℕ) : Type 0 where
  pub part : PlacedPart
  pub there : slice_get (expanded f) index ≡ Some part
  pub end : End
  pub read_there : slice_get (read_ends part) read ≡ Some end
  pub line_is : line ≡ end.line
  pub name_is : name ≡ end.name

-- the line of the main model, and its output at an index
pub record IsAtMainOutput (f : BlifFileData) (index : ℕ) (line : ℕ) (name : List ℕ) : Type 0 where
  pub output : List ℕ
  pub there : slice_get (main_model f).outputs index ≡ Some output
  pub line_is : line ≡ (main_model f).line
  pub name_is : name ≡ output

-- the line of the part at an index of the expanded list
pub record IsLineAt (f : BlifFileData) (index : ℕ) (line : ℕ) : Type 0 where
  pub part : PlacedPart
  pub there : slice_get (expanded f) index ≡ Some part
  pub line_is : line ≡ (driven_end part).line

-- a line, and the name of the signal that controls the latch at an index of the expanded list, as it stands on its card
pub record IsAtControlOf (f : BlifFileData) (latch : ℕ) (IsLine : ℕ → Type 0) (line : ℕ) (name : List ℕ) : Type 0 where
  pub part : PlacedPart
  pub there : slice_get (expanded f) latch ≡ Some part
  pub line_is : IsLine line
  pub name_is : card_control (card_of_part part) ≡ Some name

-- looking for a kind of refusal gave it with its line and name, or the file has none of this kind, or there was too little memory
abbrev pub IsCheckOf : {T : Type 0} → BlifFileData → FlatKind → Result T FlatFault → Type 0
IsCheckOf f kind (Ok x) = (line : ℕ) (name : List ℕ) → IsOfKind f kind line name → ⊥
IsCheckOf f kind (Err fault) = IsFaultOf kind (IsOfKind f kind) fault
