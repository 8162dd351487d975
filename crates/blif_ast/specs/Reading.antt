-- The file of a BLIF text (Berkeley Logic Interchange Format), or its fault.
use Rattle.std.specs.Prelude.{ℕ, ◌≡◌, ◌+◌, ◌⊎◌, true, List, [], ◌∷◌, ◌++◌, length, reverse}
use Rattle.dom_base.specs.Answers.{IsFirstFault}
use Rattle.dom_base.specs.Lines.{lines}
use Rattle.blif_ast.specs.BlifFileData.{BlifFileData}
use Rattle.blif_ast.specs.declared.kind.BlifKind.{BlifKind}
use Rattle.blif_ast.specs.declared.kind.BlifKind.TheVariants.{NoModel}
use Rattle.blif_ast.specs.LogicalLines.{LogicalLine, logical_lines}
use Rattle.blif_ast.specs.Faults.{has_blif_fault, blif_kind_number}
use Rattle.blif_ast.specs.Models.{models_of}

-- one of these lines has this number and a fault of this kind; its context is what the lines before it say
pub record IsFaultOfLine (all : List LogicalLine) (number : ℕ) (kind : BlifKind) : Type 0 where
  -- the lines before it, the nearest first
  pub before : List LogicalLine
  pub line : LogicalLine
  pub after : List LogicalLine
  pub lines_are : all ≡ reverse before ++ line ∷ after
  pub number_is : line.number ≡ number
  pub fault : has_blif_fault kind before line ≡ true

-- the text has no line with words: its fault stands behind its last line
pub record IsFaultOfEmpty (text : List ℕ) (number : ℕ) (kind : BlifKind) : Type 0 where
  pub empty : logical_lines text ≡ []
  pub number_is : number ≡ length (lines text) + 1
  pub kind_is : kind ≡ NoModel

-- the text has a fault of this kind at the line of this number
abbrev pub IsBlifFault : List ℕ → ℕ → BlifKind → Type 0
IsBlifFault text number kind = IsFaultOfLine (logical_lines text) number kind ⊎ IsFaultOfEmpty text number kind

-- the text is refused at this line for this kind: the first line with a fault, and the smallest kind of it there
abbrev pub IsBlifFaultAt : List ℕ → ℕ → BlifKind → Type 0
IsBlifFaultAt text number kind = IsFirstFault blif_kind_number (IsBlifFault text) number kind

-- the text is accepted, and this is its file
pub record IsFileOf (text : List ℕ) (file : BlifFileData) : Type 0 where
  pub no_fault : (number : ℕ) (kind : BlifKind) → IsBlifFault text number kind → ⊥
  pub file_is : file ≡ record { models = models_of (logical_lines text) }
