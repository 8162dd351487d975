-- What is wrong with the signals of a file of BLIF, the Berkeley Logic Interchange Format, by their numbers.
use Rattle.std.specs.Prelude.{ℕ, ◌<◌, List, ◌++◌, map, All, Contains, IfSome}
use Rattle.part_numbers.specs.NumberedFiles.{NumberedFileData, NumberedPartData}

-- the numbers of a part are below a bound
pub record IsPartWithin (bound : ℕ) (p : NumberedPartData) : Type 0 where
  pub reads : All (λ number. number < bound) p.reads
  pub drives : p.drives < bound
  pub control : IfSome p.control (λ number. number < bound)

-- all numbers are below the count of signals
pub record AreNumbersWithin (n : NumberedFileData) : Type 0 where
  pub inputs : All (λ number. number < n.signals) n.inputs
  pub outputs : All (λ number. number < n.signals) n.outputs
  pub parts : All (IsPartWithin n.signals) n.parts

-- the numbers that main inputs and some parts drive
abbrev pub driven_by : List ℕ → List NumberedPartData → List ℕ
driven_by inputs parts = inputs ++ map (λ (p : NumberedPartData). p.drives) parts

-- a part drives what a main input or an earlier part drives
abbrev pub IsDrivenAgain : List ℕ → List NumberedPartData → NumberedPartData → Type 0
IsDrivenAgain inputs before p = Contains (driven_by inputs before) p.drives
