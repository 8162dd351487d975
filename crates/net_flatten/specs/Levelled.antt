-- The levels of the signals of a file, or a table on a loop, by numbers.
use Rattle.std.specs.Prelude.{ℕ, List}
use Rattle.net_flatten.specs.declared.cycle_check.Levelled.{Levelled}
use Rattle.net_flatten.specs.declared.cycle_check.Levelled.TheVariants.{Levels, Loop}
use Rattle.net_flatten.specs.Dependences.{AreDependences, AreTableLevels}
use Rattle.model_calls.specs.FirstFaults.{NoneHolds}
use Rattle.net_flatten.specs.FoundFirst.{IsFirstAt}
use Rattle.net_flatten.specs.Loops.{IsOnLoop}
use Rattle.part_numbers.specs.NumberedFiles.{NumberedPartData}

-- by what signals depend on, no table is on a loop
pub record IsWithoutLoop (signals : ℕ) (parts : List NumberedPartData) : Type 0 where
  pub nodes : List (List ℕ)
  pub depend : AreDependences signals parts nodes
  pub none : NoneHolds (IsOnLoop nodes) parts

-- or the table at this index is the first that is
pub record IsFirstLoop (signals : ℕ) (parts : List NumberedPartData) (index : ℕ) : Type 0 where
  pub nodes : List (List ℕ)
  pub depend : AreDependences signals parts nodes
  pub first : IsFirstAt (IsOnLoop nodes) parts index

-- the levels of all signals
pub record HaveLevels (signals : ℕ) (parts : List NumberedPartData) (levels : List ℕ) : Type 0 where
  pub no_loop : IsWithoutLoop signals parts
  pub are_levels : AreTableLevels signals parts levels

abbrev pub AreLevelled : ℕ → List NumberedPartData → Levelled → Type 0
AreLevelled signals parts (Levels levels) = HaveLevels signals parts levels.items
AreLevelled signals parts (Loop index) = IsFirstLoop signals parts index
