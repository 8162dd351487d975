-- The models that the instances of a file of BLIF (Berkeley Logic Interchange Format) by numbers name, and that no two models have
-- one name.
use Rattle.std.specs.Prelude.{ℕ, ◌≡◌, List, length, slice_index_or}
use Rattle.numbered_file.specs.NumberedData.{NumberedData}
use Rattle.numbered_file.specs.Numbered.{models_in}
use Rattle.local_names.specs.LocalNames.{IsInstance, IsUnitOf}
use Rattle.model_calls.specs.FirstFaults.{NoneHolds}
use Rattle.model_calls.specs.ModelFaults.{IsDuplicateModel}

-- a number for each part, which for an instance is that of its model
pub record AreUnits (d : NumberedData) (units : List ℕ) : Type 0 where
  pub apart : NoneHolds IsDuplicateModel (models_in d)
  pub count : length units ≡ length d.parts
  pub units_are : (k : ℕ) → IsInstance d k → IsUnitOf d k (slice_index_or units k 0)
