-- What the parts of a file of BLIF (Berkeley Logic Interchange Format) by numbers count for the limits of a network.
use Rattle.std.specs.Prelude.{ℕ}
use Rattle.std.specs.List.{sum_by}
use Rattle.numbered_file.specs.NumberedData.{NumberedData}
use Rattle.numbered_file.specs.Numbered.{Part, TablePart, LatchPart}
use Rattle.local_names.specs.PartNames.{parts_at}
use Rattle.model_calls.specs.declared.fault.Limit.{Limit}
use Rattle.model_calls.specs.declared.fault.Limit.TheVariants.{Letters, Sinks}
use Rattle.part_numbers.specs.NetworkSizes.{letters_of_table}

-- the letters of a table, and a latch as a sink
abbrev pub part_weight : Limit → Part → ℕ
part_weight Letters (TablePart table) = letters_of_table table
part_weight Sinks (LatchPart latch) = 1
part_weight _ _ = 0

-- what the parts of a model count together
abbrev pub model_part_weight : Limit → NumberedData → ℕ → ℕ
model_part_weight limit d m = sum_by (part_weight limit) (parts_at d m)
