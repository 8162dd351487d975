-- A model of BLIF (Berkeley Logic Interchange Format) that parts are copied into, one after the other.
use Rattle.std.specs.Prelude.{List, [], ◌∷◌, ◌++◌, fold}
use Rattle.blif_ast.specs.BlifModelData.{BlifModelData}
use Rattle.numbered_file.specs.Numbered.{Part, TablePart, LatchPart, InstancePart}

-- a model with one more part
abbrev pub model_with_part : BlifModelData → Part → BlifModelData
model_with_part m (TablePart table) = record m { tables = m.tables ++ table ∷ [] }
model_with_part m (LatchPart latch) = record m { latches = m.latches ++ latch ∷ [] }
model_with_part m (InstancePart instance) = record m { instances = m.instances ++ instance ∷ [] }

abbrev pub model_with_all : BlifModelData → List Part → BlifModelData
model_with_all m parts = fold model_with_part m parts
