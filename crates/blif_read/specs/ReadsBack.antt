-- A printed file of BLIF, the Berkeley Logic Interchange Format, reads back as itself in all but lines.
use Rattle.std.specs.Prelude.{◌≡◌, map}
use Rattle.blif_ast.specs.declared.latch.Latch.{Latch}
use Rattle.blif_ast.specs.TableData.{TableData}
use Rattle.blif_ast.specs.InstanceData.{InstanceData}
use Rattle.blif_ast.specs.BlifModelData.{BlifModelData}
use Rattle.blif_ast.specs.BlifFileData.{BlifFileData}
use Rattle.blif_ast.specs.Good.{IsGoodFile}
use Rattle.blif_ast.specs.Printed.{printed}
use Rattle.blif_ast.specs.Reading.{IsFileOf}

-- the same file with every line 0
abbrev pub table_unlined : TableData → TableData
table_unlined t = record { inputs = t.inputs; output = t.output; on = t.on; rows = t.rows; line = 0 }

abbrev pub latch_unlined : Latch → Latch
latch_unlined l = record { input = l.input; output = l.output; control = l.control; init = l.init; line = 0 }

abbrev pub instance_unlined : InstanceData → InstanceData
instance_unlined i = record { unit = i.unit; bindings = i.bindings; line = 0 }

abbrev pub model_unlined : BlifModelData → BlifModelData
model_unlined m = record {
  name = m.name;
  inputs = m.inputs;
  outputs = m.outputs;
  tables = map table_unlined m.tables;
  latches = map latch_unlined m.latches;
  instances = map instance_unlined m.instances;
  line = 0;
}

abbrev pub unlined : BlifFileData → BlifFileData
unlined f = record { models = map model_unlined f.models }

-- the text of a good file is accepted, and its file is that one in all but lines
abbrev pub PrintedReadsBack : Type 0
PrintedReadsBack = (file : BlifFileData) → IsGoodFile file
    → (again : BlifFileData) × IsFileOf (printed file) again × (unlined again ≡ unlined file)
