-- The file of BLIF (Berkeley Logic Interchange Format) that a file by numbers stands for, and when its numbers are in order.
use Rattle.std.specs.Prelude.{ℕ, ◌-◌, ◌≤◌, ◌<◌, Bool, List, [], ◌∷◌, length, map, take, drop, slice_get, slice_index_or, Option, Some, None}
use Rattle.std.specs.List.{filter_map, AllByRecursion, IsDistinct}
use Rattle.std.specs.Option.{option_map}
use Rattle.blif_ast.specs.declared.latch.Latch.{Latch}
use Rattle.blif_ast.specs.declared.latch.Control.{Control}
use Rattle.blif_ast.specs.declared.latch.Edge2.{Edge2}
use Rattle.blif_ast.specs.declared.instance.Binding.{Binding}
use Rattle.blif_ast.specs.TableData.{TableData}
use Rattle.blif_ast.specs.InstanceData.{InstanceData}
use Rattle.blif_ast.specs.BlifModelData.{BlifModelData}
use Rattle.blif_ast.specs.BlifFileData.{BlifFileData}
use Rattle.blif_ast.specs.Cards.{same, last_word}
use Rattle.blif_ast.specs.Models.{row_at}
use Rattle.numbered_file.specs.declared.parts.ModelAt.{ModelAt}
use Rattle.numbered_file.specs.declared.parts.PartAt.{PartAt}
use Rattle.numbered_file.specs.declared.parts.PartKind.{PartKind}
use Rattle.numbered_file.specs.declared.parts.PartKind.TheVariants as at
use Rattle.numbered_file.specs.NumberedData.{NumberedData}

-- the items from one place up to another
abbrev pub between : {A : Type 0} → ℕ → ℕ → List A → List A
between start end items = take (end - start) (drop start items)

-- the name of a number
abbrev pub name_of : List (List ℕ) → ℕ → List ℕ
name_of names number = slice_index_or names number []

abbrev pub named : List (List ℕ) → List ℕ → List (List ℕ)
named names numbers = map (name_of names) numbers

-- a table, a latch or an instance
pub data Part : Type 0 where
  TablePart : TableData → Part
  LatchPart : Latch → Part
  InstancePart : InstanceData → Part

-- a table by its words, the last of which is its output, and by the places of its rows
abbrev pub table_by : List ℕ → Bool → ℕ → List (List ℕ) → List ℕ → TableData
table_by text on line words rows = record {
  inputs = take (length words - 1) words;
  output = last_word words;
  on = on;
  rows = map (row_at text (length words - 1)) rows;
  line = line;
}

abbrev pub control_by : List (List ℕ) → Edge2 → Control
control_by words edge = record { edge = edge; signal = slice_get words 2 }

-- a latch by its words: its input, its output and the signal that controls it
abbrev pub latch_by : Option Edge2 → ℕ → ℕ → List (List ℕ) → Latch
latch_by edge init line words = record {
  input = slice_index_or words 0 [];
  output = slice_index_or words 1 [];
  control = option_map (control_by words) edge;
  init = init;
  line = line;
}

-- bindings by their formals and actuals in turn
abbrev pub bindings_by : List (List ℕ) → List Binding
bindings_by [] = []
bindings_by (formal ∷ []) = []
bindings_by (formal ∷ actual ∷ more) = record { formal = formal; actual = actual } ∷ bindings_by more

-- an instance by its words: the name of its model, and those of its bindings
abbrev pub instance_by : ℕ → List (List ℕ) → InstanceData
instance_by line words = record { unit = slice_index_or words 0 []; bindings = bindings_by (drop 1 words); line = line }

-- a part by its words and the places of its rows
abbrev pub part_by : List ℕ → PartKind → ℕ → List (List ℕ) → List ℕ → Part
part_by text (at.Table on) line words rows = TablePart (table_by text on line words rows)
part_by text (at.Latch edge init) line words rows = LatchPart (latch_by edge init line words)
part_by text at.Instance line words rows = InstancePart (instance_by line words)

-- the parts, where the words of the first begin at the first of these places, and its rows at the second
abbrev pub parts_from : List ℕ → List (List ℕ) → List ℕ → ℕ → ℕ → List PartAt → List Part
parts_from text words rows word row [] = []
parts_from text words rows word row (part ∷ parts) =
    part_by text part.kind part.line (between word part.words_end words) (between row part.rows_end rows)
    ∷ parts_from text words rows part.words_end part.rows_end parts

abbrev pub table_in : Part → Option TableData
table_in (TablePart table) = Some table
table_in _ = None

abbrev pub latch_in : Part → Option Latch
latch_in (LatchPart latch) = Some latch
latch_in _ = None

abbrev pub instance_in : Part → Option InstanceData
instance_in (InstancePart instance) = Some instance
instance_in _ = None

-- a model by its parts
abbrev pub model_by : List ℕ → ℕ → List (List ℕ) → List (List ℕ) → List Part → BlifModelData
model_by name line inputs outputs parts = record {
  name = name;
  inputs = inputs;
  outputs = outputs;
  tables = filter_map table_in parts;
  latches = filter_map latch_in parts;
  instances = filter_map instance_in parts;
  line = line;
}

-- the models, where the inputs, outputs and parts of the first begin at these places
abbrev pub models_from : List (List ℕ) → List (List ℕ) → List (List ℕ) → List Part → ℕ → ℕ → ℕ → List ModelAt → List BlifModelData
models_from names inputs outputs parts input output part [] = []
models_from names inputs outputs parts input output part (m ∷ ms) =
    model_by (name_of names m.name) m.line (between input m.inputs_end inputs) (between output m.outputs_end outputs)
    (between part m.parts_end parts)
    ∷ models_from names inputs outputs parts m.inputs_end m.outputs_end m.parts_end ms

-- all parts of a file
abbrev pub parts_of : NumberedData → List Part
parts_of d = parts_from d.text (named d.names d.words) d.rows 0 0 d.parts

abbrev pub models_in : NumberedData → List BlifModelData
models_in d = models_from d.names (named d.names d.inputs) (named d.names d.outputs) (parts_of d) 0 0 0 d.models

-- the file that a file by numbers stands for
abbrev pub file_of : NumberedData → BlifFileData
file_of d = record { models = models_in d }

-- the words and the rows of the parts end one behind the other, from these places on, within so many words and rows
abbrev pub PartsRise : ℕ → ℕ → List PartAt → ℕ → ℕ → Type 0
PartsRise word row [] words rows = (word ≤ words) × (row ≤ rows)
PartsRise word row (part ∷ parts) words rows =
    (word ≤ part.words_end) × (row ≤ part.rows_end) × PartsRise part.words_end part.rows_end parts words rows

-- the same of the inputs, outputs and parts of models
abbrev pub ModelsRise : ℕ → ℕ → ℕ → List ModelAt → ℕ → ℕ → ℕ → Type 0
ModelsRise input output part [] inputs outputs parts = (input ≤ inputs) × (output ≤ outputs) × (part ≤ parts)
ModelsRise input output part (m ∷ ms) inputs outputs parts =
    (input ≤ m.inputs_end) × (output ≤ m.outputs_end) × (part ≤ m.parts_end)
    × ModelsRise m.inputs_end m.outputs_end m.parts_end ms inputs outputs parts

-- numbers of so many names
abbrev pub AreBelow : ℕ → List ℕ → Type 0
AreBelow count numbers = AllByRecursion (λ number. number < count) numbers

-- names differ, each number is that of a name, and parts and models stand one behind the other in the lists of the file
pub record IsNumbered (d : NumberedData) : Type 0 where
  pub names : IsDistinct same d.names
  pub inputs : AreBelow (length d.names) d.inputs
  pub outputs : AreBelow (length d.names) d.outputs
  pub words : AreBelow (length d.names) d.words
  pub model_names : AllByRecursion (λ m. m.name < length d.names) d.models
  pub parts : PartsRise 0 0 d.parts (length d.words) (length d.rows)
  pub models : ModelsRise 0 0 0 d.models (length d.inputs) (length d.outputs) (length d.parts)
