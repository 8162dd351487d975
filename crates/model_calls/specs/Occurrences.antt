-- The paths of a file of BLIF, the Berkeley Logic Interchange Format, the models at them, and the names of a model.
use Rattle.std.specs.Prelude.{ℕ, zero, suc, List, [], ◌∷◌, ◌++◌, length, map, Option}
use Rattle.std.specs.List.{find, flat_map}
use Rattle.std.specs.Option.{option_to_list}
use Rattle.blif_ast.specs.Cards.{same}
use Rattle.blif_ast.specs.declared.instance.Binding.{Binding}
use Rattle.blif_ast.specs.declared.latch.Control.{Control}
use Rattle.blif_ast.specs.declared.latch.Latch.{Latch}
use Rattle.blif_ast.specs.BlifFileData.{BlifFileData}
use Rattle.blif_ast.specs.BlifModelData.{BlifModelData}
use Rattle.blif_ast.specs.InstanceData.{InstanceData}
use Rattle.blif_ast.specs.TableData.{TableData}

-- the first of some models; a good file has one
abbrev pub first_model : List BlifModelData → BlifModelData
first_model [] = record { name = []; inputs = []; outputs = []; tables = []; latches = []; instances = []; line = 0 }
first_model (m ∷ models) = m

-- the main model
abbrev pub main_model : BlifFileData → BlifModelData
main_model f = first_model f.models

-- the models of this name: the first such one, or none
abbrev pub models_called : List BlifModelData → List ℕ → List BlifModelData
models_called models name = option_to_list (find (λ (m : BlifModelData). same m.name name) models)

-- the names of a latch's card: its control is no name where it is `NIL`
abbrev pub signal_of_control : Option Control → List (List ℕ)
signal_of_control control = flat_map (λ (c : Control). option_to_list c.signal) (option_to_list control)

abbrev pub names_of_table : TableData → List (List ℕ)
names_of_table t = t.inputs ++ t.output ∷ []

abbrev pub names_of_latch : Latch → List (List ℕ)
names_of_latch l = l.input ∷ l.output ∷ signal_of_control l.control

abbrev pub actuals_of : InstanceData → List (List ℕ)
actuals_of i = map (λ (b : Binding). b.actual) i.bindings

-- the names that occur in a model: its ports and the names on its cards, where an instance has its actuals
abbrev pub names_of : BlifModelData → List (List ℕ)
names_of m =
    m.inputs ++ m.outputs ++ flat_map names_of_table m.tables ++ flat_map names_of_latch m.latches ++ flat_map actuals_of m.instances

-- a path with its model
pub record Occurrence : Type 0 where
  pub path : List InstanceData
  pub model : BlifModelData

-- the paths from one on that have at most so many models below, each before those that go on from it
abbrev pub occurrences_from : List BlifModelData → ℕ → List InstanceData → BlifModelData → List Occurrence
occurrences_from models zero path m = []
occurrences_from models (suc depth) path m =
    record { path = path; model = m }
    ∷ flat_map (λ (i : InstanceData). flat_map (occurrences_from models depth (i ∷ path)) (models_called models i.unit)) m.instances

-- the paths of a file: where no model reaches itself, none passes more models than there are
abbrev pub occurrences : BlifFileData → List Occurrence
occurrences f = occurrences_from f.models (length f.models) [] (main_model f)
