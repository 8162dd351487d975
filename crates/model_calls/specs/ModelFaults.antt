-- What is wrong with the models of a file of BLIF, the Berkeley Logic Interchange Format, before their instances are replaced.
-- Every model of the file is looked at.
use Rattle.std.specs.Prelude.{ℕ, ◌≡◌, ◌<◌, ◌⊎◌, List, ◌++◌, map, Contains}
use Rattle.std.specs.List.{count_by, flat_map}
use Rattle.blif_ast.specs.Cards.{same}
use Rattle.blif_ast.specs.declared.instance.Binding.{Binding}
use Rattle.blif_ast.specs.BlifFileData.{BlifFileData}
use Rattle.blif_ast.specs.BlifModelData.{BlifModelData}
use Rattle.blif_ast.specs.InstanceData.{InstanceData}
use Rattle.model_calls.specs.Occurrences.{models_called}
use Rattle.model_calls.specs.Reaches.{Reaches}

-- a name stands twice in a list
abbrev pub IsTwiceIn : List (List ℕ) → List ℕ → Type 0
IsTwiceIn names name = 1 < count_by (same name) names

-- 10: a model has an earlier model's name
abbrev pub IsDuplicateModel : List BlifModelData → BlifModelData → Type 0
IsDuplicateModel before m = Contains (map (λ (b : BlifModelData). b.name) before) m.name

-- a name as a model lists it among its inputs or among its outputs
pub record Port : Type 0 where
  pub line : ℕ
  pub list : List (List ℕ)
  pub name : List ℕ

abbrev pub ports_in : ℕ → List (List ℕ) → List Port
ports_in line list = map (λ name. record { line = line; list = list; name = name }) list

-- the ports of a model: the inputs before the outputs
abbrev pub ports_of_model : BlifModelData → List Port
ports_of_model m = ports_in m.line m.inputs ++ ports_in m.line m.outputs

-- the ports of all models
abbrev pub ports : BlifFileData → List Port
ports f = flat_map ports_of_model f.models

-- 11: the list has the name twice
abbrev pub IsDuplicatePort : List Port → Port → Type 0
IsDuplicatePort before p = IsTwiceIn p.list p.name

-- an instance in its model
pub record Use : Type 0 where
  pub model : BlifModelData
  pub instance : InstanceData

-- the instances of a model
abbrev pub uses_in : BlifModelData → List Use
uses_in m = map (λ i. record { model = m; instance = i }) m.instances

-- the instances of all models
abbrev pub uses : BlifFileData → List Use
uses f = flat_map uses_in f.models

-- 12: the instance names no model of the file
abbrev pub IsUnknownModel : BlifFileData → List Use → Use → Type 0
IsUnknownModel f before u = Contains (map (λ (m : BlifModelData). m.name) f.models) u.instance.unit → ⊥

-- a formal that an instance must get right: one that it binds, or an input of its model
pub data Formal : Type 0 where
  BoundFormal : InstanceData → BlifModelData → List ℕ → Formal
  InputFormal : InstanceData → List ℕ → Formal

abbrev pub formals_of : InstanceData → List (List ℕ)
formals_of i = map (λ (b : Binding). b.formal) i.bindings

-- the formals of all instances: of each those that it binds, in order, and then the inputs of its model
abbrev pub formals_with : InstanceData → BlifModelData → List Formal
formals_with i unit = map (BoundFormal i unit) (formals_of i) ++ map (InputFormal i) unit.inputs

abbrev pub formals_of_use : BlifFileData → Use → List Formal
formals_of_use f u = flat_map (formals_with u.instance) (models_called f.models u.instance.unit)

abbrev pub formals : BlifFileData → List Formal
formals f = flat_map (formals_of_use f) (uses f)

-- the formal is no port of the model or is bound twice, or the input isn't bound
abbrev pub IsWrongFormal : Formal → Type 0
IsWrongFormal (BoundFormal i unit name) = (Contains (unit.inputs ++ unit.outputs) name → ⊥) ⊎ IsTwiceIn (formals_of i) name
IsWrongFormal (InputFormal i name) = Contains (formals_of i) name → ⊥

-- 13: the formal is wrong
abbrev pub IsBadFormal : List Formal → Formal → Type 0
IsBadFormal before formal = IsWrongFormal formal

abbrev pub line_of_formal : Formal → ℕ
line_of_formal (BoundFormal i unit name) = i.line
line_of_formal (InputFormal i name) = i.line

abbrev pub name_of_formal : Formal → List ℕ
name_of_formal (BoundFormal i unit name) = name
name_of_formal (InputFormal i name) = name

-- a model of one name has an instance of the model of another
abbrev pub HasInstance : BlifFileData → List ℕ → List ℕ → Type 0
HasInstance f name unit = (u : Use) × Contains (uses f) u × (u.model.name ≡ name) × (u.instance.unit ≡ unit)

-- 14: the instance's model is the model that it stands in, or reaches it through instances
abbrev pub IsRecursion : BlifFileData → List Use → Use → Type 0
IsRecursion f before u = (u.instance.unit ≡ u.model.name) ⊎ Reaches (HasInstance f) u.instance.unit u.model.name
