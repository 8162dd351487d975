-- What is needed to look for the first formal that is wrong in a file of BLIF, the Berkeley Logic Interchange Format: the ports of
-- models.
use Rattle.std.specs.Prelude.{ℕ, ◌≡◌, List, ◌++◌, map, nat_eq, Contains, Option, Some, slice_get}
use Rattle.std.specs.HashMap.{HashMap, get}
use Rattle.std.specs.List.{flat_map}
use Rattle.blif_ast.specs.declared.instance.Binding.{Binding}
use Rattle.blif_ast.specs.BlifModelData.{BlifModelData}
use Rattle.blif_ast.specs.InstanceData.{InstanceData}
use Rattle.model_calls.specs.ModelFaults.{Formal, formals_with}
use Rattle.model_calls.specs.Occurrences.{models_called}
use Rattle.model_calls.specs.Scans.{AreFirsts}

abbrev pub names_of_ports : BlifModelData → List (List ℕ)
names_of_ports m = m.inputs ++ m.outputs

-- a table of a model's ports, if there is one, has each of them once
abbrev pub IsPortTable : BlifModelData → Option (List (List ℕ)) → Type 0
IsPortTable m table = (names : List (List ℕ)) → table ≡ Some names → AreFirsts (names_of_ports m) names

-- tables of the ports of some models, by their numbers
abbrev pub HavePorts : {S : Type 0} → List BlifModelData → HashMap ℕ (List (List ℕ)) S → Type 0
HavePorts models tables = (k : ℕ) (m : BlifModelData) → slice_get models k ≡ Some m → IsPortTable m (get nat_eq tables k)

-- an input isn't among the formals that are bound
abbrev pub IsUnbound : List (List ℕ) → List (List ℕ) → List ℕ → Type 0
IsUnbound formals before input = Contains formals input → ⊥

-- the formals of the instances of a model
abbrev pub formals_of_instance : List BlifModelData → InstanceData → List Formal
formals_of_instance models i = flat_map (formals_with i) (models_called models i.unit)

abbrev pub formals_in : List BlifModelData → List InstanceData → List Formal
formals_in models instances = flat_map (formals_of_instance models) instances

abbrev pub formals_in_model : List BlifModelData → BlifModelData → List Formal
formals_in_model models m = formals_in models m.instances

-- the formals that bindings bind, in order
abbrev pub bound_formals : List Binding → List (List ℕ)
bound_formals bindings = map (λ (b : Binding). b.formal) bindings
