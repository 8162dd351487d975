-- The models of a file of BLIF, the Berkeley Logic Interchange Format, by their names, and the models that their instances name,
-- by numbers.
use Rattle.std.specs.Prelude.{ℕ, ◌≡◌, List, map, take, Contains, Option, Some, None, slice_get}
use Rattle.blif_ast.specs.BlifModelData.{BlifModelData}
use Rattle.blif_ast.specs.InstanceData.{InstanceData}
use Rattle.model_calls.specs.declared.calls.CallGraph.{CallGraph}
use Rattle.model_calls.specs.declared.calls.CallGraph.TheVariants.{Known as KnownGraph, Unknown as UnknownGraph}
use Rattle.model_calls.specs.declared.calls.Callees.{Callees}
use Rattle.model_calls.specs.declared.calls.Callees.TheVariants.{Known, Unknown}
use Rattle.model_calls.specs.declared.first_fault.FirstFault.{FirstFault}
use Rattle.model_calls.specs.ModelFaults.{IsDuplicateModel, Use, uses_in}
use Rattle.model_calls.specs.Refusals.{IsReported}
use Rattle.std.specs.List.{flat_map}

abbrev pub names_of_models : List BlifModelData → List (List ℕ)
names_of_models models = map (λ (m : BlifModelData). m.name) models

-- the names of models that all differ, or the first model with an earlier one's name
abbrev pub AreNamed : List BlifModelData → List (List ℕ) → Option FirstFault → Type 0
AreNamed models names None =
    (names ≡ names_of_models models)
    × ((k : ℕ) (m : BlifModelData) → slice_get models k ≡ Some m → IsDuplicateModel (take k models) m → ⊥)
AreNamed models names (Some r) = IsReported IsDuplicateModel models (λ m. m.line) (λ m. m.name) r.line r.name

-- an instance names none of these models
abbrev pub IsOfNone : List (List ℕ) → List InstanceData → InstanceData → Type 0
IsOfNone names before i = Contains names i.unit → ⊥

-- the numbers of the models that instances name
abbrev pub AreCallees : List (List ℕ) → List InstanceData → List ℕ → Type 0
AreCallees names instances callees = map (slice_get names) callees ≡ map (λ (i : InstanceData). Some i.unit) instances

-- they, or the first instance that names none of the models
abbrev pub IsCallees : List (List ℕ) → List InstanceData → Callees → Type 0
IsCallees names instances (Known node) = AreCallees names instances node
IsCallees names instances (Unknown r) = IsReported (IsOfNone names) instances (λ i. i.line) (λ i. i.unit) r.line r.name

-- the numbers of the models that the instances of each model name
abbrev pub AreCalls : List (List ℕ) → List BlifModelData → List (List ℕ) → Type 0
AreCalls names models nodes =
    map (map (slice_get names)) nodes
    ≡ map (λ (m : BlifModelData). map (λ (i : InstanceData). Some i.unit) m.instances) models

-- an instance in its model names none of these models
abbrev pub IsUseOfNone : List (List ℕ) → List Use → Use → Type 0
IsUseOfNone names before u = Contains names u.instance.unit → ⊥

abbrev pub IsCallGraph : List (List ℕ) → List BlifModelData → CallGraph → Type 0
IsCallGraph names models (KnownGraph nodes) = AreCalls names models nodes.items
IsCallGraph names models (UnknownGraph r) =
    IsReported (IsUseOfNone names) (flat_map uses_in models) (λ u. u.instance.line) (λ u. u.instance.unit) r.line r.name
