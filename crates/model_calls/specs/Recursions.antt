-- Recursion in a file of BLIF, the Berkeley Logic Interchange Format, by the numbers of its models: the graph in which each model
-- leads to the models that its instances name.
use Rattle.std.specs.Prelude.{ℕ, ◌≡◌, ◌<◌, ◌⊎◌, List, Option, Some, None, slice_get}
use Rattle.blif_ast.specs.InstanceData.{InstanceData}
use Rattle.model_calls.specs.declared.first_fault.FirstFault.{FirstFault}
use Rattle.graph_order.specs.Orders.{LeadsOn, successors}

-- a model is this one, or leads to it
abbrev pub IsBack : List (List ℕ) → ℕ → ℕ → Type 0
IsBack nodes model unit = (unit ≡ model) ⊎ LeadsOn nodes unit model

-- none of the first so many instances of a model leads back to it
abbrev pub NoneBackBefore : List (List ℕ) → ℕ → ℕ → Type 0
NoneBackBefore nodes model n = (k unit : ℕ) → k < n → slice_get (successors nodes model) k ≡ Some unit → IsBack nodes model unit → ⊥

-- the index of the first instance of a model that leads back to it, if there is one
abbrev pub IsFirstBack : List (List ℕ) → ℕ → Option ℕ → Type 0
IsFirstBack nodes model None = (k unit : ℕ) → slice_get (successors nodes model) k ≡ Some unit → IsBack nodes model unit → ⊥
IsFirstBack nodes model (Some first) =
    ((unit : ℕ) × (slice_get (successors nodes model) first ≡ Some unit) × IsBack nodes model unit) × NoneBackBefore nodes model first

-- a report of the instance of an index
abbrev pub IsReportOf : List InstanceData → ℕ → FirstFault → Type 0
IsReportOf instances at r = (i : InstanceData) × (slice_get instances at ≡ Some i) × (r.line ≡ i.line) × (r.name ≡ i.unit)
