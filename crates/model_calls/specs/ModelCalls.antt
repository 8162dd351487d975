-- The graph of the calls of the models of a file of BLIF, the Berkeley Logic Interchange Format, with an order of it and plans by
-- it, where nothing that is wrong with the models themselves refuses the file.
use Rattle.std.specs.Prelude.{ℕ, ◌≡◌, ◌≤◌, ◌<◌, ◌^◌, List, length, Some, slice_get}
use Rattle.blif_ast.specs.BlifFileData.{BlifFileData}
use Rattle.blif_ast.specs.BlifModelData.{BlifModelData}
use Rattle.graph_order.specs.Orders.{IsOrder, LeadsOn, successors}
use Rattle.model_calls.specs.declared.fault.FlatKind.{FlatKind}
use Rattle.model_calls.specs.declared.models.FoundCalls.{FoundCalls}
use Rattle.model_calls.specs.declared.models.FoundCalls.TheVariants.{Known, Refused}
use Rattle.model_calls.specs.declared.plan.CardAt.{CardAt}
use Rattle.model_calls.specs.CallNumbers.{AreCalls, names_of_models}
use Rattle.model_calls.specs.Expanded.{ordered_cards}
use Rattle.model_calls.specs.LinedCards.{AreNumberedCards}
use Rattle.model_calls.specs.ModelCallsData.{ModelCallsData}
use Rattle.model_calls.specs.Occurrences.{main_model}
use Rattle.model_calls.specs.Refusal.{At, flat_kind_order}
use Rattle.model_calls.specs.Refusals.{HasRefusal, IsRefusal}

-- the plan of each model by the numbers of its callees
pub record HavePlans (models : List BlifModelData) (nodes : List (List ℕ)) (plans : List (List CardAt)) : Type 0 where
  pub count : length plans ≡ length models
  pub cards : (k : ℕ) (m : BlifModelData) (plan : List CardAt) → slice_get models k ≡ Some m → slice_get plans k ≡ Some plan
      → AreNumberedCards m (successors nodes k) plan (ordered_cards m)

-- nothing of the first so many orders refuses a file
abbrev pub NothingRefuses : BlifFileData → ℕ → Type 0
NothingRefuses f most = (kind : FlatKind) (line : ℕ) (name : List ℕ) → flat_kind_order kind ≤ most → HasRefusal f (At kind line name) → ⊥

-- the calls of a file whose models have nothing wrong with them
pub record AreModelCalls (f : BlifFileData) (p : ModelCallsData) : Type 0 where
  pub main : slice_get f.models 0 ≡ Some (main_model f)
  pub few : length p.order < 2 ^ 32
  pub calls : AreCalls (names_of_models f.models) f.models p.nodes
  pub ordered : IsOrder p.nodes p.order
  pub accepted : NothingRefuses f 5

-- the calls of a file, or what is wrong with its models, which is of the first five orders
abbrev pub AreFoundCalls : BlifFileData → FoundCalls → Type 0
AreFoundCalls f (Known calls) = AreModelCalls f calls
AreFoundCalls f (Refused kind report) = IsRefusal f (At kind report.line report.name) × (flat_kind_order kind ≤ 5)

-- some node leads back to itself
abbrev pub HasCircle : List (List ℕ) → Type 0
HasCircle nodes = (node : ℕ) × LeadsOn nodes node node
