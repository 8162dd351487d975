-- Directed graphs, and the topological orders of their nodes (Cormen et al., Introduction to Algorithms: elementary graph algorithms).
use Rattle.std.specs.Prelude.{ℕ, ◌<◌, List, [], length, take, All, Contains, Some, slice_get, slice_index_or, ◌≡◌}
use Rattle.std.specs.List.{AllByRecursion}
use Rattle.graph_order.specs.declared.order.Order.{Order}
use Rattle.graph_order.specs.declared.order.Order.TheVariants.{Of, Circular}

-- the nodes that a node leads to
abbrev pub successors : List (List ℕ) → ℕ → List ℕ
successors nodes node = slice_index_or nodes node []

abbrev pub IsSuccessor : List (List ℕ) → ℕ → ℕ → Type 0
IsSuccessor nodes a b = Contains (successors nodes a) b

-- all nodes that some node leads to are there
abbrev pub IsGraph : List (List ℕ) → Type 0
IsGraph nodes = All (λ next. All (λ node. node < length nodes) next) nodes

-- one or more steps lead from a node to another
pub data LeadsOn (nodes : List (List ℕ)) : ℕ → ℕ → Type 0 where
  step : {a b : ℕ} → IsSuccessor nodes a b → LeadsOn nodes a b
  more : {a b c : ℕ} → IsSuccessor nodes a b → LeadsOn nodes b c → LeadsOn nodes a c

-- all nodes are in order: each stands behind those that it leads to
pub record IsOrder (nodes : List (List ℕ)) (order : List ℕ) : Type 0 where
  pub all : (node : ℕ) → node < length nodes → Contains order node
  pub earlier : (k node : ℕ) → slice_get order k ≡ Some node → AllByRecursion (Contains (take k order)) (successors nodes node)

abbrev pub IsAnswer : List (List ℕ) → Order → Type 0
IsAnswer nodes (Of order) = IsOrder nodes order.items
IsAnswer nodes Circular = (node : ℕ) × LeadsOn nodes node node

-- where all can be put in order, none leads back to itself
abbrev pub OrderedHasNoCircle : Type 0
OrderedHasNoCircle =
    (nodes : List (List ℕ)) (order : List ℕ) → IsOrder nodes order → (node : ℕ) → node < length nodes → LeadsOn nodes node node → ⊥
