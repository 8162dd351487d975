-- A search for the strongly connected components of a graph: its states and steps, and what each step keeps (Gabow, Path-based
-- depth-first search for strong and biconnected components, Information Processing Letters 74, 2000).
use Rattle.std.specs.Prelude.{ℕ, ◌≡◌, ◌<◌, ◌≤◌, ◌+◌, ◌-◌, ◌⊎◌, List, [], ◌∷◌, ◌++◌, length, replicate, take, drop, fold, Contains, Some, slice_get, slice_set}
use Rattle.graph_order.specs.declared.components.Place.{Place}
use Rattle.graph_order.specs.declared.components.Place.TheVariants.{New, OnPath, Within}
use Rattle.graph_order.specs.declared.components.Stop.{Stop}
use Rattle.graph_order.specs.Components.{IsJoined}
use Rattle.graph_order.specs.Orders.{LeadsOn, successors}

pub record ComponentData : Type 0 where
  pub places : List Place
  pub path : List ℕ
  pub starts : List ℕ
  pub stops : List Stop

-- no node was met of so many
abbrev pub nothing_met : ℕ → ComponentData
nothing_met count = record { places = replicate count New; path = []; starts = []; stops = [] }

-- a new node is put at the end of the path, as a stretch of its own
abbrev pub with_entered : ComponentData → ℕ → ComponentData
with_entered s node = record {
  places = slice_set s.places node (OnPath (length s.path));
  path = s.path ++ node ∷ [];
  starts = s.starts ++ length s.path ∷ [];
  stops = s.stops ++ record { node = node; place = length s.path; next = 0 } ∷ [];
}

abbrev pub with_stop : ComponentData → Stop → ComponentData
with_stop s stop = record { places = s.places; path = s.path; starts = s.starts; stops = s.stops ++ stop ∷ [] }

-- a stop that looked at one node more
abbrev pub looked_further : Stop → Stop
looked_further f = record { node = f.node; place = f.place; next = f.next + 1 }

abbrev pub with_starts : ComponentData → List ℕ → ComponentData
with_starts s starts = record { places = s.places; path = s.path; starts = starts; stops = s.stops }

-- the stretches behind a place are joined to the one that has it: starts that are past it are taken away
pub record IsJoinedFrom (place : ℕ) (before after : ComponentData) : Type 0 where
  pub kept : ℕ
  pub is : after ≡ with_starts before (take kept before.starts)
  pub low : (kept ≡ 0) ⊎ ((s : ℕ) × (slice_get before.starts (kept - 1) ≡ Some s) × (s ≤ place))
  pub high : (i s : ℕ) → kept ≤ i → slice_get before.starts i ≡ Some s → place < s

-- each of these nodes is within a component
abbrev pub all_within : List Place → List ℕ → ℕ → List Place
all_within places nodes first = fold (λ ps node. slice_set ps node (Within first)) places nodes

-- the nodes of the path from a place on are a component, with the name of the first of them
abbrev pub with_component : ComponentData → ℕ → ℕ → ComponentData
with_component s first place = record {
  places = all_within s.places (drop place s.path) first;
  path = take place s.path;
  starts = s.starts;
  stops = s.stops;
}

-- the first node is the second, or leads to it
abbrev pub IsOrLeads : List (List ℕ) → ℕ → ℕ → Type 0
IsOrLeads nodes a b = (a ≡ b) ⊎ LeadsOn nodes a b

-- of the nodes that this one leads to, the one of this index was looked at
abbrev pub IsLookedAt : List Stop → ℕ → ℕ → Type 0
IsLookedAt stops node i = (f : Stop) → Contains stops f → f.node ≡ node → i < f.next

abbrev pub IsInComponent : List Place → ℕ → Type 0
IsInComponent places node = (first : ℕ) × (slice_get places node ≡ Some (Within first))

-- a node is within a component, or on the path from a place on
abbrev pub IsInComponentOrFrom : List Place → ℕ → ℕ → Type 0
IsInComponentOrFrom places start node = IsInComponent places node ⊎ ((p : ℕ) × (start ≤ p) × (slice_get places node ≡ Some (OnPath p)))

-- The path is cut into stretches by its starts. Each node of the path leads to those behind it, and back to the start of its
-- stretch or of an earlier one; a node whose neighbours weren't all looked at is a stop, and so is each start; no neighbour that was
-- looked at stands before the stretch. Components are whole, and lead to components.
pub record IsSoundPath (nodes : List (List ℕ)) (s : ComponentData) : Type 0 where
  pub count : length s.places ≡ length nodes
  pub on_path : (p node : ℕ) → slice_get s.path p ≡ Some node → slice_get s.places node ≡ Some (OnPath p)
  pub at_place : (p node : ℕ) → slice_get s.places node ≡ Some (OnPath p) → slice_get s.path p ≡ Some node
  pub forward : (p q a b : ℕ) → p < q → slice_get s.path p ≡ Some a → slice_get s.path q ≡ Some b → LeadsOn nodes a b
  pub back : (q b : ℕ) → slice_get s.path q ≡ Some b
      → (p : ℕ) × (a : ℕ) × Contains s.starts p × (p ≤ q) × (slice_get s.path p ≡ Some a) × IsOrLeads nodes b a
  pub started : (p : ℕ) → Contains s.starts p → (f : Stop) × Contains s.stops f × (f.place ≡ p)
  pub rising : (i j p q : ℕ) → i < j → slice_get s.starts i ≡ Some p → slice_get s.starts j ≡ Some q → p < q
  pub stopped : (f : Stop) → Contains s.stops f → (slice_get s.path f.place ≡ Some f.node) × (f.next ≤ length (successors nodes f.node))
  pub deeper : (i j : ℕ) (f g : Stop) → i < j → slice_get s.stops i ≡ Some f → slice_get s.stops j ≡ Some g → f.place < g.place
  pub looked : (p start i a b : ℕ) → slice_get s.path p ≡ Some a → slice_get (successors nodes a) i ≡ Some b
      → IsLookedAt s.stops a i → Contains s.starts start → start ≤ p → IsInComponentOrFrom s.places start b
  pub closed : (a b : ℕ) → IsInComponent s.places a → Contains (successors nodes a) b → IsInComponent s.places b
  pub whole : (a first : ℕ) → slice_get s.places a ≡ Some (Within first)
      → IsJoined nodes a first × ((b : ℕ) → IsJoined nodes a b → slice_get s.places b ≡ Some (Within first))

-- the steps that remain: for each new node and for each stop the nodes to look at and one or two more
abbrev pub new_steps : List Place → List (List ℕ) → ℕ
new_steps (New ∷ places) (next ∷ nodes) = length next + 2 + new_steps places nodes
new_steps (OnPath p ∷ places) (next ∷ nodes) = new_steps places nodes
new_steps (Within first ∷ places) (next ∷ nodes) = new_steps places nodes
new_steps _ _ = 0

abbrev pub stop_steps : List (List ℕ) → List Stop → ℕ
stop_steps nodes [] = 0
stop_steps nodes (f ∷ stops) = length (successors nodes f.node) + 1 - f.next + stop_steps nodes stops

abbrev pub steps_left : List (List ℕ) → ComponentData → ℕ
steps_left nodes s = new_steps s.places nodes + stop_steps nodes s.stops

-- no node is new that wasn't
abbrev pub AreMetStill : ComponentData → ComponentData → Type 0
AreMetStill before after = (node : ℕ) → slice_get after.places node ≡ Some New → slice_get before.places node ≡ Some New

-- a search went on: it is sound, keeps what was met, and has fewer steps left
pub record HasGoneOn (nodes : List (List ℕ)) (before after : ComponentData) : Type 0 where
  pub sound : IsSoundPath nodes after
  pub met : AreMetStill before after
  pub less : steps_left nodes after < steps_left nodes before

-- a sound search that has met all nodes below a number
pub record AreMetBelow (nodes : List (List ℕ)) (n : ℕ) (s : ComponentData) : Type 0 where
  pub sound : IsSoundPath nodes s
  pub met : (node : ℕ) → node < n → slice_get s.places node ≡ Some New → ⊥

-- one that is at rest: no stop is left
pub record HasMetBelow (nodes : List (List ℕ)) (n : ℕ) (s : ComponentData) : Type 0 where
  pub below : AreMetBelow nodes n s
  pub ended : s.stops ≡ []
