-- A depth-first traversal of a graph: its states and steps, and what each step keeps (Cormen et al., Introduction to Algorithms:
-- depth-first search).
use Rattle.std.specs.Prelude.{ℕ, ◌≡◌, ◌<◌, ◌≤◌, ◌+◌, ◌-◌, ◌⊎◌, Bool, true, false, List, [], ◌∷◌, ◌++◌, length, map, replicate, reverse, take, Contains, Some, slice_get, slice_set}
use Rattle.std.specs.List.{AllByRecursion}
use Rattle.graph_order.specs.declared.traversal.Frame.{Frame}
use Rattle.graph_order.specs.declared.traversal.Mark.{Mark}
use Rattle.graph_order.specs.declared.traversal.Mark.TheVariants.{New, Open, Done}
use Rattle.graph_order.specs.Orders.{LeadsOn, successors}

pub record TraversalData : Type 0 where
  pub marks : List Mark
  pub stack : List Frame
  pub done : List ℕ

-- the frames on the way to a node, the nearest first: each looked last at the next one, and all that it looked at before that
-- is done
abbrev pub IsTrail : List (List ℕ) → List ℕ → ℕ → List Frame → Type 0
IsTrail nodes done child [] = Unit {0}
IsTrail nodes done child (f ∷ below) =
    (0 < f.next) × (slice_get (successors nodes f.node) (f.next - 1) ≡ Some child)
    × AllByRecursion (Contains done) (take (f.next - 1) (successors nodes f.node)) × IsTrail nodes done f.node below

-- the frames, the top first: all that the top one looked at is done
abbrev pub IsWay : List (List ℕ) → List ℕ → List Frame → Type 0
IsWay nodes done [] = Unit {0}
IsWay nodes done (top ∷ below) =
    AllByRecursion (Contains done) (take top.next (successors nodes top.node)) × IsTrail nodes done top.node below

abbrev pub nodes_of : List Frame → List ℕ
nodes_of frames = map (λ (f : Frame). f.node) frames

-- marks say what is done and what is on the way
pub record IsSound (nodes : List (List ℕ)) (w : TraversalData) : Type 0 where
  pub marks : length w.marks ≡ length nodes
  pub way : IsWay nodes w.done (reverse w.stack)
  pub on_way : (node : ℕ) → slice_get w.marks node ≡ Some Open → Contains (nodes_of (reverse w.stack)) node
  pub are_done : (node : ℕ) → slice_get w.marks node ≡ Some Done → Contains w.done node
  pub inside : AllByRecursion (λ (f : Frame). (f.node < length nodes) × (f.next ≤ length (successors nodes f.node))) w.stack
  pub earlier : (k node : ℕ) → slice_get w.done k ≡ Some node → AllByRecursion (Contains (take k w.done)) (successors nodes node)

-- a node is on the way or done
abbrev pub IsSeen : TraversalData → ℕ → Type 0
IsSeen w node = Contains (nodes_of (reverse w.stack)) node ⊎ Contains w.done node

-- a traversal that has met none of so many nodes
pub record IsFresh (count : ℕ) (w : TraversalData) : Type 0 where
  pub marks : w.marks ≡ replicate count New
  pub stack : w.stack ≡ []
  pub done : w.done ≡ []

-- a node that is new is gone to
abbrev pub with_opened : TraversalData → ℕ → TraversalData
with_opened w node = record { marks = slice_set w.marks node Open; stack = w.stack ++ record { node = node; next = 0 } ∷ []; done = w.done }

-- a node is put behind all that are done
abbrev pub with_finished : TraversalData → ℕ → TraversalData
with_finished w node = record { marks = slice_set w.marks node Done; stack = w.stack; done = w.done ++ node ∷ [] }

-- a frame that looked at one node more
abbrev pub looked : Frame → Frame
looked f = record { node = f.node; next = f.next + 1 }

abbrev pub with_frame : TraversalData → Frame → TraversalData
with_frame w frame = record { marks = w.marks; stack = w.stack ++ frame ∷ []; done = w.done }

-- the steps that remain: for each new node and for each frame the nodes to look at and one or two more
abbrev pub new_successors : List Mark → List (List ℕ) → ℕ
new_successors (New ∷ marks) (next ∷ nodes) = length next + 2 + new_successors marks nodes
new_successors (Open ∷ marks) (next ∷ nodes) = new_successors marks nodes
new_successors (Done ∷ marks) (next ∷ nodes) = new_successors marks nodes
new_successors _ _ = 0

abbrev pub frame_successors : List (List ℕ) → List Frame → ℕ
frame_successors nodes [] = 0
frame_successors nodes (f ∷ frames) = length (successors nodes f.node) + 1 - f.next + frame_successors nodes frames

abbrev pub remaining : List (List ℕ) → TraversalData → ℕ
remaining nodes w = new_successors w.marks nodes + frame_successors nodes w.stack

-- a traversal went on: it is sound, keeps what was met, and has fewer steps left
pub record GoesOn (nodes : List (List ℕ)) (before after : TraversalData) : Type 0 where
  pub sound : IsSound nodes after
  pub met : (node : ℕ) → IsSeen before node → IsSeen after node
  pub less : remaining nodes after < remaining nodes before

-- a node leads back to itself, or the traversal went on
abbrev pub IsAdvance : List (List ℕ) → TraversalData → TraversalData → Bool → Type 0
IsAdvance nodes before after true = (node : ℕ) × LeadsOn nodes node node
IsAdvance nodes before after false = GoesOn nodes before after

-- no frame is left, and this node and all that were done are done
pub record HasVisited (nodes : List (List ℕ)) (node : ℕ) (before after : TraversalData) : Type 0 where
  pub sound : IsSound nodes after
  pub ended : after.stack ≡ []
  pub here : Contains after.done node
  pub kept : (other : ℕ) → Contains before.done other → Contains after.done other

abbrev pub IsVisit : List (List ℕ) → ℕ → TraversalData → TraversalData → Bool → Type 0
IsVisit nodes node before after true = (any : ℕ) × LeadsOn nodes any any
IsVisit nodes node before after false = HasVisited nodes node before after

-- while a node is visited: the traversal is sound, the node is met, and what was done is met
pub record IsVisiting (nodes : List (List ℕ)) (node : ℕ) (before now : TraversalData) : Type 0 where
  pub sound : IsSound nodes now
  pub here : IsSeen now node
  pub done : (other : ℕ) → Contains before.done other → IsSeen now other

-- all nodes below a number are done, and none is on the way
pub record IsDoneBelow (nodes : List (List ℕ)) (n : ℕ) (w : TraversalData) : Type 0 where
  pub sound : IsSound nodes w
  pub ended : w.stack ≡ []
  pub below : (node : ℕ) → node < n → Contains w.done node
