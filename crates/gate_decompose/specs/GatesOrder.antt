-- What gates keep: nodes read leaves that are there and nodes that stand before them, sinks read what is there, and all is
-- within limits.
use Rattle.std.specs.Prelude.{ℕ, ◌+◌, ◌≤◌, ◌<◌, ◌≡◌, Bool, true, false, Some, slice_get, length, count_by}
use Rattle.network.specs.Limits.{most_letters, most_signals, most_sinks}
use Rattle.gate_decompose.specs.declared.gates.Node.{Node}
use Rattle.gate_decompose.specs.declared.gates.Node.TheVariants.{And, Or, Not}
use Rattle.gate_decompose.specs.declared.gates.Ref.{Ref}
use Rattle.gate_decompose.specs.declared.gates.Ref.TheVariants.{Const, Leaf, Node as node_ref}
use Rattle.network.specs.NetworkData.{NetworkData}
use Rattle.gate_decompose.specs.GateNodes.{AreGatesOf}
use Rattle.gate_decompose.specs.GatesData.{GatesData}
use Rattle.gate_decompose.specs.NetworkOrder.{IsOrderedNetwork}

-- nodes read only nodes that stand before them
abbrev pub ReadsEarlier : ℕ → Ref → Type 0
ReadsEarlier n (Const b) = Unit {0}
ReadsEarlier n (Leaf k) = Unit {0}
ReadsEarlier n (node_ref m) = m < n

abbrev pub NodeReadsEarlier : ℕ → Node → Type 0
NodeReadsEarlier n (Not a) = ReadsEarlier n a
NodeReadsEarlier n (And a b) = ReadsEarlier n a × ReadsEarlier n b
NodeReadsEarlier n (Or a b) = ReadsEarlier n a × ReadsEarlier n b

-- nodes in order, and sinks that name nodes that are there
pub record AreOrderedGates (gates : GatesData) : Type 0 where
  pub nodes : (n : ℕ) (x : Node) → slice_get gates.nodes n ≡ Some x → NodeReadsEarlier n x
  pub sinks : (k : ℕ) (r : Ref) → slice_get gates.sinks k ≡ Some r → ReadsEarlier (length gates.nodes) r

-- what a node at this place may read: one of so many leaves, or a node that stands before it, and no constant
abbrev pub IsTermPart : ℕ → ℕ → Ref → Type 0
IsTermPart leaves n (Const b) = ⊥
IsTermPart leaves n (Leaf k) = k < leaves
IsTermPart leaves n (node_ref m) = m < n

abbrev pub HasParts : ℕ → ℕ → Node → Type 0
HasParts leaves n (Not a) = IsTermPart leaves n a
HasParts leaves n (And a b) = IsTermPart leaves n a × IsTermPart leaves n b
HasParts leaves n (Or a b) = IsTermPart leaves n a × IsTermPart leaves n b

-- what a sink may read: a constant, one of so many leaves, or one of so many nodes
abbrev pub IsThere : ℕ → ℕ → Ref → Type 0
IsThere leaves nodes (Const b) = Unit {0}
IsThere leaves nodes (Leaf k) = k < leaves
IsThere leaves nodes (node_ref m) = m < nodes

-- an And or an Or
abbrev pub is_operator : Node → Bool
is_operator (Not a) = false
is_operator (And a b) = true
is_operator (Or a b) = true

-- each node has its parts, and each sink reads what is there
pub record AreInPlace (gates : GatesData) : Type 0 where
  pub nodes : (n : ℕ) (x : Node) → slice_get gates.nodes n ≡ Some x → HasParts gates.leaves n x
  pub sinks : (k : ℕ) (r : Ref) → slice_get gates.sinks k ≡ Some r → IsThere gates.leaves (length gates.nodes) r

-- what the type of gates keeps
pub record AreGates (gates : GatesData) : Type 0 where
  pub in_place : AreInPlace gates
  pub few_leaves : gates.leaves ≤ most_signals
  pub few_nodes : length gates.nodes ≤ most_letters + most_letters
  pub few_operators : count_by is_operator gates.nodes ≤ most_letters
  pub few_sinks : length gates.sinks ≤ most_sinks

-- such gates are in order
abbrev pub GatesAreOrdered : Type 0
GatesAreOrdered = (gates : GatesData) → AreInPlace gates → AreOrderedGates gates

-- and those of each network are such gates
abbrev pub NetworkGatesAreInPlace : Type 0
NetworkGatesAreInPlace =
    (network : NetworkData) (gates : GatesData) → IsOrderedNetwork network → AreGatesOf network gates → AreInPlace gates
