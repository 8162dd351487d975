-- The values of the signals of a network and of its gates, all at once.
use Rattle.std.specs.Prelude.{ℕ, ◌+◌, ◌≡◌, ◌↔◌, Bool, true, not, ◌&&◌, ◌||◌, Some, slice_get, map}
use Rattle.blif_ast.specs.TableValue.{IsOneAt}
use Rattle.gate_decompose.specs.declared.gates.Node.{Node}
use Rattle.gate_decompose.specs.declared.gates.Node.TheVariants.{And, Or, Not}
use Rattle.gate_decompose.specs.declared.gates.Ref.{Ref}
use Rattle.gate_decompose.specs.declared.gates.Ref.TheVariants.{Const, Leaf, Node as node_ref}
use Rattle.gate_decompose.specs.GatesData.{GatesData}
use Rattle.network.specs.NetworkData.{NetworkData, NetTableData}
use Rattle.gate_decompose.specs.Sinks.{leaf_count}

-- the signals of a network have values: each table's output has the value of the table
abbrev pub AreSignalValues : NetworkData → (ℕ → Bool) → Type 0
AreSignalValues network value =
    (k : ℕ) (t : NetTableData) → slice_get network.tables k ≡ Some t
    → (value (leaf_count network + k) ≡ true) ↔ IsOneAt t.on t.rows (map value t.inputs)

-- the value of what a node or a sink reads, where leaves and nodes have values
abbrev pub ref_value : (ℕ → Bool) → (ℕ → Bool) → Ref → Bool
ref_value leaf node (Const b) = b
ref_value leaf node (Leaf k) = leaf k
ref_value leaf node (node_ref n) = node n

abbrev pub node_value : (ℕ → Bool) → (ℕ → Bool) → Node → Bool
node_value leaf node (Not a) = not (ref_value leaf node a)
node_value leaf node (And a b) = ref_value leaf node a && ref_value leaf node b
node_value leaf node (Or a b) = ref_value leaf node a || ref_value leaf node b

-- the nodes of gates have values: each is its operator on the values that it reads
abbrev pub AreNodeValues : GatesData → (ℕ → Bool) → (ℕ → Bool) → Type 0
AreNodeValues gates leaf node =
    (n : ℕ) (x : Node) → slice_get gates.nodes n ≡ Some x → node n ≡ node_value leaf node x
