-- The names of the nodes of a network.
use Rattle.std.specs.Prelude.{ℕ, ◌≡◌, Some, slice_get}
use Rattle.std.specs.List.{position_or_len}
use Rattle.gate_decompose.specs.GateNodes.{NodeName, Operand, node_names, same_name}
use Rattle.network.specs.NetworkData.{NetworkData}

-- no two nodes of a network have one name: each is found at its own place
abbrev pub NamesAreApart : Type 0
NamesAreApart =
    (network : NetworkData) (of : ℕ → Operand) (k : ℕ) (name : NodeName) → slice_get (node_names of network) k ≡ Some name
    → position_or_len (same_name name) (node_names of network) ≡ k
