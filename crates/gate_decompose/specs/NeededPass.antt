-- Needed pairs by one pass over the nodes, from the last to the first: a node that is wanted with a sign wants what it
-- reads with that sign, and a Not with the other.
use Rattle.std.specs.Prelude.{ℕ, zero, suc, ◌≡◌, ◌↔◌, Bool, true, false, not, ◌&&◌, ◌||◌, ◌==◌, List, [], ◌∷◌, Option, Some, None, slice_get, length, cond, ◌++◌, flat_map}
use Rattle.std.specs.List.{range_with_len}
use Rattle.gate_decompose.specs.declared.gates.Node.{Node}
use Rattle.gate_decompose.specs.declared.gates.Node.TheVariants.{And, Or, Not}
use Rattle.gate_decompose.specs.declared.gates.Ref.{Ref}
use Rattle.gate_decompose.specs.declared.gates.Ref.TheVariants.{Const, Leaf, Node as node_ref}
use Rattle.gate_decompose.specs.GatesData.{GatesData}
use Rattle.gate_decompose.specs.GatesOrder.{AreOrderedGates, is_operator}
use Rattle.gate_decompose.specs.Needed.{AreNeeded, IsGateNode, IsNeeded, signed}

-- the reference is this node
abbrev pub names_node : ℕ → Ref → Bool
names_node n (Const b) = false
names_node n (Leaf k) = false
names_node n (node_ref m) = m == n

-- the node with this sign is asked for by a node, where it says which signs that node itself is wanted with
abbrev pub is_asked_by : (Bool → Bool) → Option Node → ℕ → Bool → Bool
is_asked_by wanted None m s = false
is_asked_by wanted (Some (Not a)) m s = wanted (not s) && names_node m a
is_asked_by wanted (Some (And a b)) m s = wanted s && (names_node m a || names_node m b)
is_asked_by wanted (Some (Or a b)) m s = wanted s && (names_node m a || names_node m b)

-- and by a sink, with its sign
abbrev pub is_asked_by_sinks : List Ref → List Bool → ℕ → Bool → Bool
is_asked_by_sinks [] signs m s = false
is_asked_by_sinks (r ∷ sinks) [] m s = false
is_asked_by_sinks (r ∷ sinks) (sign ∷ signs) m s = (names_node m r && signed sign s) || is_asked_by_sinks sinks signs m s

-- the pass over the first k nodes, from the last of them on
abbrev pub pass : List Node → (ℕ → Bool → Bool) → ℕ → ℕ → Bool → Bool
pass nodes wanted zero m s = wanted m s
pass nodes wanted (suc k) m s = pass nodes (λ n t. wanted n t || is_asked_by (wanted k) (slice_get nodes k) n t) k m s

abbrev pub wanted_by_pass : GatesData → List Bool → ℕ → Bool → Bool
wanted_by_pass gates signs = pass gates.nodes (is_asked_by_sinks gates.sinks signs) (length gates.nodes)

-- whether a node is an And or an Or
abbrev pub is_gate : Option Node → Bool
is_gate None = false
is_gate (Some x) = is_operator x

-- the pairs of one node that pass a test, plus before minus, and those of some nodes in order
abbrev pub signs_at : (ℕ → Bool → Bool) → ℕ → List (ℕ × Bool)
signs_at test n = cond (test n true) ((n, true) ∷ []) [] ++ cond (test n false) ((n, false) ∷ []) []

abbrev pub pairs_from : (ℕ → Bool → Bool) → ℕ → ℕ → List (ℕ × Bool)
pairs_from test first count = flat_map (signs_at test) (range_with_len first count)

-- the pairs of all And and Or nodes that are marked, in order
abbrev pub is_marked_gate : List Node → (ℕ → Bool → Bool) → ℕ → Bool → Bool
is_marked_gate nodes marks n s = is_gate (slice_get nodes n) && marks n s

abbrev pub marked_pairs : List Node → (ℕ → Bool → Bool) → List (ℕ × Bool)
marked_pairs nodes marks = pairs_from (is_marked_gate nodes marks) 0 (length nodes)

-- which marks exactly the needed pairs
abbrev pub PassIsNeeded : Type 0
PassIsNeeded =
    (gates : GatesData) (signs : List Bool) → AreOrderedGates gates → (n : ℕ) (s : Bool) (a b : Ref) → IsGateNode gates.nodes n a b
    → (wanted_by_pass gates signs n s ≡ true) ↔ IsNeeded gates signs n s

-- gates have one list of needed pairs under some signs
abbrev pub NeededPairsAreThere : Type 0
NeededPairsAreThere =
    (gates : GatesData) (signs : List Bool) → AreOrderedGates gates → (pairs : List (ℕ × Bool)) × AreNeeded gates signs pairs

abbrev pub NeededPairsAreOne : Type 0
NeededPairsAreOne =
    (gates : GatesData) (signs : List Bool) (a b : List (ℕ × Bool)) → AreNeeded gates signs a → AreNeeded gates signs b → a ≡ b
