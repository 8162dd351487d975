-- What the parts of a table's term make: their nodes in order, and what they come to, at the way down to each.
use Rattle.std.specs.Prelude.{ℕ, ◌+◌, ◌≡◌, Bool, true, false, ◌||◌, List, [], ◌∷◌, ◌++◌, Some, slice_get, length, map}
use Rattle.std.specs.List.{position_or_len}
use Rattle.sp_network.specs.Balanced.{balanced}
use Rattle.gate_decompose.specs.declared.expression.Item.{Item}
use Rattle.gate_decompose.specs.declared.gates.Node.{Node}
use Rattle.gate_decompose.specs.declared.gates.Node.TheVariants.{And as and_node, Or as or_node}
use Rattle.gate_decompose.specs.declared.gates.Ref.{Ref}
use Rattle.gate_decompose.specs.declared.gates.Ref.TheVariants.{Const as constant_ref, Node as node_ref}
use Rattle.gate_decompose.specs.declared.operator.Operator.{Operator}
use Rattle.gate_decompose.specs.declared.operator.Operator.TheVariants.{And, Or}
use Rattle.gate_decompose.specs.GateNodes.{AndOf, Fixed, Joint, Left, NamedNode, NodeName, NotOf, Operand, OrOf, Right, Turn, folded_and, folded_not, folded_or, is_fixed, node_of, ref_of, same_name, standing}

-- the nodes of a part, in order, and what the part comes to
pub record TermNodes : Type 0 where
  pub nodes : List NamedNode
  pub comes_to : Operand

-- a part that makes no node
abbrev pub no_nodes : Operand → TermNodes
no_nodes a = record { nodes = []; comes_to = a }

-- what an operator comes to, and its node
abbrev pub folded_by : Operator → NodeName → Operand → Operand → Operand
folded_by And = folded_and
folded_by Or = folded_or

abbrev pub joint_by : Operator → Operand → Operand → Joint
joint_by And = AndOf
joint_by Or = OrOf

-- the constant that an operator drops, which is what it comes to without parts
abbrev pub dropped_by : Operator → Bool
dropped_by And = true
dropped_by Or = false

-- what the operator over a constant and another part comes to, and its node over two parts
abbrev pub with_constant : Operator → Bool → Ref → Ref
with_constant And true other = other
with_constant And false other = constant_ref false
with_constant Or true other = constant_ref true
with_constant Or false other = other

abbrev pub over : Operator → Ref → Ref → Node
over And l r = and_node l r
over Or l r = or_node l r

-- the operator of this name over two parts, and Not over one that makes no node
abbrev pub two_parts : Operator → NodeName → TermNodes → TermNodes → TermNodes
two_parts operator name l r =
    record {
      nodes = l.nodes ++ r.nodes ++ standing (is_fixed l.comes_to || is_fixed r.comes_to) name (joint_by operator l.comes_to r.comes_to);
      comes_to = folded_by operator name l.comes_to r.comes_to;
    }

abbrev pub under_not : NodeName → Operand → TermNodes
under_not name a = record { nodes = standing (is_fixed a) name (NotOf a); comes_to = folded_not name a }

-- the same where each part stands at its own way down the table's term
abbrev pub joined_parts : Operator → ℕ → (List Turn → TermNodes) → (List Turn → TermNodes) → List Turn → TermNodes
joined_parts operator table l r way = two_parts operator (record { table = table; way = way }) (l (Left ∷ way)) (r (Right ∷ way))

-- an item: an operand as it is, or under Not
abbrev pub item_nodes : ℕ → Operand × Bool → List Turn → TermNodes
item_nodes table (a, true) way = no_nodes a
item_nodes table (a, false) way = under_not (record { table = table; way = way }) a

-- an item by what its operand is called
abbrev pub item_of : List NodeName → Operand × Bool → Item
item_of names (a, plus) = record { part = ref_of names a; plus = plus }

-- items under an operator, balanced
abbrev pub all_joined : Operator → ℕ → List (Operand × Bool) → List Turn → TermNodes
all_joined operator table items =
    balanced (joined_parts operator table) (λ way. no_nodes (Fixed (dropped_by operator))) (map (item_nodes table) items)

-- items in the order of a balanced expression, each with its way
abbrev pub placed : {X : Type 0} → List X → List Turn → List (List Turn × X)
placed xs = balanced (λ l r way. l (Left ∷ way) ++ r (Right ∷ way)) (λ way. []) (map (λ x way. (way, x) ∷ []) xs)

-- among these names the nodes are numbered in order, from this number on
abbrev pub AreNumbered : List NodeName → ℕ → List NamedNode → Type 0
AreNumbered names n nodes = (i : ℕ) (x : NamedNode) → slice_get nodes i ≡ Some x → position_or_len (same_name x.name) names ≡ n + i

-- a node was appended, and the reference is to it
pub record IsPushed (old new : List Node) (r : Ref) (node : Node) : Type 0 where
  pub nodes : new ≡ old ++ (node ∷ [])
  pub number : r ≡ node_ref (length old)

-- nodes were appended for a part, and the reference is what it comes to
pub record IsMade (names : List NodeName) (old new : List Node) (r : Ref) (part : TermNodes) : Type 0 where
  pub nodes : new ≡ old ++ map (λ (n : NamedNode). node_of names n.joint) part.nodes
  pub comes_to : r ≡ ref_of names part.comes_to

abbrev pub Makes : List NodeName → List Node → List Node → Ref → TermNodes → Type 0
Makes names old new r part = AreNumbered names (length old) part.nodes → IsMade names old new r part
