-- The signs with which nodes are wanted, as a list of marks.
use Rattle.std.specs.Prelude.{ℕ, ◌<◌, ◌≡◌, Bool, false, List, Some, slice_get}
use Rattle.gate_decompose.specs.declared.gates.Ref.{Ref}
use Rattle.gate_decompose.specs.declared.gates.Ref.TheVariants.{Const, Leaf, Node as node_ref}
use Rattle.gate_decompose.specs.declared.gates.Node.{Node}
use Rattle.gate_decompose.specs.declared.gates.Node.TheVariants.{And, Or, Not}
use Rattle.dual_rail.specs.SignedValues.{of_node}
use Rattle.dual_rail.specs.declared.signed.Signed.{Signed}

-- whether the marks hold a node with a sign
abbrev pub holds : List (Signed Bool) → ℕ → Bool → Bool
holds marks n s = of_node false marks n s

-- a leaf, or a node before this one
abbrev pub IsPlainPart : ℕ → Ref → Type 0
IsPlainPart n (Const b) = ⊥
IsPlainPart n (Leaf k) = Unit {0}
IsPlainPart n (node_ref m) = m < n

abbrev pub HasPlainParts : ℕ → Node → Type 0
HasPlainParts n (Not a) = IsPlainPart n a
HasPlainParts n (And a b) = IsPlainPart n a × IsPlainPart n b
HasPlainParts n (Or a b) = IsPlainPart n a × IsPlainPart n b

-- each node has leaves and nodes before it as parts
abbrev pub AreOrderedNodes : List Node → Type 0
AreOrderedNodes nodes = (n : ℕ) (x : Node) → slice_get nodes n ≡ Some x → HasPlainParts n x
