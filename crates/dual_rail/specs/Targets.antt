-- What is asked for, as the code holds it, and with the other sign.
use Rattle.std.specs.Prelude.{ℕ, ◌≡◌, true, not, List, Option, None, Some, slice_get}
use Rattle.gate_decompose.specs.declared.gates.Node.{Node}
use Rattle.gate_decompose.specs.declared.gates.Ref.TheVariants.{Node as node_ref}
use Rattle.gate_decompose.specs.Needed.{Asked, Value, Literal, Pair, AsksFor}
use Rattle.dual_rail.specs.declared.signed.SignedNode.{SignedNode}
use Rattle.dual_rail.specs.declared.targets.Target.{Target}
use Rattle.dual_rail.specs.declared.targets.Target.TheVariants.{Const, Literal as literal_target, Pair as pair_target}

abbrev pub asked_target : Target → Asked
asked_target (Const b) = Value b
asked_target (literal_target rail) = Literal rail.leaf rail.plus
asked_target (pair_target pair) = Pair pair.node pair.plus

-- the pair of a target, if it is one
abbrev pub pair_of : Target → Option SignedNode
pair_of (Const b) = None
pair_of (literal_target rail) = None
pair_of (pair_target pair) = Some pair

abbrev pub other_sign_of : Asked → Asked
other_sign_of (Value b) = Value (not b)
other_sign_of (Literal leaf plus) = Literal leaf (not plus)
other_sign_of (Pair node plus) = Pair node (not plus)

-- each node so far asks for its target with the sign plus
abbrev pub AreTargets : List Node → List Target → Type 0
AreTargets nodes targets = (n : ℕ) (t : Target) → slice_get targets n ≡ Some t → AsksFor nodes (node_ref n) true (asked_target t)
