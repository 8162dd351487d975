-- Arms for what is asked for, where pairs have places.
use Rattle.std.specs.Prelude.{ℕ, ◌<◌, ◌≡◌, ◌⊎◌, Bool, true, cond, List, Some, slice_get}
use Rattle.gate_decompose.specs.declared.gates.Node.{Node}
use Rattle.gate_decompose.specs.declared.gates.Node.TheVariants.{And, Or}
use Rattle.gate_decompose.specs.declared.gates.Ref.{Ref}
use Rattle.gate_decompose.specs.GatesOrder.{is_operator}
use Rattle.gate_decompose.specs.Needed.{Asked, AsksFor, IsGateNode, Literal, Pair, Value}
use Rattle.dual_rail.specs.Places.{place_at}
use Rattle.dual_rail.specs.declared.arms.Operation.{Operation}
use Rattle.dual_rail.specs.declared.forest.Arm.{Arm}
use Rattle.dual_rail.specs.declared.forest.Arm.TheVariants.{Literal as literal_arm, Pair as pair_arm}
use Rattle.dual_rail.specs.declared.signed.Signed.{Signed}

-- a literal, or the pair of one of so many nodes
abbrev pub HasPlace : ℕ → Asked → Type 0
HasPlace nodes (Value b) = ⊥
HasPlace nodes (Literal leaf plus) = Unit {0}
HasPlace nodes (Pair n s) = n < nodes

-- the arm is this literal, or the pair at the place of this one
abbrev pub IsArmFor : List (Signed ℕ) → Asked → Arm → Type 0
IsArmFor places (Value b) arm = ⊥
IsArmFor places (Literal leaf plus) arm = arm ≡ literal_arm (record { leaf = leaf; plus = plus })
IsArmFor places (Pair n s) arm = arm ≡ pair_arm (place_at places n s)

-- the node is this operator over these parts
abbrev pub IsOperation : Node → Operation → Type 0
IsOperation node operation = node ≡ cond operation.is_and (And operation.left operation.right) (Or operation.left operation.right)

-- the node is an And or an Or
abbrev pub HasGates : List Node → ℕ → Type 0
HasGates nodes n = (x : Node) × (slice_get nodes n ≡ Some x) × (is_operator x ≡ true)

-- each pair that a part of the node asks for with this sign stands at its place
abbrev pub HasPlacesOf : List Node → List (ℕ × Bool) → List (Signed ℕ) → ℕ → Bool → Type 0
HasPlacesOf nodes origin places n s =
    (a b : Ref) (m : ℕ) (t : Bool) → IsGateNode nodes n a b → (AsksFor nodes a s (Pair m t) ⊎ AsksFor nodes b s (Pair m t))
    → slice_get origin (place_at places m t) ≡ Some (m, t)
