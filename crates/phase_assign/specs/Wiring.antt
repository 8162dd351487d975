-- What nodes and sinks ask for, as the search keeps it: the pair that is asked for with the sign plus, or none.
use Rattle.std.specs.Prelude.{ℕ, ◌+◌, ◌*◌, ◌<◌, ◌^◌, ◌≡◌, Bool, List, length, Option, Some, None, slice_get}
use Rattle.gate_decompose.specs.declared.gates.Node.{Node}
use Rattle.gate_decompose.specs.declared.gates.Node.TheVariants.{And, Or, Not}
use Rattle.gate_decompose.specs.declared.gates.Ref.{Ref}
use Rattle.gate_decompose.specs.GatesData.{GatesData}
use Rattle.gate_decompose.specs.Needed.{AsksFor, Pair as asked_pair}
use Rattle.phase_assign.specs.ArmsData.{ArmsData as Arms}
use Rattle.dual_rail.specs.declared.signed.SignedNode.{SignedNode}
use Rattle.phase_assign.specs.Uses.{AreArms, AreBelow, asked, times}

-- the reference asks for this pair with the sign plus, or for none
pub record IsAskedBy (nodes : List Node) (r : Ref) (target : Option SignedNode) : Type 0 where
  pub all : (s : Bool) (n : ℕ) (t : Bool) → AsksFor nodes r s (asked_pair n t) → 0 < times n t (asked target s)
  pub only : (s : Bool) (n : ℕ) (t : Bool) → 0 < times n t (asked target s) → AsksFor nodes r s (asked_pair n t)

-- what the parts of a gate node ask for; a Not has no arms
abbrev pub AreArmsOf : List Node → Node → Arms → Type 0
AreArmsOf nodes (Not a) arms = (arms.left ≡ None) × (arms.right ≡ None)
AreArmsOf nodes (And a b) arms = IsAskedBy nodes a arms.left × IsAskedBy nodes b arms.right
AreArmsOf nodes (Or a b) arms = IsAskedBy nodes a arms.left × IsAskedBy nodes b arms.right

abbrev pub AreNodeArms : List Node → List Arms → Type 0
AreNodeArms nodes arms = (n : ℕ) (x : Node) (own : Arms) → slice_get nodes n ≡ Some x → slice_get arms n ≡ Some own → AreArmsOf nodes x own

-- what each sink asks for
abbrev pub AreEnds : List Node → List Ref → List (Option SignedNode) → Type 0
AreEnds nodes sinks ends =
    (k : ℕ) (r : Ref) (e : Option SignedNode) → slice_get sinks k ≡ Some r → slice_get ends k ≡ Some e → IsAskedBy nodes r e

-- the pairs that are asked for are there, and few
pub record IsWiring (arms : List Arms) (ends : List (Option SignedNode)) : Type 0 where
  pub arms_below : AreArms arms
  pub ends_below : (k : ℕ) (e : Option SignedNode) (s : Bool) → slice_get ends k ≡ Some e → AreBelow (length arms) (asked e s)
  pub few : 4 * length arms + length ends + 1 < 2 ^ 32

-- and are those of the gates
pub record AreWired (gates : GatesData) (arms : List Arms) (ends : List (Option SignedNode)) : Type 0 where
  pub arms_count : length arms ≡ length gates.nodes
  pub ends_count : length ends ≡ length gates.sinks
  pub arms_are : AreNodeArms gates.nodes arms
  pub ends_are : AreEnds gates.nodes gates.sinks ends
