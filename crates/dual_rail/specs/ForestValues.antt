-- The values of the pairs of a forest and of the ends of its sinks.
use Rattle.std.specs.Prelude.{ℕ, ◌≡◌, Bool, not, ◌&&◌, ◌||◌, List, Some, slice_get}
use Rattle.dual_rail.specs.declared.forest.Arm.{Arm}
use Rattle.dual_rail.specs.declared.forest.Arm.TheVariants.{Literal, Pair as pair_arm}
use Rattle.dual_rail.specs.declared.forest.End.{End}
use Rattle.dual_rail.specs.declared.forest.End.TheVariants.{Const, Literal as literal_end, FromDynamic, FromOutput}
use Rattle.dual_rail.specs.declared.forest.Pair.{Pair}
use Rattle.dual_rail.specs.declared.forest.Pair.TheVariants.{And, Or}
use Rattle.gate_decompose.specs.declared.gates.Ref.{Ref}
use Rattle.dual_rail.specs.ForestData.{ForestData}
use Rattle.dual_rail.specs.Forests.{IsForestOf}
use Rattle.gate_decompose.specs.GatesData.{GatesData}
use Rattle.gate_decompose.specs.GatesOrder.{AreInPlace}
use Rattle.gate_decompose.specs.Needed.{signed}
use Rattle.gate_decompose.specs.Values.{AreNodeValues, ref_value}

-- the value of an arm, where leaves and pairs have values
abbrev pub arm_bit : (ℕ → Bool) → (ℕ → Bool) → Arm → Bool
arm_bit leaf pair (Literal rail) = signed rail.plus (leaf rail.leaf)
arm_bit leaf pair (pair_arm place) = pair place

abbrev pub pair_bit : (ℕ → Bool) → (ℕ → Bool) → Pair → Bool
pair_bit leaf pair (And a b) = arm_bit leaf pair a && arm_bit leaf pair b
pair_bit leaf pair (Or a b) = arm_bit leaf pair a || arm_bit leaf pair b

-- the pairs of a forest have values: each is its operator on the values of its arms
abbrev pub ArePairValues : ForestData → (ℕ → Bool) → (ℕ → Bool) → Type 0
ArePairValues forest leaf pair = (place : ℕ) (x : Pair) → slice_get forest.pairs place ≡ Some x → pair place ≡ pair_bit leaf pair x

-- the value that a sink takes from its end: the output of a cell is the opposite of its dynamic net, and the sink's
-- inverter turns either
abbrev pub end_bit : (ℕ → Bool) → (ℕ → Bool) → End → Bool
end_bit leaf pair (Const b) = b
end_bit leaf pair (literal_end rail) = signed rail.plus (leaf rail.leaf)
end_bit leaf pair (FromDynamic place) = pair place
end_bit leaf pair (FromOutput place) = not (pair place)

-- each pair has its node's value with its sign
abbrev pub PairsHaveValues : Type 0
PairsHaveValues =
    (gates : GatesData) (signs : List Bool) (forest : ForestData) (leaf node pair : ℕ → Bool)
    → AreInPlace gates → IsForestOf gates signs forest → AreNodeValues gates leaf node → ArePairValues forest leaf pair
    → (place : ℕ) (p : ℕ × Bool) → slice_get forest.origin place ≡ Some p → pair place ≡ signed p.1 (node p.0)

-- and each sink takes its own value from its end, whatever its sign
abbrev pub EndsHaveValues : Type 0
EndsHaveValues =
    (gates : GatesData) (signs : List Bool) (forest : ForestData) (leaf node pair : ℕ → Bool)
    → AreInPlace gates → IsForestOf gates signs forest → AreNodeValues gates leaf node → ArePairValues forest leaf pair
    → (k : ℕ) (r : Ref) (sign : Bool) (end : End)
    → slice_get gates.sinks k ≡ Some r → slice_get signs k ≡ Some sign → slice_get forest.ends k ≡ Some end
    → end_bit leaf pair end ≡ ref_value leaf node r
