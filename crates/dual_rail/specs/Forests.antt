-- The forest of gates under signs: the needed pairs in order, each with its operator and its arms, the uses, and the
-- end of each sink (Puri, Bjorksten, Rosser 1996).
use Rattle.std.specs.Prelude.{ℕ, ◌+◌, ◌≡◌, Bool, true, false, List, [], ◌∷◌, ◌==◌, length, map, Some, slice_get, sum_by, count_by}
use Rattle.std.specs.List.{AllZip, range_with_len}
use Rattle.dual_rail.specs.declared.forest.Arm.{Arm}
use Rattle.dual_rail.specs.declared.forest.Arm.TheVariants.{Literal as literal_arm, Pair as pair_arm}
use Rattle.dual_rail.specs.declared.forest.End.{End}
use Rattle.dual_rail.specs.declared.forest.End.TheVariants.{Const, Literal as literal_end, FromDynamic, FromOutput}
use Rattle.dual_rail.specs.declared.forest.Pair.{Pair}
use Rattle.dual_rail.specs.declared.forest.Pair.TheVariants.{And, Or}
use Rattle.gate_decompose.specs.declared.gates.Node.TheVariants.{And as and_node, Or as or_node}
use Rattle.gate_decompose.specs.declared.gates.Node.{Node}
use Rattle.gate_decompose.specs.declared.gates.Ref.{Ref}
use Rattle.dual_rail.specs.ForestData.{ForestData}
use Rattle.gate_decompose.specs.GatesData.{GatesData}
use Rattle.gate_decompose.specs.Needed.{AsksFor, Value, Literal, Pair as asked_pair, AreNeeded}

module _ (nodes : List Node) (origin : List (ℕ × Bool)) where
  -- an arm of a pair: what its part asks for with the pair's sign
  abbrev pub IsArm : Bool → Ref → Arm → Type 0
  IsArm sign r (literal_arm rail) = AsksFor nodes r sign (Literal rail.leaf rail.plus)
  IsArm sign r (pair_arm place) = (p : ℕ × Bool) × (slice_get origin place ≡ Some p) × AsksFor nodes r sign (asked_pair p.0 p.1)

  -- a plus pair is its node's operator over its arms, a minus pair the other operator
  abbrev pub IsPairOf : ℕ × Bool → Pair → Type 0
  IsPairOf (n, true) (And a b) =
      (l : Ref) × (r : Ref) × (slice_get nodes n ≡ Some (and_node l r)) × IsArm true l a × IsArm true r b
  IsPairOf (n, true) (Or a b) =
      (l : Ref) × (r : Ref) × (slice_get nodes n ≡ Some (or_node l r)) × IsArm true l a × IsArm true r b
  IsPairOf (n, false) (And a b) =
      (l : Ref) × (r : Ref) × (slice_get nodes n ≡ Some (or_node l r)) × IsArm false l a × IsArm false r b
  IsPairOf (n, false) (Or a b) =
      (l : Ref) × (r : Ref) × (slice_get nodes n ≡ Some (and_node l r)) × IsArm false l a × IsArm false r b

  -- The end of a sink: a constant or a literal has the sink's value, whatever the sign. A pair is taken from the dynamic
  -- net of its cell where the sign is plus, and from the output of its cell where it is minus.
  abbrev pub IsEndOf : Ref → Bool → End → Type 0
  IsEndOf r sign (Const b) = AsksFor nodes r true (Value b)
  IsEndOf r sign (literal_end rail) = AsksFor nodes r true (Literal rail.leaf rail.plus)
  IsEndOf r sign (FromDynamic place) =
      (sign ≡ true) × (p : ℕ × Bool) × (slice_get origin place ≡ Some p) × AsksFor nodes r true (asked_pair p.0 p.1)
  IsEndOf r sign (FromOutput place) =
      (sign ≡ false) × (p : ℕ × Bool) × (slice_get origin place ≡ Some p) × AsksFor nodes r false (asked_pair p.0 p.1)

abbrev pub is_pair_arm : ℕ → Arm → Bool
is_pair_arm place (literal_arm rail) = false
is_pair_arm place (pair_arm other) = other == place

-- the arms of a pair
abbrev pub left_arm : Pair → Arm
left_arm (And a b) = a
left_arm (Or a b) = a

abbrev pub right_arm : Pair → Arm
right_arm (And a b) = b
right_arm (Or a b) = b

abbrev pub arms_of : Pair → List Arm
arms_of (And a b) = a ∷ b ∷ []
arms_of (Or a b) = a ∷ b ∷ []

abbrev pub is_end_from : ℕ → End → Bool
is_end_from place (Const b) = false
is_end_from place (literal_end rail) = false
is_end_from place (FromDynamic other) = other == place
is_end_from place (FromOutput other) = other == place

-- the uses of a pair: the arms of pairs and the ends of sinks that name it
abbrev pub arm_uses : ForestData → ℕ → ℕ
arm_uses forest place = sum_by (λ pair. count_by (is_pair_arm place) (arms_of pair)) forest.pairs

abbrev pub end_uses : ForestData → ℕ → ℕ
end_uses forest place = count_by (is_end_from place) forest.ends

-- the forest of gates under one sign per sink
pub record IsForestOf (gates : GatesData) (signs : List Bool) (forest : ForestData) : Type 0 where
  pub leaves_are : forest.leaves ≡ gates.leaves
  pub origin_is : AreNeeded gates signs forest.origin
  pub pairs_are : AllZip (IsPairOf gates.nodes forest.origin) forest.origin forest.pairs
  pub uses_are : forest.uses ≡ map (λ place. arm_uses forest place + end_uses forest place) (range_with_len 0 (length forest.pairs))
  -- each sink, with its sign, has its end
  pub signs_are : length signs ≡ length gates.sinks
  pub ends_count : length forest.ends ≡ length gates.sinks
  pub ends_are : (k : ℕ) (r : Ref) (sign : Bool) (end : End) → slice_get gates.sinks k ≡ Some r → slice_get signs k ≡ Some sign
      → slice_get forest.ends k ≡ Some end → IsEndOf gates.nodes forest.origin r sign end
