-- Ends for what sinks ask for, where pairs have places.
use Rattle.std.specs.Prelude.{ℕ, ◌<◌, ◌≡◌, Bool, true, false, not, List, Some, slice_get}
use Rattle.gate_decompose.specs.declared.gates.Ref.{Ref}
use Rattle.gate_decompose.specs.GatesData.{GatesData}
use Rattle.gate_decompose.specs.Needed.{Asked, AsksFor, Literal, Pair, Value}
use Rattle.dual_rail.specs.Forests.{IsEndOf}
use Rattle.dual_rail.specs.Places.{place_at}
use Rattle.dual_rail.specs.declared.forest.End.{End}
use Rattle.dual_rail.specs.declared.forest.End.TheVariants.{Const, Literal as literal_end, FromDynamic, FromOutput}
use Rattle.dual_rail.specs.declared.signed.Signed.{Signed}

-- a pair is one of so many nodes
abbrev pub IsNodeWithin : ℕ → Asked → Type 0
IsNodeWithin nodes (Value b) = Unit {0}
IsNodeWithin nodes (Literal leaf plus) = Unit {0}
IsNodeWithin nodes (Pair n s) = n < nodes

-- the end is this constant or literal, the dynamic net at the place of this pair, or the output at the place of the
-- pair with the other sign
abbrev pub IsEndFor : List (Signed ℕ) → Asked → Bool → End → Type 0
IsEndFor places (Value b) sign end = end ≡ Const b
IsEndFor places (Literal leaf plus) sign end = end ≡ literal_end (record { leaf = leaf; plus = plus })
IsEndFor places (Pair n s) true end = end ≡ FromDynamic (place_at places n s)
IsEndFor places (Pair n s) false end = end ≡ FromOutput (place_at places n (not s))

-- the pair that each sink asks for with its sign stands at its place
abbrev pub SinksHavePlaces : GatesData → List Bool → List (ℕ × Bool) → List (Signed ℕ) → Type 0
SinksHavePlaces gates signs origin places =
    (k : ℕ) (r : Ref) (sign : Bool) (m : ℕ) (t : Bool) → slice_get gates.sinks k ≡ Some r → slice_get signs k ≡ Some sign
    → AsksFor gates.nodes r sign (Pair m t) → slice_get origin (place_at places m t) ≡ Some (m, t)

-- each sink that has an end has its own
abbrev pub AreEndsSoFar : GatesData → List Bool → List (ℕ × Bool) → List End → Type 0
AreEndsSoFar gates signs origin ends =
    (k : ℕ) (r : Ref) (sign : Bool) (end : End) → slice_get gates.sinks k ≡ Some r → slice_get signs k ≡ Some sign
    → slice_get ends k ≡ Some end → IsEndOf gates.nodes origin r sign end
