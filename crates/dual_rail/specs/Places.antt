-- The places of needed pairs.
use Rattle.std.specs.Prelude.{ℕ, ◌≡◌, Bool, true, List, Some, slice_get}
use Rattle.gate_decompose.specs.declared.gates.Node.{Node}
use Rattle.gate_decompose.specs.NeededPass.{is_marked_gate}
use Rattle.dual_rail.specs.SignedValues.{of_node}
use Rattle.dual_rail.specs.declared.signed.Signed.{Signed}

-- the place of a node's pair with a sign
abbrev pub place_at : List (Signed ℕ) → ℕ → Bool → ℕ
place_at places n s = of_node 0 places n s

-- each marked pair stands at its place
abbrev pub ArePlaces : List Node → (ℕ → Bool → Bool) → List (ℕ × Bool) → List (Signed ℕ) → Type 0
ArePlaces nodes marks pairs places =
    (n : ℕ) (s : Bool) → is_marked_gate nodes marks n s ≡ true → slice_get pairs (place_at places n s) ≡ Some (n, s)
