-- Values for both signs, true for plus, and nodes with one.
use Rattle.std.specs.Prelude.{ℕ, Bool, true, false, not, List, get_or}
use Rattle.gate_decompose.specs.Needed.{signed}
use Rattle.dual_rail.specs.declared.signed.Signed.{Signed}
use Rattle.dual_rail.specs.declared.signed.SignedNode.{SignedNode}

-- the value for a sign
abbrev pub of_sign : {T : Type 0} → Signed T → Bool → T
of_sign values true = values.plus
of_sign values false = values.minus

-- the value for a node and a sign, where the nodes of a list have one for each sign and others have this one
abbrev pub of_node : {T : Type 0} → T → List (Signed T) → ℕ → Bool → T
of_node other values n s = of_sign (get_or values n (record { plus = other; minus = other })) s

abbrev pub same_sign : Bool → Bool → Bool
same_sign a b = signed a b

-- what is asked for with a sign, where this is asked for with the sign plus
abbrev pub with_sign : SignedNode → Bool → SignedNode
with_sign p true = p
with_sign p false = record { node = p.node; plus = not p.plus }
