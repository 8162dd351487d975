-- Trees of switches within bounds (Zhao, Sapatnekar 1998).
use Rattle.std.specs.Prelude.{ℕ, ◌≤◌}
use Rattle.sp_network.specs.Tree.{Tree, height, width}

-- the tree is within the bounds
abbrev pub IsWithin : ℕ → ℕ → Tree ℕ → Type 0
IsWithin w h tree = (width tree ≤ w) × (height tree ≤ h)
