-- Trees that no path enters from their top.
use Rattle.std.specs.Prelude.{List, ℕ, ◌≡◌}
use Rattle.dom_base.specs.Conduction.{conduction}
use Rattle.dom_base.specs.declared.kind.Kind.{Kind}
use Rattle.dom_base.specs.declared.tri.Tri.{Tri}
use Rattle.dom_base.specs.declared.tri.Tri.TheVariants.{Zero}
use Rattle.deck.specs.Switches.{value_of}
use Rattle.sp_network.specs.Tree.{Leaf, Parallel, Series, Tree}

-- each device at the top of the tree is off
abbrev pub IsShut : Kind → List Tri → Tree ℕ → Type 0
IsShut kind values (Leaf gate) = conduction kind (value_of values gate) ≡ Zero
IsShut kind values (Series l r) = IsShut kind values l
IsShut kind values (Parallel l r) = IsShut kind values l × IsShut kind values r
