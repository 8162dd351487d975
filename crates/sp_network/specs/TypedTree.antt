-- Trees whose leaves bear their supply as a type, seen as trees over the numbers of their gates (Rabaey, Digital Integrated Circuits:
-- pull-down and pull-up networks).
use Rattle.std.specs.Prelude.{ℕ, ◌^◌, List, slice_index_or}
use Rattle.dom_base.specs.declared.tri.Tri.{Tri}
use Rattle.dom_base.specs.declared.tri.Tri.TheVariants.{Unknown}
use Rattle.sp_network.specs.Tree.{Tree, Leaf, Series, Parallel}
use Rattle.sp_network.specs.declared.sp.Sp.{Sp}
use Rattle.sp_network.specs.declared.sp.Sp.TheVariants.{Leaf as Leaf', Series', Parallel'}

-- the tree over the gates of the leaves, whatever the supply
abbrev pub tree_of : {S : Type 0} → Sp S → Tree ℕ
tree_of (Leaf' gate rail) = Leaf gate
tree_of (Series' p l q r) = Series (tree_of l) (tree_of r)
tree_of (Parallel' p l q r) = Parallel (tree_of l) (tree_of r)

-- the value of a gate in a list of values; past the end it is Unknown
abbrev pub gate_value : List Tri → ℕ → Tri
gate_value values gate = slice_index_or values gate Unknown

-- the greatest number of leaves of a tree whose leaves are counted
abbrev pub most_leaves : ℕ
most_leaves = 2 ^ 20
