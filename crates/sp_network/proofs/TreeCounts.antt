-- Widths and heights of trees are no greater than their leaves.
use Rattle.std.proofs.Common.{◌≤◌, arith}
use Rattle.sp_network.specs.Tree.{Tree, Leaf, Series, Parallel, height, leaves, width}

pub width-le : {Net : Type 0} (t : Tree Net) → width t ≤ leaves t
width-le (Leaf gate) = omega arith
width-le (Series l r) = omega (arith, width-le l, width-le r)
width-le (Parallel l r) = omega (arith, width-le l, width-le r)

pub height-le : {Net : Type 0} (t : Tree Net) → height t ≤ leaves t
height-le (Leaf gate) = omega arith
height-le (Series l r) = omega (arith, height-le l, height-le r)
height-le (Parallel l r) = omega (arith, height-le l, height-le r)

pub ruleset counts = (width-le, height-le)
