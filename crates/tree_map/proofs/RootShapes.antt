-- The shape of a root within bounds of at least 2.
use Rattle.std.proofs.Common.{ℕ, ◌≤◌, arith}
use Rattle.cover_plan.specs.Covers.{Costs, IsRootShape}
use Rattle.cover_plan.specs.CoverTables.{table}
use Rattle.cover_plan.specs.Parts.{CoverPart, Join, Operator, TreeShape}
use Rattle.cover_plan.proofs.Choices.{lowest_least}
use Rattle.cover_plan.proofs.CutParts.{cut_sum}
use Rattle.cover_plan.proofs.Firsts.{root_shape_there}
use Rattle.cover_plan.proofs.Recurrence.{sum_bounded}
use Rattle.cover_plan.proofs.Tables.{lowest_below}

pub root_there : (c : Costs) (w h : ℕ) → 2 ≤ w → 2 ≤ h → (op : Operator) (l r : CoverPart) → (shape : TreeShape) × IsRootShape c w h (Join op l r) shape
root_there c w h wide tall op l r =
    let e = sum_bounded c w h (omega arith) (omega arith) op l r _ _ (cut_sum c w h wide tall op l r) in
    let low = lowest_below (table c w h op l r) e.0 e.1 in
    let root = root_shape_there c w h (omega arith) (omega arith) op l r low.0 (lowest_least c w h (omega arith) (omega arith) op l r low.0 low.1) in
    (root.0, root.1)
