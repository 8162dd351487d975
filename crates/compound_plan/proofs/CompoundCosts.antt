-- What the cells of a compound deck cost.
use Rattle.std.proofs.Common.{arith}
use Rattle.compound_plan.proofs.TreeSums.{tree_sum-is}
use Rattle.compound_plan.specs.Plans.{CompoundCosts}

pub compound_costs_are : CompoundCosts
compound_costs_are = (
  (λ t. let a = tree_sum-is 1 t in omega (arith, a)),
  (λ l r. let a = tree_sum-is 1 l in let b = tree_sum-is 1 r in omega (arith, a, b)),
)
