use Rattle.tree_map.proofs.PlanValues.{trees_have_values}
use Rattle.tree_map.proofs.laws.tree_values_are_kept.Goals as goal

pub returns : goal.returns
returns c = trees_have_values
