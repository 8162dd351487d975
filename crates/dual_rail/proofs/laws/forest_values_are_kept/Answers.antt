use Rattle.dual_rail.proofs.PairValues.{ends_have_values, pairs_have_values}
use Rattle.dual_rail.proofs.laws.forest_values_are_kept.Goals as goal

pub returns-clause-pairs : goal.returns-clause-pairs
returns-clause-pairs c = pairs_have_values

pub returns-clause-ends : goal.returns-clause-ends
returns-clause-ends c = ends_have_values
