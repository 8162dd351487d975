use Rattle.plan_law.proofs.CellLevels.{levels_there}
use Rattle.plan_law.proofs.DecksThere.{gates_there}
use Rattle.plan_law.proofs.ForestThere.{forests_there}
use Rattle.plan_law.proofs.laws.parts_are_there.Goals as goal

pub returns-clause-gates : goal.returns-clause-gates
returns-clause-gates c = gates_there

pub returns-clause-forests : goal.returns-clause-forests
returns-clause-forests c = forests_there

pub returns-clause-levels : goal.returns-clause-levels
returns-clause-levels c = levels_there
