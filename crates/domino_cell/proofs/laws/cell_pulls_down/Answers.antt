use Rattle.domino_cell.proofs.CellLaws.{joins_ground_through_tree_alone, may_pull_down_where_not_zero, pulls_down_where_one}
use Rattle.domino_cell.proofs.laws.cell_pulls_down.Goals as goal

pub returns-clause-definite : goal.returns-clause-definite
returns-clause-definite c = pulls_down_where_one

pub returns-clause-possible : goal.returns-clause-possible
returns-clause-possible c = may_pull_down_where_not_zero

pub returns-clause-alone : goal.returns-clause-alone
returns-clause-alone c = joins_ground_through_tree_alone
