use Rattle.domino_cell.proofs.CellLaws.{joins_foot_through_tree_alone, joins_foot_where_one, may_join_foot_where_not_zero}
use Rattle.domino_cell.proofs.laws.tree_joins_foot.Goals as goal

pub returns-clause-definite : goal.returns-clause-definite
returns-clause-definite c = joins_foot_where_one

pub returns-clause-possible : goal.returns-clause-possible
returns-clause-possible c = may_join_foot_where_not_zero

pub returns-clause-alone : goal.returns-clause-alone
returns-clause-alone c = joins_foot_through_tree_alone
