use Rattle.cover_plan.proofs.Recurrence.{root_least, table_least}
use Rattle.cover_plan.proofs.laws.tables_are_least.Goals as goal

pub returns-clause-tables : goal.returns-clause-tables
returns-clause-tables k = λ c w h op l r e wide tall. table_least c w h wide tall op l r e

pub returns-clause-roots : goal.returns-clause-roots
returns-clause-roots k = λ c w h op l r cost wide tall. root_least c w h wide tall op l r cost
