use Rattle.gate_decompose.proofs.Among.{among-contains, contains-among}
use Rattle.cover_plan.proofs.Recurrence.{table_least}
use Rattle.tree_map.specs.Covers.{ordinary_costs}
use Rattle.tree_map.specs.CoverTables.{table}
use Rattle.tree_map.proofs.laws.tables_are_least.Goals as goal

pub returns : goal.returns
returns c = λ w h op l r e wide tall.
    let is = table_least ordinary_costs w h wide tall op l r e in
    (λ at. is.0 (contains-among (table w h op l r) e at), λ least. among-contains (table w h op l r) e (is.1 least))
