use Rattle.std.proofs.Common.{rules}
use Rattle.std.proofs.lemmas.List.Sorted.{answers_always}
use Rattle.model_calls.proofs.StableSort.{sorted_in_order}
use Rattle.net_flatten.specs.declared.table_order.LevelledTable.{LevelledTable}
use Rattle.net_flatten.proofs.table_order.sort_by_level.Goals as goal

pub returns : goal.returns
returns c =
    let keys = answers_always _ _ _ (λ f a r next called. search rules) in
    sorted_in_order (λ (t : LevelledTable). t.level) c.args.tables.now.items c.sort_by_key.new.self.items
    (c.in_ok-sort_by_key.ensures.sorted (λ (t : LevelledTable). t.level) keys) (c.sort_by_key.ensures.stable (λ (t : LevelledTable). t.level) keys)
