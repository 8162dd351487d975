use Rattle.std.proofs.Common.{◌≡◌, ℕ, map, take}
use Rattle.std.specs.List.{enumerate_from}
use Rattle.network.specs.NetworkData.{NetTableData}
use Rattle.net_flatten.specs.OneModel.{table_at}
use Rattle.net_flatten.proofs.one_model.tables_of.Given as goal

abbrev pub invariant-loop-k : goal.invariant-loop-k
invariant-loop-k l = l.tables.items ≡ take l.k (map (λ (p : ℕ × NetTableData). table_at l.fn.network p.0 p.1) (enumerate_from 0 l.fn.network.tables))
