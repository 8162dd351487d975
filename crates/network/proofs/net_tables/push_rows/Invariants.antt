use Rattle.std.proofs.Common.{◌≡◌, ◌++◌, take}
use Rattle.network.proofs.net_tables.push_rows.Given as goal

abbrev pub invariant-loop-row : goal.invariant-loop-row
invariant-loop-row l = l.pool ≡ l.fn.pool ++ take l.row-index l.rows
