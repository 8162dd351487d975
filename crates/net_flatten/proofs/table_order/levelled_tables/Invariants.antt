use Rattle.std.proofs.Common.{take}
use Rattle.net_flatten.specs.LevelledTables.{AreLevelledTables}
use Rattle.net_flatten.specs.TableNumbers.{tables_among}
use Rattle.net_flatten.proofs.table_order.levelled_tables.Given as goal

abbrev pub invariant-loop-index : goal.invariant-loop-index
invariant-loop-index l = AreLevelledTables l.levels l.parts (tables_among (take l.index l.parts)) l.tables.items
