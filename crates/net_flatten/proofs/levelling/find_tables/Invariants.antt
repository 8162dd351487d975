use Rattle.std.proofs.Common.{take}
use Rattle.model_calls.specs.NumberSets.{IsSetOf}
use Rattle.net_flatten.specs.TableNumbers.{driven_by_tables}
use Rattle.net_flatten.proofs.levelling.find_tables.Given as goal

abbrev pub invariant-loop-index : goal.invariant-loop-index
invariant-loop-index l = IsSetOf l.signals (driven_by_tables (take l.index l.parts)) l.tables
