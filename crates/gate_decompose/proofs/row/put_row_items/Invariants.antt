use Rattle.std.proofs.Common.{◌≡◌, map, take}
use Rattle.gate_decompose.specs.RowItems.{row_signals, signal_item}
use Rattle.gate_decompose.proofs.row.put_row_items.Given as goal

abbrev pub invariant-loop-place : goal.invariant-loop-place
invariant-loop-place l = l.items.items ≡ map (signal_item l.refs) (row_signals (take l.place l.inputs) (take l.place l.fn.row))
