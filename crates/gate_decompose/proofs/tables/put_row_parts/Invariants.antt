use Rattle.std.proofs.Common.{◌≡◌, ◌≤◌, ◌+◌, ◌*◌, ℕ, List, length, take, count_by}
use Rattle.gate_decompose.specs.GateNodes.{NodeName, Operand, Turn}
use Rattle.gate_decompose.specs.GatesOrder.{is_operator}
use Rattle.gate_decompose.specs.RowItems.{AreRefs}
use Rattle.gate_decompose.specs.RowsMade.{AreRowsMade, nodes_of_rows}
use Rattle.gate_decompose.specs.TermNodes.{AreNumbered, placed}
use Rattle.gate_decompose.proofs.tables.put_row_parts.Given as goal

abbrev pub invariant-loop-k : goal.invariant-loop-k
invariant-loop-k l = record {
  makes : (names : List NodeName) (of : ℕ → Operand) (number : ℕ) (way : List Turn) → AreRefs names of l.refs
      → AreNumbered names (length l.fn.nodes.items) (nodes_of_rows of number l.fn.table.inputs (take l.k (placed l.fn.table.rows way)))
      → AreRowsMade names of number l.fn.table.inputs (take l.k (placed l.fn.table.rows way)) l.fn.nodes.items l.nodes.items l.rows.items;
  count : length l.rows.items ≡ l.k;
  few : length l.nodes.items ≤ length l.fn.nodes.items + 2 * (l.k * length l.fn.table.inputs);
  operators : count_by is_operator l.nodes.items ≤ count_by is_operator l.fn.nodes.items + l.k * length l.fn.table.inputs;
}
