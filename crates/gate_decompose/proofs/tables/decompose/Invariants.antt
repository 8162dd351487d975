use Rattle.std.proofs.Common.{◌≡◌, ◌≤◌, ◌+◌, ◌*◌, length, map, flat_map, take, count_by}
use Rattle.std.specs.List.{enumerate_from, sum_by}
use Rattle.network.specs.Limits.{letters}
use Rattle.network.specs.NetworkData.{NetTableData}
use Rattle.gate_decompose.specs.GateNodes.{NamedNode, node_names, node_of, table_nodes}
use Rattle.gate_decompose.specs.GatesOrder.{is_operator}
use Rattle.gate_decompose.specs.RowItems.{AreRefs}
use Rattle.gate_decompose.specs.Sinks.{leaf_count}
use Rattle.gate_decompose.proofs.Operands.{operands_of}
use Rattle.gate_decompose.proofs.tables.decompose.Given as goal

abbrev pub invariant-loop-k : goal.invariant-loop-k
invariant-loop-k l = record {
  count : length l.refs.items ≡ leaf_count l.fn.network + l.k;
  known : AreRefs (node_names (operands_of l.fn.network) l.fn.network) (operands_of l.fn.network) l.refs.items;
  nodes : l.nodes.items
      ≡ map (λ (n : NamedNode). node_of (node_names (operands_of l.fn.network) l.fn.network) n.joint)
      (flat_map (λ p. table_nodes (operands_of l.fn.network) p.0 p.1) (take l.k (enumerate_from 0 l.fn.network.tables)));
  few : length l.nodes.items ≤ 2 * sum_by (λ (t : NetTableData). letters (length t.inputs) t.rows) (take l.k l.fn.network.tables);
  operators : count_by is_operator l.nodes.items ≤ sum_by (λ (t : NetTableData). letters (length t.inputs) t.rows) (take l.k l.fn.network.tables);
}
