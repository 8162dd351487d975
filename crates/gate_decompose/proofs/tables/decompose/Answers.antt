-- The leaves are known; a table more; and the gates of all tables are gates.
use Rattle.std.proofs.Common.{◌≡◌, ◌<◌, ◌≤◌, ◌+◌, false, All, Some, length, map, get_or, sym, ap, subst, ◌∙◌, arith, add-zero, zero-add, rules, vec_len}
use Rattle.std.specs.List.{range_with_len}
use Rattle.std.specs.Prelude.{slice_get}
use Rattle.std.proofs.lemmas.Grind.{common_steps}
use Rattle.std.proofs.lemmas.List.FromFn.{get_or-map-range_with_len, length-map-range_with_len}
use Rattle.std.proofs.lemmas.List.Sums.{sum_by_more, sum_by_more_le}
use Rattle.std.proofs.lemmas.Option.{get_or_from_slice_get, slice_get_within}
use Rattle.network.specs.Limits.{letters}
use Rattle.network.specs.Networks.{IsNetwork}
use Rattle.network.specs.NetworkData.{NetTableData, NetworkData}
use Rattle.gate_decompose.specs.declared.gates.Ref.TheVariants.{Const, Leaf}
use Rattle.gate_decompose.specs.GateNodes.{node_names}
use Rattle.gate_decompose.specs.NetworkOrder.{IsOrderedNetwork}
use Rattle.gate_decompose.specs.RowItems.{AreRefs, ref_at}
use Rattle.gate_decompose.specs.Sinks.{leaf_count, sink_signals}
use Rattle.gate_decompose.proofs.NetworkGates.{are_gates, gates_within, leaves_known, table_next}
use Rattle.gate_decompose.proofs.NetworkOrder.{networks_are_ordered}
use Rattle.gate_decompose.proofs.Operands.{operands_of}
use Rattle.gate_decompose.proofs.tables.decompose.Goals as goal

pub loop-k-init : goal.loop-k-init
loop-k-init c =
    let is : IsNetwork c.args.network.now = subst IsNetwork c.network.view_is c.network.invariant in
    let long : vec_len c.network.inside.latches ≡ length c.network.inside.latches.items = search rules in
    let leaves : c.network.inside.inputs + c.len.result ≡ leaf_count c.args.network.now = ap (λ n. c.network.inside.inputs + n) (c.len.ensures ∙ long) ∙ ap leaf_count c.network.view_is in
    let refs = c.reserve.ensures.items ∙ c.in_ok-refs.ensures ∙ ap (λ n. map Leaf (range_with_len 0 n)) leaves in
    let count = ap length refs ∙ length-map-range_with_len Leaf 0 (leaf_count c.args.network.now) in
    record {
      count = count ∙ sym (add-zero (leaf_count c.args.network.now));
      known = leaves_known c.args.network.now (networks_are_ordered c.args.network.now is) c.reserve.new.self.items count
          (λ s lt. ap (λ xs. get_or xs s (Const false)) refs ∙ get_or-map-range_with_len Leaf 0 (leaf_count c.args.network.now) s s (Const false) lt (zero-add s));
      nodes = c.in_ok-nodes.ensures.items;
      few = rw c.in_ok-nodes.ensures.items (omega arith);
      operators = rw c.in_ok-nodes.ensures.items (omega arith);
    }

pub table_part-requires-clause-below : goal.table_part-requires-clause-below
table_part-requires-clause-below c =
    let is : IsNetwork c.args.network.now = subst IsNetwork c.network.view_is c.network.invariant in
    let at : slice_get c.args.network.now.tables c.loop-k.k ≡ Some c.table-table.result =
    ap (λ (n : NetworkData). slice_get n.tables c.loop-k.k) (sym c.network.view_is) ∙ c.table-table.ensures in
    subst (λ n. All (λ signal. signal < n) c.table-table.result.inputs) (sym (ap length c.as_slice.ensures.value ∙ c.loop-k.invariant.count))
    (is.tables c.loop-k.k c.table-table.result at).inputs

pub table_part-requires-clause-fits : goal.table_part-requires-clause-fits
table_part-requires-clause-fits c =
    let is : IsNetwork c.args.network.now = subst IsNetwork c.network.view_is c.network.invariant in
    let at : slice_get c.args.network.now.tables c.loop-k.k ≡ Some c.table-table.result =
    ap (λ (n : NetworkData). slice_get n.tables c.loop-k.k) (sym c.network.view_is) ∙ c.table-table.ensures in
    (is.tables c.loop-k.k c.table-table.result at).rows

pub table_part-requires-clause-room : goal.table_part-requires-clause-room
table_part-requires-clause-room c =
    let is : IsNetwork c.args.network.now = subst IsNetwork c.network.view_is c.network.invariant in
    let at : slice_get c.args.network.now.tables c.loop-k.k ≡ Some c.table-table.result =
    ap (λ (n : NetworkData). slice_get n.tables c.loop-k.k) (sym c.network.view_is) ∙ c.table-table.ensures in
    let lt : c.loop-k.k < length c.args.network.now.tables = slice_get_within c.args.network.now.tables c.loop-k.k c.table-table.result at in
    let same = ap (λ (t : NetTableData). letters (length t.inputs) t.rows) (get_or_from_slice_get c.args.network.now.tables c.loop-k.k c.table-table.result c.table-table.result at) in
    let more = sum_by_more_le (λ (t : NetTableData). letters (length t.inputs) t.rows) c.args.network.now.tables c.loop-k.k c.table-table.result lt in
    omega (arith, same, more, c.loop-k.invariant.few, is.few_letters)

pub loop-k-preserved : goal.loop-k-preserved
loop-k-preserved c =
    let is : IsNetwork c.args.network.now = subst IsNetwork c.network.view_is c.network.invariant in
    let order : IsOrderedNetwork c.args.network.now = networks_are_ordered c.args.network.now is in
    let at : slice_get c.args.network.now.tables c.loop-k.k ≡ Some c.table-table.result =
    ap (λ (n : NetworkData). slice_get n.tables c.loop-k.k) (sym c.network.view_is) ∙ c.table-table.ensures in
    let lt : c.loop-k.k < length c.args.network.now.tables = slice_get_within c.args.network.now.tables c.loop-k.k c.table-table.result at in
    let here : get_or c.args.network.now.tables c.loop-k.k c.table-table.result ≡ c.table-table.result =
    get_or_from_slice_get c.args.network.now.tables c.loop-k.k c.table-table.result c.table-table.result at in
    let more = sum_by_more (λ (t : NetTableData). letters (length t.inputs) t.rows) c.args.network.now.tables c.loop-k.k c.table-table.result lt in
    let same = ap (λ (t : NetTableData). letters (length t.inputs) t.rows) here in
    let next = table_next c.args.network.now order c.loop-k.k c.table-table.result c.loop-k.refs.items c.loop-k.nodes.items c.table_part.new.nodes.items c.in_ok-part.part lt here
    c.loop-k.invariant.count c.loop-k.invariant.known c.loop-k.invariant.nodes
    (c.in_ok-part.ensures.makes (node_names (operands_of c.args.network.now) c.args.network.now) (operands_of c.args.network.now) c.loop-k.k
    (subst (AreRefs (node_names (operands_of c.args.network.now) c.args.network.now) (operands_of c.args.network.now)) (sym c.as_slice.ensures.value) c.loop-k.invariant.known)) in
    record {
      count = let so_far = c.loop-k.invariant.count in rw c.in_ok-push.ensures.items (grind (arith, common_steps));
      known = subst (AreRefs (node_names (operands_of c.args.network.now) c.args.network.now) (operands_of c.args.network.now)) (sym c.in_ok-push.ensures.items) next.0;
      nodes = next.1;
      few = omega (arith, more, same, c.loop-k.invariant.few, c.in_ok-part.ensures.few);
      operators = omega (arith, more, same, c.loop-k.invariant.operators, c.in_ok-part.ensures.operators);
    }

pub invariant_of-result : goal.invariant_of-result
invariant_of-result c =
    let is : IsNetwork c.args.network.now = subst IsNetwork c.network.view_is c.network.invariant in
    let order : IsOrderedNetwork c.args.network.now = networks_are_ordered c.args.network.now is in
    let long : vec_len c.network.inside.latches ≡ length c.network.inside.latches.items = search rules in
    let leaves : c.network.inside.inputs + c.len.result ≡ leaf_count c.args.network.now = ap (λ n. c.network.inside.inputs + n) (c.len.ensures ∙ long) ∙ ap leaf_count c.network.view_is in
    let tables : c.len-k-end.result ≡ length c.args.network.now.tables = c.len-k-end.ensures ∙ ap (λ (n : NetworkData). length n.tables) c.network.view_is in
    let done : length c.args.network.now.tables ≤ c.loop-k.k = omega (arith, tables, c.loop-k-test.false) in
    let most : c.loop-k.k ≤ length c.args.network.now.tables = omega (arith, tables, c.loop-k.auto.k-end) in
    gates_within c.args.network.now _ c.loop-k.k is order
    (are_gates c.args.network.now order c.loop-k.k (c.network.inside.inputs + c.len.result) c.loop-k.refs.items c.in_ok-sinks.sinks.items c.loop-k.nodes.items
    leaves done c.loop-k.invariant.known (omega (arith, c.loop-k.invariant.count, done, most)) c.loop-k.invariant.nodes
    (c.in_ok-sinks.ensures ∙ ap (λ xs. map (ref_at xs) (sink_signals c.args.network.now)) c.as_slice-2.ensures.value))
    c.loop-k.invariant.few c.loop-k.invariant.operators

pub returns : goal.returns
returns c =
    let is : IsNetwork c.args.network.now = subst IsNetwork c.network.view_is c.network.invariant in
    let order : IsOrderedNetwork c.args.network.now = networks_are_ordered c.args.network.now is in
    let long : vec_len c.network.inside.latches ≡ length c.network.inside.latches.items = search rules in
    let leaves : c.network.inside.inputs + c.len.result ≡ leaf_count c.args.network.now = ap (λ n. c.network.inside.inputs + n) (c.len.ensures ∙ long) ∙ ap leaf_count c.network.view_is in
    let tables : c.len-k-end.result ≡ length c.args.network.now.tables = c.len-k-end.ensures ∙ ap (λ (n : NetworkData). length n.tables) c.network.view_is in
    let done : length c.args.network.now.tables ≤ c.loop-k.k = omega (arith, tables, c.loop-k-test.false) in
    let most : c.loop-k.k ≤ length c.args.network.now.tables = omega (arith, tables, c.loop-k.auto.k-end) in
    are_gates c.args.network.now order c.loop-k.k (c.network.inside.inputs + c.len.result) c.loop-k.refs.items c.in_ok-sinks.sinks.items c.loop-k.nodes.items
    leaves done c.loop-k.invariant.known (omega (arith, c.loop-k.invariant.count, done, most)) c.loop-k.invariant.nodes
    (c.in_ok-sinks.ensures ∙ ap (λ xs. map (ref_at xs) (sink_signals c.args.network.now)) c.as_slice-2.ensures.value)
