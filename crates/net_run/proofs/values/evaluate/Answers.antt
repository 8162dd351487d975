use Rattle.std.proofs.Common.{◌≡◌, ◌+◌, ◌++◌, true, length, map, set, sym, subst, arith}
use Rattle.std.specs.Prelude.{◌↔◌}
use Rattle.std.proofs.lemmas.List.{length-append}
use Rattle.std.proofs.lemmas.Option.{get_or_from_slice_get}
use Rattle.blif_ast.specs.TableValue.{IsOneAt}
use Rattle.network.specs.NetworkData.{NetTableData}
use Rattle.net_run.specs.Runs.{value_at}
use Rattle.net_run.proofs.Evaluation.{AreValuesUpTo, all_tables, one_table_more}
use Rattle.net_run.proofs.values.evaluate.Goals as goal

pub loop-k-preserved : goal.loop-k-preserved
loop-k-preserved c =
    let start = c.args.pins.now ++ c.args.state.now in
    let at : length start + c.loop-k.k ≡ length c.args.pins.now + length c.args.state.now + c.loop-k.k = omega (arith, length-append c.args.pins.now c.args.state.now) in
    let holds = subst (λ (t : NetTableData). (c.is_one.result ≡ true) ↔ IsOneAt t.on t.rows (map (value_at c.loop-k.values) t.inputs)) (sym (get_or_from_slice_get c.args.tables.now c.loop-k.k c.table.result c.table.result c.table.ensures)) c.is_one.ensures in
    subst (λ m. AreValuesUpTo start c.args.tables.now (set c.loop-k.values m c.is_one.result) (c.loop-k.k + 1)) at
    (one_table_more start c.args.tables.now c.requires.tables c.loop-k.values c.loop-k.k c.is_one.result c.table.result (omega (arith, c.loop-k-test.true, c.len-k-end.ensures)) c.loop-k.invariant holds)

pub returns : goal.returns
returns c = all_tables (c.args.pins.now ++ c.args.state.now) c.args.tables.now c.loop-k.values c.loop-k.k (omega (arith, c.loop-k-test.false, c.len-k-end.ensures)) c.loop-k.invariant
