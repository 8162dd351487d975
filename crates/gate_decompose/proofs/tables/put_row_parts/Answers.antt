-- A row more.
use Rattle.std.proofs.Common.{◌≡◌, ◌<◌, ◌≤◌, ◌+◌, [], Some, sym, ap, subst, ◌∙◌, arith, length}
use Rattle.std.specs.Prelude.{slice_get}
use Rattle.std.proofs.Math.Nat.{mul-le-mul_right}
use Rattle.std.proofs.lemmas.Grind.{common_steps}
use Rattle.std.proofs.lemmas.Option.{get_or_from_slice_get, slice_get_within}
use Rattle.network.specs.NetworkData.{NetTableData}
use Rattle.gate_decompose.specs.RowItems.{row_made}
use Rattle.gate_decompose.specs.RowsMade.{AreRowsMade}
use Rattle.gate_decompose.specs.TermNodes.{Makes, placed}
use Rattle.gate_decompose.specs.Terms.{row_term}
use Rattle.gate_decompose.proofs.PlacedRows.{all_rows_made, placed-at, placed-count, row_made_next}
use Rattle.gate_decompose.proofs.tables.put_row_parts.Goals as goal

pub row_part-requires-clause-room : goal.row_part-requires-clause-room
row_part-requires-clause-room c =
    let wide = ap (λ (t : NetTableData). length t.inputs) c.table.view_is in
    let rows = ap (λ (t : NetTableData). length t.rows) c.table.view_is in
    let most : c.loop-k.k + 1 ≤ length c.args.table.now.rows = omega (arith, c.loop-k-test.true, c.len-k-end.ensures, rows) in
    let room = mul-le-mul_right (length c.args.table.now.inputs) most in
    omega (arith, wide, room, c.loop-k.invariant.few, c.requires.room)

pub loop-k-preserved : goal.loop-k-preserved
loop-k-preserved c =
    let inputs_are : c.table.inside.inputs.now ≡ c.args.table.now.inputs = ap (λ (t : NetTableData). t.inputs) c.table.view_is in
    let wide : length c.table.inside.inputs.now ≡ length c.args.table.now.inputs = ap length inputs_are in
    let at : slice_get c.args.table.now.rows c.loop-k.k ≡ Some c.list.result.now = ap (λ (t : NetTableData). slice_get t.rows c.loop-k.k) (sym c.table.view_is) ∙ c.list.ensures in
    let lt : c.loop-k.k < length c.args.table.now.rows = slice_get_within c.args.table.now.rows c.loop-k.k c.list.result.now at in
    record {
      makes = λ names of number way known numbered.
          subst (AreRowsMade names of number c.args.table.now.inputs _ c.args.nodes.now.items c.row_part.new.nodes.items) (sym c.in_ok-push.ensures.items)
          (row_made_next names of number c.args.table.now.inputs (placed c.args.table.now.rows way) c.loop-k.k c.list.result.now ([], c.list.result.now)
          c.args.nodes.now.items c.loop-k.nodes.items c.row_part.new.nodes.items c.in_ok-part.part c.loop-k.rows.items
          (subst (λ n. c.loop-k.k < n) (sym (placed-count c.args.table.now.rows way)) lt)
          (placed-at c.args.table.now.rows way c.loop-k.k ([], c.list.result.now) lt ∙ get_or_from_slice_get c.args.table.now.rows c.loop-k.k c.list.result.now c.list.result.now at)
          (c.loop-k.invariant.makes names of number way known)
          (λ w. subst (λ ins. Makes names c.loop-k.nodes.items c.row_part.new.nodes.items c.in_ok-part.part (row_made of number (row_term ins c.list.result.now) w)) inputs_are
          (c.in_ok-part.ensures.makes names of number w known)) numbered);
      count = let so_far = c.loop-k.invariant.count in rw c.in_ok-push.ensures.items (grind (arith, common_steps));
      few = omega (arith, wide, c.loop-k.invariant.few, c.in_ok-part.ensures.few);
      operators = omega (arith, wide, c.loop-k.invariant.operators, c.in_ok-part.ensures.operators);
    }

pub returns-clause-makes : goal.returns-clause-makes
returns-clause-makes c =
    λ names of number way known.
    all_rows_made names of number way c.args.table.now c.loop-k.k c.args.nodes.now.items c.loop-k.nodes.items c.loop-k.rows.items
    (let rows = ap (λ (t : NetTableData). length t.rows) c.table.view_is in omega (arith, rows, c.len-k-end.ensures, c.loop-k-test.false)) (c.loop-k.invariant.makes names of number way known)
