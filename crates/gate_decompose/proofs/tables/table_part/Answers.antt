-- A table by its rows.
use Rattle.std.proofs.Common.{[], ◌∷◌, sym, ap, ◌∙◌, arith, length}
use Rattle.dom_base.proofs.Options.{if_ok-weaker}
use Rattle.network.specs.NetworkData.{NetTableData}
use Rattle.gate_decompose.specs.GateNodes.{Left}
use Rattle.gate_decompose.proofs.TableParts.{off_made, on_made}
use Rattle.gate_decompose.proofs.tables.table_part.Goals as goal

pub join_all-requires : goal.join_all-requires
join_all-requires c =
    let count = ap length c.as_slice.ensures.value ∙ c.in_ok-put_row_parts.ensures.count in omega (arith, count, c.in_ok-put_row_parts.ensures.few, c.requires.room)

pub returns-then-table-clause-makes : goal.returns-then-table-clause-makes
returns-then-table-clause-makes c = λ names of number known.
    on_made names of number c.args.table.now (length c.args.refs.now) c.requires.below c.args.nodes.now.items c.put_row_parts.new.nodes.items c.join_all.new.nodes.items
    c.put_row_parts.new.rows.items c.in_ok-part.part (sym (ap (λ (t : NetTableData). t.on) c.table.view_is) ∙ c.if-table.true) (c.in_ok-put_row_parts.ensures.makes names of number [] known)
    (λ ops e. c.in_ok-part.ensures.makes names number [] ops (c.as_slice.ensures.value ∙ e))

pub returns-else-table-clause-makes : goal.returns-else-table-clause-makes
returns-else-table-clause-makes c =
    if_ok-weaker c.negate.result
    (λ r made names of number known.
    off_made names of number c.args.table.now (length c.args.refs.now) c.requires.below c.args.nodes.now.items c.put_row_parts.new.nodes.items c.join_all.new.nodes.items c.negate.new.nodes.items
    c.put_row_parts.new.rows.items c.in_ok-part.part r (sym (ap (λ (t : NetTableData). t.on) c.table.view_is) ∙ c.if-table.false) (c.in_ok-put_row_parts.ensures.makes names of number (Left ∷ []) known)
    (λ ops e. c.in_ok-part.ensures.makes names number (Left ∷ []) ops (c.as_slice.ensures.value ∙ e))
    (λ name a e. made names name a e))
    c.negate.ensures.makes

pub returns-else-table-clause-few : goal.returns-else-table-clause-few
returns-else-table-clause-few c =
    let count = ap length c.as_slice.ensures.value ∙ c.in_ok-put_row_parts.ensures.count in
    if_ok-weaker c.negate.result (λ r few. omega (arith, count, few, c.in_ok-put_row_parts.ensures.few, c.in_ok-part.ensures.few)) c.negate.ensures.few

pub returns-else-table-clause-operators : goal.returns-else-table-clause-operators
returns-else-table-clause-operators c =
    let count = ap length c.as_slice.ensures.value ∙ c.in_ok-put_row_parts.ensures.count in
    if_ok-weaker c.negate.result (λ r few. omega (arith, count, few, c.in_ok-put_row_parts.ensures.operators, c.in_ok-part.ensures.operators)) c.negate.ensures.operators

pub returns-then-table-clause-few : goal.returns-then-table-clause-few
returns-then-table-clause-few c =
    let count = ap length c.as_slice.ensures.value ∙ c.in_ok-put_row_parts.ensures.count in omega (arith, count, c.in_ok-put_row_parts.ensures.few, c.in_ok-part.ensures.few)

pub returns-then-table-clause-operators : goal.returns-then-table-clause-operators
returns-then-table-clause-operators c =
    let count = ap length c.as_slice.ensures.value ∙ c.in_ok-put_row_parts.ensures.count in omega (arith, count, c.in_ok-put_row_parts.ensures.operators, c.in_ok-part.ensures.operators)

pub negate-requires : goal.negate-requires
negate-requires c =
    let count = ap length c.as_slice.ensures.value ∙ c.in_ok-put_row_parts.ensures.count in omega (arith, count, c.in_ok-put_row_parts.ensures.few, c.in_ok-part.ensures.few, c.requires.room)
