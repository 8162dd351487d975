-- A row has no more items than inputs, and makes what they make.
use Rattle.std.proofs.Common.{arith, map, sym, subst, ◌∙◌}
use Rattle.dom_base.proofs.Options.{if_ok-weaker}
use Rattle.gate_decompose.specs.RowItems.{row_signals}
use Rattle.gate_decompose.specs.TermNodes.{Makes}
use Rattle.gate_decompose.proofs.RowParts.{items_called, items_few, operand_at, row_joined}
use Rattle.gate_decompose.proofs.row.row_part.Goals as goal

pub join_all-requires : goal.join_all-requires
join_all-requires c =
    let few = items_few c.args.refs.now c.args.inputs.now c.args.row.now c.as_slice.result.now (c.as_slice.ensures.value ∙ c.in_ok-put_row_items.ensures) in omega (arith, few, c.requires.room)

pub returns-clause-makes : goal.returns-clause-makes
returns-clause-makes c =
    if_ok-weaker c.join_all.result
    (λ r made names of table way known.
    subst (λ part. Makes names c.args.nodes.now.items c.join_all.new.nodes.items r part) (sym (row_joined of table c.args.inputs.now c.args.row.now way))
    (made names table way (map (operand_at of) (row_signals c.args.inputs.now c.args.row.now))
    (c.as_slice.ensures.value ∙ c.in_ok-put_row_items.ensures ∙ items_called of names c.args.refs.now c.args.inputs.now c.args.row.now known c.requires.below)))
    c.join_all.ensures.makes

pub returns-clause-few : goal.returns-clause-few
returns-clause-few c =
    let items = items_few c.args.refs.now c.args.inputs.now c.args.row.now c.as_slice.result.now (c.as_slice.ensures.value ∙ c.in_ok-put_row_items.ensures) in
    if_ok-weaker c.join_all.result (λ r few. omega (arith, few, items)) c.join_all.ensures.few

pub returns-clause-operators : goal.returns-clause-operators
returns-clause-operators c =
    let items = items_few c.args.refs.now c.args.inputs.now c.args.row.now c.as_slice.result.now (c.as_slice.ensures.value ∙ c.in_ok-put_row_items.ensures) in
    if_ok-weaker c.join_all.result (λ r few. omega (arith, few, items)) c.join_all.ensures.operators
