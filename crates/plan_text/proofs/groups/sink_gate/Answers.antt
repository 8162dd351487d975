use Rattle.std.proofs.Common.{◌<◌, length, ap, sym, ◌∙◌, subst, arith}
use Rattle.deck_form.specs.ChosenDecks.{end_at_cell}
use Rattle.deck_form.specs.DeckNets.{dynamic_net, output_net, sink_gate}
use Rattle.dual_rail.specs.Uses.{IsEndThere}
use Rattle.tree_map.proofs.ArmTrees.{cell_at, length-cells}
use Rattle.plan_text.proofs.groups.sink_gate.Goals as goal

pub returns-in-FromDynamic : goal.returns-in-FromDynamic
returns-in-FromDynamic c = λ kept same.
    let place = c.in-FromDynamic.place in
    let low : place < length c.args.cells.now = subst (IsEndThere (length c.args.cells.now)) c.in-FromDynamic.is c.requires in
    let there : place < length kept = omega (arith, low, ap length same, length-cells kept) in
    c.numbered.ensures ∙ ap dynamic_net (cell_at kept c.args.cells.now place same there)
    ∙ ap (λ e. sink_gate c.args.pins.now (end_at_cell kept e)) (sym c.in-FromDynamic.is)

pub returns-in-FromOutput : goal.returns-in-FromOutput
returns-in-FromOutput c = λ kept same.
    let place = c.in-FromOutput.place in
    let low : place < length c.args.cells.now = subst (IsEndThere (length c.args.cells.now)) c.in-FromOutput.is c.requires in
    let there : place < length kept = omega (arith, low, ap length same, length-cells kept) in
    c.numbered-in-FromOutput.ensures ∙ ap output_net (cell_at kept c.args.cells.now place same there)
    ∙ ap (λ e. sink_gate c.args.pins.now (end_at_cell kept e)) (sym c.in-FromOutput.is)
