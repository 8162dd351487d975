use Rattle.std.proofs.Common.{[], ◌∷◌, ap, sym, ◌∙◌}
use Rattle.deck_form.specs.DeckNets.{named_gate}
use Rattle.dom_base.specs.declared.kind.Kind.TheVariants.{N as nch}
use Rattle.domino_cell.specs.Cell.{inverter}
use Rattle.domino_cell.specs.Spelling.{spell}
use Rattle.sp_network.proofs.TreeImages.{inner_count-map_tree}
use Rattle.plan_text.specs.DeviceTexts.{with_put}
use Rattle.plan_text.specs.PutCells.{digits_cell, netted, precharge_cards}
use Rattle.plan_text.proofs.CellLoops.{cell_cards}
use Rattle.plan_text.proofs.cells.put_cell.Goals as goal

pub returns : goal.returns
returns c = λ tree is.
    let nets = digits_cell c.args.clock c.args.digits.now in
    let pins = c.args.cover.now.pins.now in
    let leaves = c.args.cover.now.forest.now.leaves in
    let over = netted pins leaves tree in
    let old = c.args.cards.now in
    let dynamic = c.of_cell-dynamic.ensures in
    let foot = c.of_cell-foot.ensures in
    let vss = c.fixed-vss.ensures in
    let clock = c.numbered.ensures in
    let vdd = c.fixed.ensures in
    let output = c.of_cell.ensures in
    cell_cards c.args.style nets over old c.put_precharge.new.cards c.put_pair.new.cards c.put.new.self c.put_inverter.new.self
    (c.in_ok-put_precharge.ensures tree is
    ∙ ap (λ n. with_put old (precharge_cards c.args.style nets n)) (sym (inner_count-map_tree (named_gate pins leaves) tree)))
    (c.in_ok-put_pair.ensures.cards tree is ∙ (λ i. with_put c.put_precharge.new.cards (spell nch nets.inner over (dynamic i) (foot i) 0)))
    (c.in_ok-put.ensures ∙ (λ i. with_put c.put_pair.new.cards (record { kind = nch; drain = foot i; gate = clock i; source = vss i } ∷ [])))
    (c.in_ok-put_inverter.ensures ∙ (λ i. with_put c.put.new.self (inverter (vdd i) (vss i) (dynamic i) (output i))))
