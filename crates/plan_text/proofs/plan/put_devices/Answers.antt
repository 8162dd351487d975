use Rattle.std.proofs.Common.{◌≡◌, ◌+◌, List, ◌++◌, All, length, map, zip, ap, sym, ◌∙◌, subst, arith}
use Rattle.std.specs.List.{enumerate_from}
use Rattle.deck_form.specs.ChosenDecks.{end_at_cell}
use Rattle.deck_form.specs.DeckNets.{named_cell, named_complement, named_latch, named_sink, sink_nets}
use Rattle.deck_form.specs.DominoDecks.{cells_of}
use Rattle.dual_rail.specs.ForestData.{ForestData}
use Rattle.dual_rail.specs.Uses.{IsEndThere}
use Rattle.dual_rail.specs.declared.forest.End.{End}
use Rattle.tree_map.proofs.ArmTrees.{length-cells}
use Rattle.plan_text.specs.DeviceTexts.{with_groups}
use Rattle.plan_text.proofs.DeviceTexts.{then_groups}
use Rattle.plan_text.proofs.SinkLoops.{ends_have_cells}
use Rattle.plan_text.proofs.plan.put_devices.Goals as goal

pub put_latches-requires : goal.put_latches-requires
put_latches-requires c = omega (arith, c.requires.leaves, c.requires.forest.few_leaves)

pub put_sinks-requires-clause-few : goal.put_sinks-requires-clause-few
put_sinks-requires-clause-few c =
    let ends = c.as_slice.ensures.value ∙ ap (λ (f : ForestData). f.ends) c.forest.view_is in
    omega (arith, ap length ends, c.requires.forest.few_ends)

pub put_sinks-requires-clause-ends : goal.put_sinks-requires-clause-ends
put_sinks-requires-clause-ends c =
    let ends = c.as_slice.ensures.value ∙ ap (λ (f : ForestData). f.ends) c.forest.view_is in
    let total : length c.args.deck.now.cover.cells.now ≡ length c.args.deck.now.cover.forest.now.pairs = ap length c.requires.cells ∙ length-cells c.args.deck.now.cover.kept.now ∙ c.requires.one_each in
    subst (λ (l : List End). All (IsEndThere (length c.args.deck.now.cover.cells.now)) l) (sym ends)
    (ends_have_cells c.args.deck.now.cover.forest.now (length c.args.deck.now.cover.cells.now) total c.requires.forest.in_place.has_ends)

pub returns : goal.returns
returns c = λ trees are.
    let pins = c.args.deck.now.cover.pins.now in
    let outs = c.args.deck.now.outs.now in
    let starts = c.args.deck.now.starts.now in
    let kept = c.args.deck.now.cover.kept.now in
    let forest = c.args.deck.now.cover.forest.now in
    let old = c.args.cards.now in
    let plans = cells_of c.args.deck.now.phases c.args.deck.now.levels.now trees in
    let ends = c.as_slice.ensures.value ∙ ap (λ (f : ForestData). f.ends) c.forest.view_is in
    let cells = map (named_cell c.args.deck.now.style pins (length pins + length starts)) (enumerate_from 0 plans) in
    let complements = map (named_complement pins) c.args.deck.now.complements.now in
    let latches = map named_latch (enumerate_from 0 starts) in
    let sinks = map (named_sink pins) (zip (sink_nets outs starts) (map (end_at_cell kept) forest.ends)) in
    let first = c.in_ok-put_cells.ensures trees are ∙ ap (λ n. with_groups old (map (named_cell c.args.deck.now.style pins n) (enumerate_from 0 plans))) c.requires.leaves in
    let last = c.in_ok-put_sinks.ensures kept starts c.requires.cells (ap length ends ∙ c.requires.ends)
    ∙ ap (λ (l : List End). with_groups c.put_latches.new.cards (map (named_sink pins) (zip (sink_nets outs starts) (map (end_at_cell kept) l)))) ends in
    then_groups old c.put_latches.new.cards c.put_sinks.new.cards (cells ++ complements ++ latches) sinks
    (then_groups old c.put_complements.new.cards c.put_latches.new.cards (cells ++ complements) latches
    (then_groups old c.put_cells.new.cards c.put_complements.new.cards cells complements first c.in_ok-put_complements.ensures)
    c.in_ok-put_latches.ensures) last
