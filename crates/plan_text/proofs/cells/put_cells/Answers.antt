use Rattle.std.proofs.Common.{◌≡◌, ◌<◌, length, get_or, map, take, ap, ◌∙◌, arith}
use Rattle.std.specs.Fmt.{decimal}
use Rattle.std.specs.List.{enumerate_from}
use Rattle.std.proofs.lemmas.List.{take_all}
use Rattle.std.proofs.lemmas.Option.{slice_get-get_or}
use Rattle.clock_phase.specs.Levels.{clock_of}
use Rattle.clock_phase.proofs.Levels.{level_at_most}
use Rattle.deck_form.specs.DeckNets.{named_cell}
use Rattle.deck_form.specs.DominoDecks.{cells_of}
use Rattle.domino_cell.specs.StyledCells.{styled_cell}
use Rattle.plan_text.specs.DeviceTexts.{with_groups, with_put}
use Rattle.plan_text.specs.PutCells.{digits_cell, netted}
use Rattle.plan_text.proofs.CellLoops.{cell_total, few_places, next_cell, root_has_room, root_is_there, trees_total}
use Rattle.plan_text.proofs.cells.put_cells.Goals as goal

pub clock_of_level-clock-requires-clause-within : goal.clock_of_level-clock-requires-clause-within
clock_of_level-clock-requires-clause-within c =
    let levels = c.args.deck.now.levels.now in
    let low : c.cells.k < length levels = omega (arith, c.cells-test.true, c.requires.levels) in
    omega (arith, level_at_most levels c.cells.k (get_or levels c.cells.k 0) (slice_get-get_or levels c.cells.k 0 low), c.requires.top)

pub overflow_cast-k : goal.overflow_cast-k
overflow_cast-k c =
    omega (arith, c.cells-test.true, few_places c.args.deck.now.cover.kept.now c.args.deck.now.places.now c.requires.places, c.requires.one_each, c.requires.forest.few_pairs)

pub put_cell-requires-clause-there : goal.put_cell-requires-clause-there
put_cell-requires-clause-there c =
    root_is_there c.args.deck.now.cover.forest.now c.args.deck.now.cover.kept.now c.args.deck.now.places.now c.requires.places c.cells.k c.cells-test.true c.requires.one_each

pub put_cell-requires-clause-room : goal.put_cell-requires-clause-room
put_cell-requires-clause-room c =
    root_has_room c.args.deck.now.cover.forest.now c.args.deck.now.cover.kept.now c.args.deck.now.places.now c.requires.places c.cells.k c.cells-test.true c.requires.trees

pub cells-preserved : goal.cells-preserved
cells-preserved c =
    let style = c.args.deck.now.style in
    let pins = c.args.deck.now.cover.pins.now in
    let leaves = c.args.deck.now.cover.forest.now.leaves in
    let digits : c.as_bytes-digits.result.now ≡ decimal c.cells.k = c.as_bytes-digits.ensures.value ∙ c.format.ensures.text in
    let clock = c.clock_of_level-clock.ensures ∙ ap (λ t. clock_of c.args.deck.now.phases t (get_or c.args.deck.now.levels.now c.cells.k 0)) c.requires.top in
    λ trees are.
    next_cell c.args.deck.now.cover.forest.now c.args.deck.now.cover.kept.now c.args.deck.now.places.now c.requires.places c.cells.k c.cells-test.true c.args.deck.now.style
    c.args.deck.now.phases c.clock_of_level-clock.result c.args.deck.now.cover.pins.now c.args.deck.now.levels.now c.args.cards.now c.cells.cards c.put_cell.new.cards c.end_group.new.self
    c.requires.levels clock trees are (c.cells.invariant trees are)
    (λ tree is. c.in_ok-put_cell.ensures tree is ∙ ap (λ d. with_put c.cells.cards (styled_cell style (digits_cell c.clock_of_level-clock.result d) (netted pins leaves tree))) digits) c.in_ok-end_group.ensures

pub returns : goal.returns
returns c = λ trees are.
    let cells = cells_of c.args.deck.now.phases c.args.deck.now.levels.now trees in
    let total = trees_total c.args.deck.now.cover.forest.now c.args.deck.now.cover.kept.now c.args.deck.now.places.now c.requires.places trees are in
    let count = cell_total c.args.deck.now.phases c.args.deck.now.levels.now trees (omega (arith, c.requires.levels, total)) in
    let all : take c.cells.k cells ≡ cells = take_all c.cells.k cells (omega (arith, count, c.requires.levels, c.cells-test.false)) in
    c.cells.invariant trees are
    ∙ ap (λ l. with_groups c.args.cards.now (map (named_cell c.args.deck.now.style c.args.deck.now.cover.pins.now c.args.deck.now.cover.forest.now.leaves) (enumerate_from 0 l))) all
