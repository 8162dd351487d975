use Rattle.std.proofs.Common.{[], ◌∙◌, ap, arith, length, subst, sym}
use Rattle.std.proofs.lemmas.List.Elements.{recursion_from_All}
use Rattle.deck.specs.CircuitData.{CircuitData}
use Rattle.deck.specs.NamedDevices.{with_devices}
use Rattle.deck.specs.Nets.{net_name}
use Rattle.deck.specs.Ports.{IsOutput, IsPin}
use Rattle.synth_flow.specs.MadeDecks.{HasRoomForCells}
use Rattle.synth_flow.proofs.BareDecks.{room_for_cells}
use Rattle.compound_flow.specs.MadeCells.{HaveGates, named_cells, plain_cells}
use Rattle.compound_flow.proofs.DeckGroups.{have_gates}
use Rattle.compound_flow.proofs.cells.push_deck_cells.Goals as goal

pub push_cells-requires-clause-nets : goal.push_cells-requires-clause-nets
push_cells-requires-clause-nets c =
    let bare = c.requires.bare.2 in
    subst (λ (d : CircuitData). HasRoomForCells d []) (sym bare.circuit_is)
    (room_for_cells bare.name bare.phases bare.clocks c.args.pins.now bare.outs [] bare.few_clocks (recursion_from_All IsPin c.args.pins.now bare.pins_are)
    (recursion_from_All IsOutput bare.outs bare.outs_are) tt)

pub push_cells-requires-clause-gates : goal.push_cells-requires-clause-gates
push_cells-requires-clause-gates c =
    let bare = c.requires.bare.2 in
    subst (λ names. HaveGates names 0 (plain_cells c.args.plans.now)) (sym (c.as_slice.ensures.value ∙ c.in_ok-gates.ensures))
    (have_gates c.args.pins.now c.args.leaves c.requires.few (recursion_from_All IsPin c.args.pins.now bare.pins_are) c.args.plans.now c.requires.plans)

pub push_cells-requires-clause-room : goal.push_cells-requires-clause-room
push_cells-requires-clause-room c =
    let none = ap (λ (d : CircuitData). length d.devices) c.requires.bare.2.circuit_is in
    omega (arith, none, c.requires.plans.cheap)

pub returns : goal.returns
returns c =
    c.in_ok-push_cells.ensures
    ∙ ap (λ names. with_devices c.args.circuit.now (named_cells (net_name names) 0 (plain_cells c.args.plans.now))) (c.as_slice.ensures.value ∙ c.in_ok-gates.ensures)
