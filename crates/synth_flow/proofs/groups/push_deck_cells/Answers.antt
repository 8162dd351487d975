use Rattle.std.proofs.Common.{◌≤◌, ap, arith, subst, sym, ◌∙◌}
use Rattle.std.proofs.lemmas.List.Elements.{recursion_from_All}
use Rattle.deck.specs.CircuitData.{CircuitData}
use Rattle.deck.specs.NamedDevices.{with_devices}
use Rattle.deck.specs.Ports.{IsOutput, IsPin}
use Rattle.sp_network.specs.declared.plan.GatePlan.{GatePlan}
use Rattle.synth_flow.specs.MadeDecks.{AreGated, HasRoomForCells, cells_from}
use Rattle.synth_flow.proofs.BareDecks.{are_gated, room_for_cells}
use Rattle.synth_flow.proofs.groups.push_deck_cells.Goals as goal

pub push_cells-requires-clause-nets : goal.push_cells-requires-clause-nets
push_cells-requires-clause-nets c =
    let bare = c.requires.bare.2 in
    let plans = c.args.plans.now in
    subst (λ (d : CircuitData). HasRoomForCells d plans) (sym bare.circuit_is)
    (room_for_cells bare.name bare.phases bare.clocks c.args.pins.now bare.outs plans bare.few_clocks (recursion_from_All IsPin c.args.pins.now bare.pins_are)
    (recursion_from_All IsOutput bare.outs bare.outs_are) (recursion_from_All (λ (p : GatePlan). (1 ≤ p.clock) × (p.clock ≤ bare.clocks)) plans bare.clocks_are))

pub push_cells-requires-clause-gates : goal.push_cells-requires-clause-gates
push_cells-requires-clause-gates c =
    let bare = c.requires.bare.2 in
    subst (λ names. AreGated names 0 c.args.plans.now) (sym (c.as_slice.ensures.value ∙ c.in_ok-gates.ensures))
    (are_gated c.args.pins.now c.args.leaves c.args.plans.now (omega (arith, c.requires.plans.few)) (recursion_from_All IsPin c.args.pins.now bare.pins_are) c.requires.plans.earlier)

pub returns : goal.returns
returns c =
    c.in_ok-push_cells.ensures
    ∙ ap (λ names. with_devices c.args.circuit.now (cells_from c.args.style names 0 c.args.plans.now)) (c.as_slice.ensures.value ∙ c.in_ok-gates.ensures)
