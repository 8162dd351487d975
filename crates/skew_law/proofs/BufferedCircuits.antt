-- The circuit of a planned deck's plan with chains of buffers is a buffered deck of the network.
use Rattle.domino_cell.specs.declared.style.Style.TheVariants.{Keeper as WithKeeper}
use Rattle.std.specs.Prelude.{List, map, ℕ, ◌≡◌, ◌≤◌}
use Rattle.std.proofs.Common.{refl, subst, sym}
use Rattle.deck.specs.CircuitData.{CircuitData}
use Rattle.deck.specs.Escapes.{escaped}
use Rattle.deck.specs.NamedDevices.{NamedDevice, with_devices}
use Rattle.deck.specs.Pushes.{new_circuit}
use Rattle.network.specs.NetworkData.{NetworkData}
use Rattle.network.specs.Networks.{IsNetwork}
use Rattle.deck_form.specs.ChosenDecks.{IsPlannedDeck, end_at_cell}
use Rattle.deck_form.specs.DeckNets.{CellPlan, SinkEnd, named_devices}
use Rattle.deck_form.specs.DominoDecks.{cells_of, complements_of, outs_of, phases_of_sinks, pins_of, starts_of}
use Rattle.deck_form.specs.NamedDecks.{IsNamedDeck}
use Rattle.deck_form.specs.AskedOptions.{keeper_options}
use Rattle.deck_form.specs.declared.options.SynthOptions.{SynthOptions}
use Rattle.deck_form.proofs.DeckForms.{named_cards}
use Rattle.phase_buffer.specs.Laws.{MayBeBuffered}
use Rattle.phase_buffer.specs.Buffers.{buffered}
use Rattle.domino_law.specs.Shape.{overlapping}
use Rattle.deck_law.specs.NetNames.{deck_shape}
use Rattle.deck_law.proofs.Numbers.{the_shape}
use Rattle.phase_buffer.specs.BufferedPlans.{DeckPlan, plan_cells}
use Rattle.phase_buffer.specs.Chains.{with_chains}
use Rattle.synth_flow.specs.BufferedDecks.{IsBufferedDeck, buffered_circuit, cells_taken, new_end, plan_of}
use Rattle.skew_law.proofs.NamedPlans.{complements_same, named_deck, the_plan, the_shape_same}
use Rattle.skew_law.proofs.PlannedShapes.{leaves_are, planned_deck, planned_may_be_buffered}

-- the shape is that of a planned deck but for its chains of buffers
pub record HasBufferedShape (network : NetworkData) (options : SynthOptions) (plain : CircuitData) (planned : IsPlannedDeck network (keeper_options options) plain)
    (circuit : CircuitData) : Type 0 where
  pub named : IsNamedDeck WithKeeper circuit
  pub clocks_are : named.clocks ≡ options.phases
  pub pins_are : named.pins ≡ pins_of network
  pub outs_are : named.outs ≡ outs_of network
  pub starts_are : named.starts ≡ starts_of network
  pub shape_is : overlapping (deck_shape WithKeeper named.clocks named.pins named.outs named.starts named.cells named.complements named.ends)
      ≡ buffered (deck_shape WithKeeper options.phases (pins_of network) (outs_of network) (starts_of network) (cells_of options.phases planned.levels planned.trees)
      (complements_of network (cells_of options.phases planned.levels planned.trees) (map (end_at_cell planned.kept) planned.forest.ends))
      (map (end_at_cell planned.kept) planned.forest.ends))

module _ (network : NetworkData) (options : SynthOptions) (plain : CircuitData) (planned : IsPlannedDeck network (keeper_options options) plain) (net_is : IsNetwork network)
    (some : 1 ≤ options.phases) (few : options.phases ≤ 4) where
  abbrev d : IsNamedDeck WithKeeper plain
  d = planned_deck network options plain planned net_is some few

  abbrev may : MayBeBuffered (the_shape d)
  may = planned_may_be_buffered network options plain planned net_is some few

  abbrev ends : List SinkEnd
  ends = map (end_at_cell planned.kept) planned.forest.ends

  abbrev cells : List CellPlan
  cells = cells_of options.phases planned.levels planned.trees

  abbrev p : DeckPlan
  p = plan_of network options.phases planned.trees planned.levels ends

  abbrev circuit : CircuitData
  circuit = buffered_circuit network options.phases planned.signs ends p

  pub plan_same : p ≡ the_plan plain d may
  plan_same = λ i. record { leaves = sym (leaves_are network options plain planned net_is some few) i; clocks = options.phases; cells = cells; sinks = cells_taken ends }

  abbrev bare : CircuitData
  bare = new_circuit (escaped network.name) (phases_of_sinks network planned.signs) options.phases (pins_of network) (outs_of network)

  abbrev cards : List (NamedDevice (List ℕ))
  cards =
      named_devices WithKeeper (pins_of network) (outs_of network) (starts_of network) (with_chains (plan_cells p) 0 cells)
      (complements_of network (with_chains (plan_cells p) 0 cells) (map (new_end p) ends)) (map (new_end p) ends)

  circuit_is : circuit ≡ with_devices (new_circuit circuit.name circuit.phases d.clocks d.pins d.outs)
      (named_devices WithKeeper d.pins d.outs d.starts (with_chains (plan_cells (the_plan plain d may)) 0 d.cells) d.complements (map (new_end (the_plan plain d may)) d.ends))
  circuit_is = λ i. with_devices (new_circuit (sym (named_cards bare cards).0 i) (sym (named_cards bare cards).1 i) options.phases (pins_of network) (outs_of network))
      (named_devices WithKeeper (pins_of network) (outs_of network) (starts_of network) (with_chains (plan_cells (plan_same i)) 0 cells) (complements_same p ends i) (map (new_end (plan_same i)) ends))

  pub buffered_shape : HasBufferedShape network options plain planned circuit
  buffered_shape = record {
    named = named_deck plain d may circuit circuit_is;
    clocks_are = refl;
    pins_are = refl;
    outs_are = refl;
    starts_are = refl;
    shape_is = the_shape_same plain d may;
  }

pub has_shape : (network : NetworkData) (options : SynthOptions) (circuit : CircuitData) → IsNetwork network → 1 ≤ options.phases → options.phases ≤ 4
    → (is : IsBufferedDeck network options circuit) → HasBufferedShape network options is.plain is.planned circuit
has_shape network options circuit net_is some few is =
    subst (HasBufferedShape network options is.plain is.planned) (sym is.circuit_is) (buffered_shape network options is.plain is.planned net_is some few)
