-- Buffered decks of a network are right where their clocks overlap and where all fall together.
use Rattle.domino_cell.specs.declared.style.Style.TheVariants.{Keeper as WithKeeper}
use Rattle.std.proofs.Common.{ap, ap₂, arith, inl, inr, length, length-drop, drop, map, take, refl, subst, sym, ◌++◌, ◌∙◌, ◌≡◌, ◌≤◌}
use Rattle.std.proofs.Math.Seq.{take-append_seam}
use Rattle.blif_read.proofs.AcceptedIsGoodModels.{accepted_file}
use Rattle.deck.specs.CircuitData.{CircuitData}
use Rattle.deck.specs.DeckText.{IsGoodCircuit}
use Rattle.deck.specs.Nets.{IsCircuit}
use Rattle.deck.specs.Ports.{leading_ports}
use Rattle.deck.proofs.DeckCircuits.{IsDeckOf-circuit}
use Rattle.deck.proofs.DeckUnique.{IsDeckOf-unique}
use Rattle.switch_model.specs.LinksData.{links_of}
use Rattle.network.specs.declared.network.NetLatch.{NetLatch}
use Rattle.network.specs.NetworkData.{NetworkData}
use Rattle.network.specs.Networks.{IsNetwork}
use Rattle.net_flatten.proofs.Kept.{network_kept}
use Rattle.port_runs.specs.declared.clocking.Clocking.{Clocking}
use Rattle.port_runs.specs.declared.clocking.Clocking.TheVariants.{Overlapping, Together}
use Rattle.domino_law.specs.DominoDeck.{AreRunsOf, IsLooseDominoDeck}
use Rattle.domino_law.specs.Shape.{IsShape, MayOverlap, Shape, overlapping}
use Rattle.domino_law.proofs.DominoDecks.{domino_deck_overlaps}
use Rattle.deck_form.specs.ChosenDecks.{IsPlannedDeck, end_at_cell}
use Rattle.deck_form.specs.NamedDecks.{IsNamedDeck}
use Rattle.deck_form.specs.AskedOptions.{keeper_options}
use Rattle.deck_form.specs.declared.options.SynthOptions.{SynthOptions}
use Rattle.deck_form.proofs.DeckForms.{length_map}
use Rattle.deck_law.specs.Headline.{IsRightInEveryRun, input_ports, output_ports, roles_of}
use Rattle.deck_law.specs.HonestDecks.{IsHonestDeck}
use Rattle.deck_law.specs.NetNames.{latch_shape}
use Rattle.deck_law.specs.OwnRuns.{DoesNetwork, RunsAsNetwork}
use Rattle.deck_law.proofs.HonestDecks.{honest_network, honest_shape}
use Rattle.deck_law.proofs.NetworkDecks.{network_decks_are_right}
use Rattle.deck_law.proofs.NetworkRuns.{outs_count, planned_runs}
use Rattle.deck_law.proofs.Numbers.{grew, the_net, the_roles, the_shape}
use Rattle.deck_law.proofs.RightDecks.{network_good}
use Rattle.deck_law.proofs.SpelledDecks.{latch_exists, loose_deck}
use Rattle.phase_buffer.specs.BufferedPlans.{plan_cells}
use Rattle.phase_buffer.specs.Buffers.{buffered}
use Rattle.phase_buffer.specs.Chains.{with_chains}
use Rattle.phase_buffer.specs.Laws.{MayBeBuffered, RunsAlike}
use Rattle.phase_buffer.proofs.BufferedRuns.{buffered_runs_alike}
use Rattle.phase_buffer.proofs.BufferedShapes.{buffered_may_overlap}
use Rattle.synth_flow.specs.BufferedDecks.{IsBufferedDeck, new_end, plan_of}
use Rattle.held_law.specs.HeldNets.{HeldNetsHoldTargets}
use Rattle.held_law.proofs.HeldPorts.{decks_hold_targets}
use Rattle.skew_law.specs.Laws.{BufferedDecksAreHonest, BufferedDecksAreRight, BufferedDecksHoldTargets, BufferedTextsAreRight}
use Rattle.skew_law.proofs.PlannedShapes.{pin_count, planned_deck, planned_may_be_buffered, planned_shape}
use Rattle.skew_law.specs.RootPairs.{HaveRootValues}
use Rattle.skew_law.proofs.BufferedCircuits.{HasBufferedShape, has_shape}
use Rattle.skew_law.proofs.DominoForms.{domino_form}
use Rattle.skew_law.proofs.RootValues.{cells_hold, root_values_are}

-- shapes with one own run
as_network : (network : NetworkData) (s t : Shape) → RunsAlike s t → RunsAsNetwork network s → RunsAsNetwork network t
as_network network s t alike runs = record {
  starts = alike.starts ∙ runs.starts;
  cycles = λ pins state fit fits. let c = runs.cycles pins state fit fits in (c.0, c.1, alike.outputs state pins ∙ c.2, alike.nexts state pins ∙ c.3);
}

module _ (network : NetworkData) (options : SynthOptions) (circuit plain : CircuitData) (planned : IsPlannedDeck network (keeper_options options) plain) (net_is : IsNetwork network)
    (some : 1 ≤ options.phases) (few : options.phases ≤ 4) (is : HasBufferedShape network options plain planned circuit) (ok : IsCircuit circuit.ports circuit.nets circuit.devices) where
  abbrev d₀ : IsNamedDeck WithKeeper plain
  d₀ = planned_deck network options plain planned net_is some few

  abbrev s₀ : Shape
  s₀ = planned_shape network options plain planned net_is some few

  abbrev s : Shape
  s = the_shape is.named

  abbrev may : MayBeBuffered s₀
  may = planned_may_be_buffered network options plain planned net_is some few

  overlapping_shape : IsShape (overlapping s)
  overlapping_shape = subst IsShape (sym is.shape_is) (buffered_may_overlap s₀ may)

  may_overlap : MayOverlap s
  may_overlap =
      let o : MayOverlap (overlapping s) = overlapping_shape.overlap refl in
      record { keepers = o.keepers; reads = o.reads; nexts_last = o.nexts_last; outputs_last = o.outputs_last }

  deck : IsLooseDominoDeck (the_roles is.named) (links_of circuit (the_roles is.named)) (the_net is.named) (overlapping s)
  deck = domino_deck_overlaps (the_roles is.named) (links_of circuit (the_roles is.named)) (the_net is.named) s (loose_deck is.named ok) may_overlap

  runs : RunsAsNetwork network (overlapping s)
  runs =
      subst (RunsAsNetwork network) (sym is.shape_is)
      (as_network network s₀ (buffered s₀) (buffered_runs_alike s₀ may) (planned_runs network (keeper_options options) plain planned d₀.complements net_is))

  starts_count : length is.named.starts ≡ length network.latches
  starts_count = ap length is.starts_are ∙ length_map (λ (l : NetLatch). l.init) network.latches

  does : DoesNetwork network circuit (the_roles is.named) (the_net is.named) (overlapping s)
  does = record {
    deck = deck;
    runs = runs;
    pins_are = ap length is.pins_are ∙ pin_count network options plain planned net_is some few;
    outs_are = ap length is.outs_are ∙ outs_count network;
    latch_there = λ j lt. latch_exists (latch_shape (length is.named.pins)) is.named.starts (drop (length is.named.outs) is.named.ends) j
        (omega (arith, length-drop (length is.named.outs) is.named.ends, is.named.one_end)) (omega (arith, lt, starts_count));
    data_are = λ j lt. refl;
    outputs_are = λ j lt. refl;
  }

  roles_same : the_roles is.named ≡ roles_of network options.phases
  roles_same = λ i. record { clocks = is.clocks_are i; pins = (ap length is.pins_are ∙ pin_count network options plain planned net_is some few) i; outs = (ap length is.outs_are ∙ outs_count network) i }

  right_by : (clocking : Clocking) → AreRunsOf (overlapping s) clocking → IsRightInEveryRun clocking network circuit (roles_of network options.phases)
  right_by clocking are =
      subst (IsRightInEveryRun clocking network circuit) roles_same
      (network_decks_are_right clocking network circuit (the_roles is.named) (the_net is.named) (overlapping s) does are)

  pub right : IsRightInEveryRun Overlapping network circuit (roles_of network options.phases)
  right = right_by Overlapping (inr refl)

  pub right_together : IsRightInEveryRun Together network circuit (roles_of network options.phases)
  right_together = right_by Together (inl refl)

  -- its states are honest, and each cell has the bit of its root pair
  pub honest : (states : IsHonestDeck Overlapping WithKeeper network circuit (roles_of network options.phases)) × HaveRootValues network options planned states.shape
  honest =
      subst (λ roles. (states : IsHonestDeck Overlapping WithKeeper network circuit roles) × HaveRootValues network options planned states.shape) roles_same (
        honest_network does refl refl,
        subst (HaveRootValues network options planned) (sym (honest_shape does refl refl ∙ is.shape_is)) (root_values_are network options plain planned net_is some few),
      )

  pub targets : HeldNetsHoldTargets circuit (roles_of network options.phases)
  targets =
      subst (HeldNetsHoldTargets circuit) roles_same
      (decks_hold_targets circuit (the_roles is.named) (the_net is.named) (overlapping s) deck refl)

  pub ports_stand : take circuit.ports circuit.nets ≡ leading_ports options.phases ++ input_ports network ++ output_ports network
  ports_stand =
      let all = leading_ports is.named.clocks ++ is.named.pins ++ is.named.outs in
      ap₂ (λ n l. take n l) (grew WithKeeper circuit is.named).ports (grew WithKeeper circuit is.named).nets ∙ take-append_seam all (grew WithKeeper circuit is.named).more_nets
      ∙ (λ i. leading_ports (is.clocks_are i) ++ (is.pins_are i) ++ (is.outs_are i))

pub buffered_decks_are_right : BufferedDecksAreRight
buffered_decks_are_right network options circuit net_is some few is ok =
    let has = has_shape network options circuit net_is some few is in
    (right network options circuit is.plain is.planned net_is some few has ok, right_together network options circuit is.plain is.planned net_is some few has ok)

pub buffered_decks_are_honest : BufferedDecksAreHonest
buffered_decks_are_honest network options circuit net_is some few is ok =
    (honest network options circuit is.plain is.planned net_is some few (has_shape network options circuit net_is some few is) ok).0

pub buffered_decks_hold_targets : BufferedDecksHoldTargets
buffered_decks_hold_targets network options circuit net_is some few is ok =
    targets network options circuit is.plain is.planned net_is some few (has_shape network options circuit net_is some few is) ok

-- its name and its ports have no byte `=`
pub buffered_good : (network : NetworkData) (options : SynthOptions) (circuit : CircuitData) → options.phases ≤ 4
    → IsBufferedDeck network options circuit → IsGoodCircuit circuit
buffered_good network options circuit few is =
    let ends = map (end_at_cell is.planned.kept) is.planned.forest.ends in
    let p = plan_of network options.phases is.planned.trees is.planned.levels ends in
    subst IsGoodCircuit (sym is.circuit_is)
    (network_good WithKeeper network options.phases (with_chains (plan_cells p) 0 p.cells) is.planned.signs (map (new_end p) ends) few)

pub buffered_texts_are_right : BufferedTextsAreRight
buffered_texts_are_right blif deck options file network circuit is_file is_network some few is reads_back =
    let ok = IsDeckOf-circuit deck circuit reads_back in
    let net_is = network_kept file network (accepted_file blif file is_file) is_network in
    let has = has_shape network options circuit net_is some few is in
    let states = honest network options circuit is.plain is.planned net_is some few has ok in
    record {
      file = file;
      is_file = is_file;
      network = network;
      is_network = is_network;
      circuit = circuit;
      reads_back = reads_back;
      no_other = λ other is_other. IsDeckOf-unique deck other circuit is_other reads_back;
      is_deck = is;
      form = domino_form network options circuit net_is some few is;
      ports = ports_stand network options circuit is.plain is.planned net_is some few has ok;
      honest = states.0;
      overlaps = (states.0).honest.deck.spelled.shape.overlap (states.0).clocks_fall;
      roots = states.1;
      held = cells_hold network options circuit is.plain is.planned states.0 states.1;
      targets = targets network options circuit is.plain is.planned net_is some few has ok;
      right = right network options circuit is.plain is.planned net_is some few has ok;
      right_together = right_together network options circuit is.plain is.planned net_is some few has ok;
    }
