-- A planned deck with compound cells is right in every run.
use Rattle.std.specs.Prelude.{All}
use Rattle.std.specs.List.{range_with_len}
use Rattle.std.proofs.Common.{◌≡◌, ℕ, ◌≤◌, ◌++◌, ◌∙◌, List, ap₂, arith, inl, length, map, refl, subst, sym, take}
use Rattle.std.proofs.Math.Seq.{take-append_seam}
use Rattle.dom_base.proofs.Lists.{slice_get-there}
use Rattle.blif_read.proofs.AcceptedIsGoodModels.{accepted_file}
use Rattle.deck.specs.CircuitData.{CircuitData}
use Rattle.deck.specs.CircuitGrowth.{Grew}
use Rattle.deck.specs.DeckText.{HasNoEquals, IsGoodCircuit}
use Rattle.deck.specs.Escapes.{escaped}
use Rattle.deck.specs.NamedDevices.{map_device}
use Rattle.deck.specs.Nets.{IsCircuit}
use Rattle.deck.specs.Ports.{leading_ports}
use Rattle.deck.specs.Pushes.{new_circuit}
use Rattle.deck.specs.PortLayout.{source_count}
use Rattle.deck.specs.declared.device.Device.{Device}
use Rattle.deck.specs.declared.role.Roles.{Roles}
use Rattle.deck.proofs.CircuitGrowth.{with_devices-grew}
use Rattle.deck.proofs.DeckCircuits.{IsDeckOf-circuit}
use Rattle.deck.proofs.DeckUnique.{IsDeckOf-unique}
use Rattle.spice_text.proofs.ReadBack.{read_back}
use Rattle.network.specs.NetworkData.{NetworkData}
use Rattle.network.specs.Networks.{IsNetwork}
use Rattle.net_flatten.proofs.Kept.{network_kept}
use Rattle.switch_model.specs.LinksData.{is_first, links_of}
use Rattle.gate_decompose.specs.Sinks.{leaf_count}
use Rattle.port_runs.specs.Environment.{World}
use Rattle.port_runs.specs.declared.clocking.Clocking.TheVariants.{Together}
use Rattle.port_runs.specs.Periods.{vdd_port, vss_port}
use Rattle.domino_cell.specs.declared.style.Style.TheVariants.{Precharge as WithPrecharge}
use Rattle.domino_law.specs.DominoDeck.{IsLooseDominoDeck}
use Rattle.domino_law.specs.Joins.{IsContest}
use Rattle.domino_law.specs.Nets.{Net}
use Rattle.domino_law.specs.Shape.{Shape}
use Rattle.domino_law.specs.Spelled.{shape_cards}
use Rattle.domino_law.proofs.OrderLaws.{no_contest_with_precharge}
use Rattle.domino_law.proofs.PortLaws.{contest_is, loose}
use Rattle.deck_form.specs.DeckNets.{named_devices}
use Rattle.deck_form.specs.DominoDecks.{complements_of, outs_of, phases_of_sinks, pins_of, starts_of}
use Rattle.deck_form.specs.NamedDecks.{IsEndIn}
use Rattle.deck_form.proofs.DeckForms.{length_map}
use Rattle.deck_law.specs.Headline.{IsRightInEveryRun, input_ports, output_ports, roles_of}
use Rattle.deck_law.specs.HonestDecks.{IsHonestDeck}
use Rattle.deck_law.specs.NetNames.{deck_name, numbering}
use Rattle.deck_law.specs.OwnRuns.{DoesNetwork}
use Rattle.deck_law.proofs.HonestDecks.{honest_network}
use Rattle.deck_law.proofs.NetworkDecks.{network_decks_are_right}
use Rattle.deck_law.proofs.NetworkRuns.{outs_count}
use Rattle.deck_law.proofs.OwnRun.{range_length}
use Rattle.deck_law.proofs.RightDecks.{planned_good as whole_good}
use Rattle.compound_cell.specs.CompoundCells.{whole_tree}
use Rattle.compound_law.specs.CompoundDecks.{IsDominoDeck, IsPlannedDeck, planned, whole_cells}
use Rattle.compound_law.specs.Laws.{AreByteNames, ChosenTextsAreRight, PlannedCircuitsAreHonest, PlannedDecksAreRight, PlannedTextsAreRight}
use Rattle.compound_law.proofs.LeastDecks.{chosen_decks_are_least}
use Rattle.compound_law.proofs.LooseDecks.{latch_count, loose_deck, the_roles}
use Rattle.compound_law.proofs.PlannedShapes.{ends, runs, the_shape, whole_deck}
use Rattle.compound_law.proofs.WholePlans.{whole_circuit, whole_options, whole_planned}

module _ (network : NetworkData) (w h phases : ℕ) (circuit : CircuitData) (is : IsPlannedDeck network w h phases circuit)
    (net_is : IsNetwork network) (bytes : AreByteNames network.names) (some : 1 ≤ phases) (few : phases ≤ 4)
    (ok : IsCircuit circuit.ports circuit.nets circuit.devices) where
  abbrev s : Shape
  s = the_shape network w h phases circuit is net_is

  abbrev net : Net → ℕ
  net = numbering circuit.nets (pins_of network) (outs_of network)

  abbrev roles : Roles
  roles = the_roles network w h phases circuit is net_is bytes some few ok

  pin_count : length (pins_of network) ≡ network.inputs
  pin_count = length_map _ (range_with_len 0 network.inputs) ∙ range_length 0 network.inputs

  roles_same : roles ≡ roles_of network phases
  roles_same = λ i. record { clocks = phases; pins = pin_count i; outs = outs_count network i }

  deck : IsLooseDominoDeck roles (links_of circuit roles) net s
  deck = loose_deck network w h phases circuit is net_is bytes some few ok

  does : DoesNetwork network circuit roles net s
  does = record {
    deck = deck;
    runs = runs network w h phases circuit is net_is;
    pins_are = pin_count;
    outs_are = outs_count network;
    latch_there = λ j lt. slice_get-there s.latches j (omega (arith, lt, latch_count network w h phases circuit is net_is bytes some few ok));
    data_are = λ j lt. refl;
    outputs_are = λ j lt. refl;
  }

  pub right : IsRightInEveryRun Together network circuit (roles_of network phases)
  right = subst (IsRightInEveryRun Together network circuit) roles_same (network_decks_are_right Together network circuit roles net s does (inl refl))

  pub honest : IsHonestDeck Together WithPrecharge network circuit (roles_of network phases)
  honest = subst (IsHonestDeck Together WithPrecharge network circuit) roles_same (honest_network does refl refl)

  pub never_joins : (v : World) (p : List Device) → IsContest circuit.devices (is_first (source_count (roles_of network phases))) v.values vdd_port vss_port p → ⊥
  never_joins v p k =
      no_contest_with_precharge (links_of circuit roles) net s v.values p (loose circuit roles net s deck) refl
      (contest_is circuit roles net s deck v p (subst (λ r. IsContest circuit.devices (is_first (source_count r)) v.values vdd_port vss_port p) (sym roles_same) k))

  pub is_domino : IsDominoDeck network w h phases circuit
  is_domino =
      let d = whole_deck network w h phases circuit is net_is some few in
      record {
        cells = is.cells;
        levels = is.levels;
        signs = is.signs;
        ends = ends network w h phases circuit is net_is;
        some_clock = some;
        few_clocks = few;
        within = is.is_plan.within;
        levels_are = is.levels_are;
        reads_below = d.reads_below;
        one_sign = d.one_sign;
        signs_are = d.signs_are;
        ends_are = subst (λ n. All (IsEndIn (leaf_count network) n) (ends network w h phases circuit is net_is)) (length_map whole_tree is.cells) d.ends_are;
        circuit_is = is.circuit_is;
      }

-- the ports of a planned deck, and the bytes of its name and its ports: those of the deck of whole trees
module _ (network : NetworkData) (w h phases : ℕ) (circuit : CircuitData) (is : IsPlannedDeck network w h phases circuit) (net_is : IsNetwork network) where
  abbrev bare : CircuitData
  bare = new_circuit (escaped network.name) (phases_of_sinks network is.signs) phases (pins_of network) (outs_of network)

  grew : Grew bare circuit
  grew =
      subst (Grew bare) (sym is.circuit_is)
      (with_devices-grew bare (map (map_device (deck_name (pins_of network) (outs_of network))) (shape_cards (the_shape network w h phases circuit is net_is))))

  whole_grew : Grew bare (whole_circuit network w h phases circuit is)
  whole_grew =
      let plans = whole_cells phases is.levels is.cells in
      let taken = ends network w h phases circuit is net_is in
      with_devices-grew bare (named_devices WithPrecharge (pins_of network) (outs_of network) (starts_of network) plans (complements_of network plans taken) taken)

  ports_kept : {c : CircuitData} → Grew bare c → take c.ports c.nets ≡ leading_ports phases ++ input_ports network ++ output_ports network
  ports_kept g = ap₂ (λ n l. take n l) g.ports g.nets ∙ take-append_seam (leading_ports phases ++ pins_of network ++ outs_of network) g.more_nets

  pub ports_stand : take circuit.ports circuit.nets ≡ leading_ports phases ++ input_ports network ++ output_ports network
  ports_stand = ports_kept grew

  pub planned_good : phases ≤ 4 → IsGoodCircuit circuit
  planned_good few =
      let whole = whole_good network (whole_options network w h phases circuit is) (whole_circuit network w h phases circuit is) (whole_planned network w h phases circuit is) few in
      record {
        name_good = subst HasNoEquals (whole_grew.name ∙ sym grew.name) whole.name_good;
        ports_good = subst (All HasNoEquals) (ports_kept whole_grew ∙ sym (ports_kept grew)) whole.ports_good;
      }

pub planned_circuits_are_honest : PlannedCircuitsAreHonest
planned_circuits_are_honest = λ network w h phases circuit is net_is bytes some few ok. honest network w h phases circuit is net_is bytes some few ok

pub planned_decks_are_right : PlannedDecksAreRight
planned_decks_are_right = λ blif deck w h phases file network circuit is_file is_network bytes some few is reads_back.
    let ok = IsDeckOf-circuit deck circuit reads_back in
    let net_is = network_kept file network (accepted_file blif file is_file) is_network in
    record {
      file = file;
      is_file = is_file;
      network = network;
      is_network = is_network;
      circuit = circuit;
      reads_back = reads_back;
      no_other = λ other is_other. IsDeckOf-unique deck other circuit is_other reads_back;
      is_deck = is_domino network w h phases circuit is net_is bytes some few ok;
      ports = ports_stand network w h phases circuit is net_is;
      right = right network w h phases circuit is net_is bytes some few ok;
      honest = honest network w h phases circuit is net_is bytes some few ok;
      never_joins = never_joins network w h phases circuit is net_is bytes some few ok;
    }

pub planned_texts_are_right : PlannedTextsAreRight
planned_texts_are_right = λ blif deck w h phases file network circuit is_file is_network bytes some few is ok names written.
    let net_is = network_kept file network (accepted_file blif file is_file) is_network in
    planned_decks_are_right blif deck w h phases file network circuit is_file is_network bytes some few is
    (read_back circuit deck (record { is = ok; names = names; good = planned_good network w h phases circuit is net_is few }) written)

pub chosen_texts_are_right : ChosenTextsAreRight
chosen_texts_are_right = λ blif deck w h phases file network circuit is_file is_network bytes some few is ok names written. (
  planned_texts_are_right blif deck w h phases file network circuit is_file is_network bytes some few (planned is) ok names written,
  chosen_decks_are_least network w h phases circuit (network_kept file network (accepted_file blif file is_file) is_network) is,
)
