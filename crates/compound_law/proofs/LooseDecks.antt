-- A planned deck is a loose domino deck by numbers: its ports stand in order, and the numbers in the names of its nets are small.
use Rattle.std.specs.Prelude.{All, nat_eq, slice_index_or, ◌^◌}
use Rattle.std.specs.List.{IsDistinct, range_with_len}
use Rattle.std.specs.Cmp.Lexicographic.{pointwise}
use Rattle.std.proofs.Common.{◌≡◌, ℕ, ◌+◌, ◌<◌, ◌≤◌, ◌++◌, ◌∙◌, List, [], ap, arith, codes, drop, length, length-append, length-drop, length-take, map, refl, subst, sym, take, zip}
use Rattle.std.proofs.lemmas.Option.{slice_get-get_or}
use Rattle.std.proofs.lemmas.Simd.{map-map}
use Rattle.dom_base.proofs.Lists.{All-at}
use Rattle.deck.specs.CircuitData.{CircuitData}
use Rattle.deck.specs.CircuitGrowth.{Grew}
use Rattle.deck.specs.Escapes.{escaped}
use Rattle.deck.specs.NamedDevices.{NamedDevice, map_device}
use Rattle.deck.specs.Nets.{IsCircuit}
use Rattle.deck.specs.Ports.{HasRoles}
use Rattle.deck.specs.Pushes.{new_circuit}
use Rattle.deck.specs.declared.role.Roles.{Roles}
use Rattle.deck.proofs.CircuitGrowth.{with_devices-devices, with_devices-grew}
use Rattle.network.specs.NetworkData.{NetworkData}
use Rattle.network.specs.Networks.{IsNetwork}
use Rattle.network.proofs.Lists.{get_of_map}
use Rattle.dual_rail.proofs.Zips.{all_from}
use Rattle.switch_model.specs.LinksData.{links_of}
use Rattle.sp_network.specs.Tree.{inner_count}
use Rattle.domino_law.specs.DominoDeck.{IsLooseDominoDeck}
use Rattle.domino_law.specs.Nets.{CellSide}
use Rattle.domino_cell.specs.declared.style.Style.TheVariants.{Precharge as WithPrecharge}
use Rattle.domino_law.specs.Shape.{DynamicStage, IsSideAt}
use Rattle.domino_law.specs.Spelled.{cell_cards, complement_cards, latch_cards, named_circuit, next_cards, output_cards, shape_cards}
use Rattle.deck_form.specs.DominoDecks.{outs_of, phases_of_sinks, pins_of, signal_name, starts_of}
use Rattle.deck_form.proofs.DeckForms.{length_map, zip_length}
use Rattle.deck_law.specs.NamesApart.{escaped_outs}
use Rattle.deck_law.specs.NetNames.{deck_name, end_gate, latch_shape, numbering}
use Rattle.deck_law.specs.ShapeDecks.{AreDeckPorts, AreSmall}
use Rattle.deck_law.proofs.NamedNets.{distinct-left}
use Rattle.deck_law.proofs.OwnRun.{range_length}
use Rattle.deck_law.proofs.ShapeDecks.{shape_decks_are_loose}
use Rattle.compound_law.specs.CompoundDecks.{IsPlannedDeck}
use Rattle.compound_law.specs.Laws.{AreByteNames, PlannedDecksAreLoose}
use Rattle.compound_law.proofs.CardCounts.{cells_many, side_within}
use Rattle.compound_law.proofs.PlannedShapes.{ends, is_shape, the_shape, whole_named}

module _ (network : NetworkData) (w h phases : ℕ) (circuit : CircuitData) (is : IsPlannedDeck network w h phases circuit)
    (net_is : IsNetwork network) (bytes : AreByteNames network.names) (some : 1 ≤ phases) (few : phases ≤ 4)
    (ok : IsCircuit circuit.ports circuit.nets circuit.devices) where
  abbrev bare : CircuitData
  bare = new_circuit (escaped network.name) (phases_of_sinks network is.signs) phases (pins_of network) (outs_of network)

  abbrev cards : List (NamedDevice (List ℕ))
  cards = map (map_device (deck_name (pins_of network) (outs_of network))) (shape_cards (the_shape network w h phases circuit is net_is))

  abbrev pub the_roles : Roles
  the_roles = record { clocks = phases; pins = length (pins_of network); outs = length (outs_of network) }

  abbrev names : List (List ℕ)
  names = map (signal_name network) network.outputs

  outs_same : outs_of network ≡ escaped_outs names
  outs_same = sym (map-map (λ name. codes "o_" ++ escaped name) (signal_name network) network.outputs)

  pub grew : Grew bare circuit
  grew = subst (Grew bare) (sym is.circuit_is) (with_devices-grew bare cards)

  -- one end for each sink
  pub one_end : length (ends network w h phases circuit is net_is) ≡ length (outs_of network) + length (starts_of network)
  one_end = (whole_named network w h phases circuit is net_is some few).one_end

  -- the circuit has the devices of the cells, and the rest
  device_count : length circuit.devices ≡ length (shape_cards (the_shape network w h phases circuit is net_is))
  device_count =
      ap (λ (c : CircuitData). length c.devices) is.circuit_is
      ∙ ap length (with_devices-devices bare cards)
      ∙ length_map _ cards
      ∙ length_map (map_device (deck_name (pins_of network) (outs_of network))) (shape_cards (the_shape network w h phases circuit is net_is))

  few_cards : length (cell_cards WithPrecharge 0 (the_shape network w h phases circuit is net_is).cells) ≤ 2 ^ 24
  few_cards =
      let s = the_shape network w h phases circuit is net_is in
      let rest = complement_cards s.complements ++ (latch_cards 0 s.latches ++ (output_cards s 0 s.outputs ++ next_cards s 0 s.latches)) in
      omega (arith, device_count, length-append (cell_cards WithPrecharge 0 s.cells) rest, ok.few_devices)

  pin_count : length (pins_of network) ≡ network.inputs
  pin_count = length_map _ (range_with_len 0 network.inputs) ∙ range_length 0 network.inputs

  pub latch_count : length (the_shape network w h phases circuit is net_is).latches ≡ length network.latches
  latch_count =
      let es = drop (length (outs_of network)) (ends network w h phases circuit is net_is) in
      length_map (latch_shape (length (pins_of network))) (zip (starts_of network) es)
      ∙ zip_length (starts_of network) es (omega (arith, length-drop (length (outs_of network)) (ends network w h phases circuit is net_is), one_end))
      ∙ length_map (λ l. l.init) network.latches

  small : AreSmall (the_shape network w h phases circuit is net_is)
  small = record {
    cells = omega (arith, few_cards, cells_many 0 (the_shape network w h phases circuit is net_is).cells);
    inner = inner_small;
    latches = omega (arith, pin_count, latch_count, net_is.count, net_is.few_signals);
  }
    where
      inner_small : (k : CellSide) (c : DynamicStage) → IsSideAt (the_shape network w h phases circuit is net_is) k c → 1 + inner_count c.tree < 2 ^ 64
      inner_small k c at =
          let within = side_within 0 (the_shape network w h phases circuit is net_is).cells k.cell at.0 k.side c at.1 at.2 in
          omega (arith, within, few_cards)

  -- the ports in order, whose outputs have the escapes of names
  roles_stand : HasRoles bare.nets phases (pins_of network) (escaped_outs names)
  roles_stand = subst (HasRoles bare.nets phases (pins_of network)) outs_same (whole_named network w h phases circuit is net_is some few).roles

  byte_names : AreByteNames names
  byte_names =
      all_from (λ name. All (λ b. b < 256) name) names
      (λ k x e.
      let m = get_of_map (signal_name network) network.outputs k x e in
      let low = All-at (λ signal. signal < length network.names) network.outputs k m.0 net_is.outputs m.1 in
      subst (All (λ b. b < 256)) m.2
      (All-at (λ name. All (λ b. b < 256) name) network.names m.0 (slice_index_or network.names m.0 []) bytes (slice_get-get_or network.names m.0 [] low)))

  out_count : length (the_shape network w h phases circuit is net_is).outputs ≡ length (outs_of network)
  out_count =
      omega (
        arith,
        length_map (end_gate (length (pins_of network))) (take (length (outs_of network)) (ends network w h phases circuit is net_is)),
        length-take (length (outs_of network)) (ends network w h phases circuit is net_is),
        one_end,
      )

  ports_are : AreDeckPorts bare the_roles (pins_of network) names (the_shape network w h phases circuit is net_is)
  ports_are = record {
    no_devices = refl;
    all_ports = refl;
    in_order = roles_stand;
    apart = distinct-left bare.nets grew.more_nets (subst (IsDistinct (pointwise nat_eq)) grew.nets ok.distinct);
    bytes = byte_names;
    pin_count = refl;
    out_count = ap length (sym outs_same);
    clocks_are = refl;
    pins_are = refl;
    outs_are = out_count;
  }

  -- what is to be shown, for outputs of these names
  abbrev IsLooseBy : List (List ℕ) → Type 0
  IsLooseBy outs =
      IsLooseDominoDeck the_roles (links_of (named_circuit bare (deck_name (pins_of network) outs) (the_shape network w h phases circuit is net_is)) the_roles)
      (numbering (named_circuit bare (deck_name (pins_of network) outs) (the_shape network w h phases circuit is net_is)).nets (pins_of network) outs)
      (the_shape network w h phases circuit is net_is)

  by_escapes : IsLooseBy (escaped_outs names)
  by_escapes =
      (shape_decks_are_loose bare the_roles (pins_of network) names (the_shape network w h phases circuit is net_is) (is_shape network w h phases circuit is net_is some few) small ports_are).0

  pub loose_deck : IsLooseDominoDeck the_roles (links_of circuit the_roles) (numbering circuit.nets (pins_of network) (outs_of network)) (the_shape network w h phases circuit is net_is)
  loose_deck =
      subst (λ (c : CircuitData). IsLooseDominoDeck the_roles (links_of c the_roles) (numbering c.nets (pins_of network) (outs_of network)) (the_shape network w h phases circuit is net_is))
      (sym is.circuit_is) (subst IsLooseBy (sym outs_same) by_escapes)

pub planned_decks_are_loose : PlannedDecksAreLoose
planned_decks_are_loose = λ network w h phases circuit is net_is bytes some few ok. loose_deck network w h phases circuit is net_is bytes some few ok
