-- The shape of a planned deck: its own run is the network's, and all that it names is there.
use Rattle.std.proofs.Common.{◌≡◌, ℕ, ◌+◌, ◌≤◌, List, length, map, refl}
use Rattle.deck.specs.CircuitData.{CircuitData}
use Rattle.clock_phase.specs.Levels.{greatest}
use Rattle.network.specs.NetworkData.{NetworkData}
use Rattle.network.specs.Networks.{IsNetwork}
use Rattle.gate_decompose.proofs.NetworkOrder.{networks_are_ordered}
use Rattle.deck_form.specs.ChosenDecks.{end_at_cell}
use Rattle.deck_form.specs.DeckNets.{SinkEnd}
use Rattle.deck_form.specs.DominoDecks.{IsDominoDeck as IsWholeDeck, complements_of, outs_of, pins_of, starts_of}
use Rattle.deck_form.specs.NamedDecks.{IsNamedDeck}
use Rattle.deck_form.proofs.DeckForms.{domino_decks_are_loose, planned_decks_are_domino}
use Rattle.domino_cell.specs.declared.style.Style.TheVariants.{Precharge as WithPrecharge}
use Rattle.domino_law.specs.Shape.{DominoCell, IsShape, Shape}
use Rattle.deck_law.specs.NetNames.{deck_shape}
use Rattle.deck_law.specs.OwnRuns.{RunsAsNetwork}
use Rattle.deck_law.proofs.NetworkRuns.{planned_runs}
use Rattle.deck_law.proofs.SpelledDecks.{shape_is}
use Rattle.compound_law.specs.CompoundDecks.{IsPlannedDeck, cell_shapes, clocked, network_shape, whole_cells}
use Rattle.compound_law.specs.Laws.{PlannedRunsAsNetwork}
use Rattle.compound_law.proofs.WholePlans.{whole_circuit, whole_options, whole_planned}
use Rattle.compound_law.proofs.WholeTrees.{cells_whole, split_is_shape, split_runs, whole_cell}

module _ (network : NetworkData) (w h phases : ℕ) (circuit : CircuitData) (is : IsPlannedDeck network w h phases circuit) (net_is : IsNetwork network) where
  abbrev pub ends : List SinkEnd
  ends = map (end_at_cell is.kept) is.forest.ends

  -- the shape, and that of the whole trees
  abbrev pub the_shape : Shape
  the_shape = network_shape network phases is.cells is.levels ends

  abbrev whole_shape : Shape
  whole_shape =
      deck_shape WithPrecharge phases (pins_of network) (outs_of network) (starts_of network) (whole_cells phases is.levels is.cells)
      (complements_of network (whole_cells phases is.levels is.cells) ends) ends

  abbrev cells : List DominoCell
  cells = cell_shapes (length (pins_of network)) (length (pins_of network) + length (starts_of network)) (clocked phases is.levels is.cells)

  same : whole_shape.cells ≡ map whole_cell cells
  same = cells_whole (length (pins_of network)) (length (pins_of network) + length (starts_of network)) phases (greatest is.levels) is.cells is.levels

  pub runs : RunsAsNetwork network the_shape
  runs =
      split_runs whole_shape cells same network
      (planned_runs network (whole_options network w h phases circuit is) (whole_circuit network w h phases circuit is)
      (whole_planned network w h phases circuit is) (complements_of network (whole_cells phases is.levels is.cells) ends) net_is)

  module _ (some : 1 ≤ phases) (few : phases ≤ 4) where
    abbrev pub whole_deck : IsWholeDeck network (whole_options network w h phases circuit is) (whole_circuit network w h phases circuit is)
    whole_deck =
        planned_decks_are_domino network (whole_options network w h phases circuit is) (whole_circuit network w h phases circuit is)
        (whole_planned network w h phases circuit is) (networks_are_ordered network net_is) some few

    abbrev pub whole_named : IsNamedDeck WithPrecharge (whole_circuit network w h phases circuit is)
    whole_named =
        domino_decks_are_loose network (whole_options network w h phases circuit is) (whole_circuit network w h phases circuit is) whole_deck

    pub is_shape : IsShape the_shape
    is_shape = split_is_shape whole_shape cells same (shape_is whole_named) refl refl

pub planned_runs_as_network : PlannedRunsAsNetwork
planned_runs_as_network = λ network w h phases circuit is net_is. runs network w h phases circuit is net_is
