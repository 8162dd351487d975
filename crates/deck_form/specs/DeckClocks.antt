-- The clocks of a domino deck along what its cells read.
use Rattle.std.specs.Prelude.{ℕ, ◌≤◌, ◌≡◌, Some, slice_get, Contains}
use Rattle.deck.specs.CircuitData.{CircuitData}
use Rattle.deck_form.specs.DeckNets.{CellPlan}
use Rattle.deck_form.specs.DeckOptions.{DeckOptions}
use Rattle.deck_form.specs.DominoDecks.{IsDominoDeck, cells_of}
use Rattle.clock_phase.specs.Levels.{cells_read}
use Rattle.network.specs.NetworkData.{NetworkData}
use Rattle.gate_decompose.specs.Sinks.{leaf_count}

-- in a domino deck no cell reads a cell of a later clock
abbrev pub ClocksRise : Type 0
ClocksRise =
    (network : NetworkData) (options : DeckOptions) (circuit : CircuitData) (is : IsDominoDeck network options circuit)
    (k j : ℕ) (reader read : CellPlan)
    → slice_get (cells_of options.phases is.levels is.trees) k ≡ Some reader
    → slice_get (cells_of options.phases is.levels is.trees) j ≡ Some read
    → Contains (cells_read (leaf_count network) reader.tree) j → read.clock ≤ reader.clock
