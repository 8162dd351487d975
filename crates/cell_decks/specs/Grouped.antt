-- The decks of networks can be written by their cells, and their texts read back.
use Rattle.std.specs.Prelude.{ℕ, ◌≤◌, List}
use Rattle.deck.specs.CircuitData.{CircuitData}
use Rattle.deck.specs.Whole.{IsWhole}
use Rattle.deck.specs.DeckText.{IsDeckOf}
use Rattle.spice_text.specs.Cells.{HasCells, IsWrittenByCells}
use Rattle.network.specs.NetworkData.{NetworkData}
use Rattle.deck_form.specs.ChosenDecks.{IsPlannedDeck}
use Rattle.deck_form.specs.DeckGroups.{IsGroupedDeck, group_places}
use Rattle.deck_form.specs.DeckOptions.{DeckOptions}

-- each planned deck within the greatest bounds can be written by the cells of these groups
abbrev pub PlannedDecksHaveCells : Type 0
PlannedDecksHaveCells =
    (network : NetworkData) (options : DeckOptions) (circuit : CircuitData) (is : IsPlannedDeck network options circuit)
    → options.width ≤ 8 → options.height ≤ 6 → options.phases ≤ 4 → HasCells circuit (group_places is)

-- so the text by its cells reads back as exactly this circuit
abbrev pub PlannedTextsReadBack : Type 0
PlannedTextsReadBack =
    (network : NetworkData) (options : DeckOptions) (circuit : CircuitData) (is : IsPlannedDeck network options circuit) (text : List ℕ)
    → options.width ≤ 8 → options.height ≤ 6 → options.phases ≤ 4 → IsWhole circuit
    → IsWrittenByCells circuit (group_places is) text → IsDeckOf text circuit

-- so what synthesis gives with the ends of its groups can be written by cells
abbrev pub GroupedDecksHaveCells : Type 0
GroupedDecksHaveCells =
    (network : NetworkData) (options : DeckOptions) (circuit : CircuitData) (places : List ℕ)
    → IsGroupedDeck network options circuit places → options.width ≤ 8 → options.height ≤ 6 → options.phases ≤ 4 → HasCells circuit places

-- and that text reads back as exactly its circuit
abbrev pub GroupedTextsReadBack : Type 0
GroupedTextsReadBack =
    (network : NetworkData) (options : DeckOptions) (circuit : CircuitData) (places text : List ℕ)
    → IsGroupedDeck network options circuit places → options.width ≤ 8 → options.height ≤ 6 → options.phases ≤ 4 → IsWhole circuit
    → IsWrittenByCells circuit places text → IsDeckOf text circuit
