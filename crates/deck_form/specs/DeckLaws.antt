-- What the decks of networks are.
use Rattle.std.specs.Prelude.{◌≤◌}
use Rattle.deck.specs.CircuitData.{CircuitData}
use Rattle.deck_form.specs.ChosenDecks.{IsChosenDeck, IsPlannedDeck}
use Rattle.deck_form.specs.DeckOptions.{DeckOptions}
use Rattle.deck_form.specs.DominoDecks.{IsDominoDeck}
use Rattle.deck_form.specs.NamedDecks.{IsNamedDeck}
use Rattle.network.specs.NetworkData.{NetworkData}
use Rattle.gate_decompose.specs.NetworkOrder.{IsOrderedNetwork}

-- every domino deck is a loose one
abbrev pub DominoDecksAreLoose : Type 0
DominoDecksAreLoose =
    (network : NetworkData) (options : DeckOptions) (circuit : CircuitData)
    → IsDominoDeck network options circuit → IsNamedDeck options.style circuit

-- the circuit of any signs and any plan is a domino deck
abbrev pub PlannedDecksAreDomino : Type 0
PlannedDecksAreDomino =
    (network : NetworkData) (options : DeckOptions) (circuit : CircuitData) → IsPlannedDeck network options circuit
    → IsOrderedNetwork network → 1 ≤ options.phases → options.phases ≤ 4 → IsDominoDeck network options circuit

-- the circuit of the chosen signs and the chosen plan is a domino deck
abbrev pub ChosenDecksAreDomino : Type 0
ChosenDecksAreDomino =
    (network : NetworkData) (options : DeckOptions) (circuit : CircuitData) → IsChosenDeck network options circuit
    → IsOrderedNetwork network → 1 ≤ options.phases → options.phases ≤ 4 → IsDominoDeck network options circuit
