-- What holds of the bytes of a deck, in either version, for the bytes of a BLIF text: they are a right deck of that text. In version 2
-- its cells are subcircuits that are called (SPICE subcircuits, M and X cards).
use Rattle.std.specs.Prelude.{ℕ, ◌≤◌, List}
use Rattle.blif_ast.specs.BlifFileData.{BlifFileData}
use Rattle.blif_ast.specs.Reading.{IsFileOf}
use Rattle.deck.specs.CircuitData.{CircuitData}
use Rattle.deck.specs.Whole.{IsWhole}
use Rattle.net_flatten.specs.Flattening.{IsNetworkOf}
use Rattle.network.specs.NetworkData.{NetworkData}
use Rattle.deck_form.specs.ChosenDecks.{IsPlannedDeck}
use Rattle.deck_form.specs.DeckOptions.{DeckOptions}
use Rattle.deck_form.specs.DeckTexts.{IsWrittenAs}
use Rattle.deck_form.specs.declared.version.DeckVersion.{DeckVersion}
use Rattle.deck_law.specs.Headline.{IsRightDeck}

-- the text, in either version, of the circuit of any signs and any plan of the network within the greatest bounds is a right deck
abbrev pub PlannedVersionsAreRight : Type 0
PlannedVersionsAreRight =
    (version : DeckVersion) (blif text : List ℕ) (options : DeckOptions) (file : BlifFileData) (network : NetworkData) (circuit : CircuitData)
    → IsFileOf blif file → IsNetworkOf file network → options.width ≤ 8 → options.height ≤ 6 → 1 ≤ options.phases → options.phases ≤ 4
    → (is : IsPlannedDeck network options circuit) → IsWhole circuit → IsWrittenAs version is text
    → IsRightDeck blif options text
