-- What each network has once: the deck of the chosen signs and the chosen plan, and its text (Rabaey, Digital Integrated Circuits: domino logic;
-- Puri, Bjorksten, Rosser 1996; Zhao, Sapatnekar 1998).
use Rattle.std.specs.Prelude.{ℕ, ◌≡◌, Bool, List}
use Rattle.deck.specs.CircuitData.{CircuitData}
use Rattle.spice_text.specs.Text.{IsWritten}
use Rattle.network.specs.NetworkData.{NetworkData}
use Rattle.network.specs.Networks.{IsNetwork}
use Rattle.gate_decompose.specs.GateNodes.{AreGatesOf}
use Rattle.gate_decompose.specs.GatesData.{GatesData}
use Rattle.deck_form.specs.ChosenDecks.{AreGiven, IsChosenDeck, IsDeckOfSigns}
use Rattle.deck_form.specs.DeckOptions.{DeckOptions}
use Rattle.deck_form.specs.DeckTexts.{IsSynthText}

-- signs that are as wanted are one list, for the gates of a network
abbrev pub HaveOneSigns : (GatesData → List Bool → Type 0) → NetworkData → Type 0
HaveOneSigns AreSigns network =
    (gates : GatesData) (a b : List Bool) → AreGatesOf network gates → AreSigns gates a → AreSigns gates b → a ≡ b

-- a network has at most one deck of given signs and the chosen plan, with the same options
abbrev pub SignedDecksAreOne : Type 0
SignedDecksAreOne =
    (network : NetworkData) (options : DeckOptions) (signs : List Bool) (a b : CircuitData) → IsNetwork network
    → IsDeckOfSigns (AreGiven signs) network options a → IsDeckOfSigns (AreGiven signs) network options b → a ≡ b

-- and at most one of the chosen signs
abbrev pub ChosenDecksAreOne : Type 0
ChosenDecksAreOne =
    (network : NetworkData) (options : DeckOptions) (a b : CircuitData) → IsNetwork network
    → IsChosenDeck network options a → IsChosenDeck network options b → a ≡ b

-- a circuit is written as one text
abbrev pub TextsAreOne : Type 0
TextsAreOne = (circuit : CircuitData) (a b : List ℕ) → IsWritten circuit a → IsWritten circuit b → a ≡ b

-- so the text that synthesis gives is decided by the network and the options
abbrev pub SynthTextsAreOne : Type 0
SynthTextsAreOne =
    (network : NetworkData) (options : DeckOptions) (a b : List ℕ) → IsNetwork network
    → IsSynthText a network options → IsSynthText b network options → a ≡ b
