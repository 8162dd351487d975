-- What is promised of the text of circuits: it reads back.
use Rattle.std.specs.Prelude.{◌≡◌, ℕ, List}
use Rattle.deck.specs.CircuitData.{CircuitData}
use Rattle.deck.specs.DeckText.{IsDeckOf, IsGoodCircuit}
use Rattle.deck.specs.Whole.{IsWhole}
use Rattle.spice_text.specs.Text.{IsWritten}

-- the text of a circuit whose name and ports have no byte `=` is a deck, and its circuit is that one, with its phases;
-- every circuit is whole, as `Circuit::whole` tells
abbrev pub WrittenReadsBack : Type 0
WrittenReadsBack =
    (c : CircuitData) (text : List ℕ)
    → IsWhole c → IsGoodCircuit c
    → IsWritten c text → IsDeckOf text c

-- a text is the deck of at most one circuit
abbrev pub DeckHasOneCircuit : Type 0
DeckHasOneCircuit = (text : List ℕ) (c d : CircuitData) → IsDeckOf text c → IsDeckOf text d → c ≡ d

-- the circuit of a deck can be written, and the text reads back as that circuit
abbrev pub RewrittenReadsBack : Type 0
RewrittenReadsBack = (text again : List ℕ) (c : CircuitData) → IsDeckOf text c → IsWritten c again → IsDeckOf again c
