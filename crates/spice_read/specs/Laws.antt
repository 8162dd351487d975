-- What holds of each text and its answer, and of each text that is written.
use Rattle.std.specs.Prelude.{ℕ, List}
use Rattle.dom_base.specs.Answers.{HasOneAnswer, IsOnlyAnswer}
use Rattle.deck.specs.CircuitData.{CircuitData}
use Rattle.deck.specs.DeckText.{IsDeckOf, IsGoodCircuit}
use Rattle.deck.specs.DeckFaults.{IsDeckFault, IsDeckFaultAt}
use Rattle.deck.specs.Whole.{IsWhole}
use Rattle.spice_text.specs.Text.{IsWritten}

-- each text is accepted with one circuit and has no fault, or is refused for one fault, and never both
abbrev pub TextHasOneAnswer : Type 0
TextHasOneAnswer = (text : List ℕ) → HasOneAnswer (IsDeckOf text) (IsDeckFault text) (IsDeckFaultAt text)

-- the text that is written for a circuit whose name and ports have no byte `=` is accepted, with exactly this circuit;
-- every circuit is whole, as `Circuit::whole` tells
abbrev pub WrittenIsRead : Type 0
WrittenIsRead =
    (c : CircuitData) (text : List ℕ)
    → IsWhole c → IsGoodCircuit c
    → IsWritten c text → IsOnlyAnswer (IsDeckOf text) (IsDeckFault text) c
