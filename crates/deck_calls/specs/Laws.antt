-- What holds of the texts of decks whose subcircuits call one another.
use Rattle.std.specs.Prelude.{ℕ, ◌≡◌, List, length, map}
use Rattle.deck.specs.CircuitData.{CircuitData}
use Rattle.deck.specs.DeckText.{IsGoodCircuit, IsDeckOf}
use Rattle.deck.specs.Whole.{IsWhole}
use Rattle.deck.specs.Subckts.{Subckt, Size, Expansion, sizes, expansions}
use Rattle.spice_text.specs.Cells.{HasCells, IsWrittenByCells}

-- the devices that are counted without expanding are those of the expansions
abbrev pub SizesCount : Type 0
SizesCount = (all : List Subckt) → map (λ (e : Expansion). length e.devices) (expansions all) ≡ map (λ (s : Size). s.devices) (sizes all)

-- the text of a circuit by its cells is a deck, and its circuit is that one, equal in every field;
-- every circuit is whole, as `Circuit::whole` tells
abbrev pub CellsReadBack : Type 0
CellsReadBack =
    (c : CircuitData) (places text : List ℕ)
    → IsWhole c → HasCells c places
    → IsWrittenByCells c places text → IsDeckOf text c

-- the circuit of a deck meets what holds of every circuit, inner nets of calls too, and its name and ports have no byte `=`
pub record DecksAreGood : Type 0 where
  pub whole : (text : List ℕ) (c : CircuitData) → IsDeckOf text c → IsWhole c
  pub good : (text : List ℕ) (c : CircuitData) → IsDeckOf text c → IsGoodCircuit c
