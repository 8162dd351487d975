-- The text of the deck that synthesis gives of a network, in either version.
use Rattle.std.specs.Prelude.{ℕ, Bool, List}
use Rattle.deck.specs.CircuitData.{CircuitData}
use Rattle.spice_text.specs.Cells.{IsWrittenByCells}
use Rattle.spice_text.specs.Text.{IsWritten}
use Rattle.deck_form.specs.ChosenDecks.{IsDeckOfSigns, IsPlannedDeck, planned}
use Rattle.deck_form.specs.DeckGroups.{group_places}
use Rattle.deck_form.specs.DeckOptions.{DeckOptions}
use Rattle.deck_form.specs.declared.version.DeckVersion.{DeckVersion}
use Rattle.deck_form.specs.declared.version.DeckVersion.TheVariants.{One as VersionOne, Two as VersionTwo}
use Rattle.gate_decompose.specs.GatesData.{GatesData}
use Rattle.network.specs.NetworkData.{NetworkData}
use Rattle.phase_assign.specs.Signs.{AreChosen}

-- the written form of a planned deck: all its devices in one subcircuit, or by its cells, which are one for each cell of
-- its plan, each complement, each latch and each sink
abbrev pub IsWrittenAs : DeckVersion → {network : NetworkData} {options : DeckOptions} {circuit : CircuitData}
    → IsPlannedDeck network options circuit → List ℕ → Type 0
IsWrittenAs VersionOne {circuit = circuit} is bytes = IsWritten circuit bytes
IsWrittenAs VersionTwo {circuit = circuit} is bytes = IsWrittenByCells circuit (group_places is) bytes

-- the written form, in a version, of a circuit of the network of signs that are as wanted and the chosen plan
pub record IsTextInVersion (version : DeckVersion) (AreSigns : GatesData → List Bool → Type 0) (bytes : List ℕ) (network : NetworkData)
    (options : DeckOptions) : Type 0 where
  pub circuit : CircuitData
  pub is_chosen : IsDeckOfSigns AreSigns network options circuit
  pub written : IsWrittenAs version (planned is_chosen) bytes

-- that of version 1
abbrev pub IsTextOfSigns : (GatesData → List Bool → Type 0) → List ℕ → NetworkData → DeckOptions → Type 0
IsTextOfSigns AreSigns bytes network options = IsTextInVersion VersionOne AreSigns bytes network options

-- the text that synthesis gives of the network: of the chosen signs and the chosen plan
abbrev pub IsSynthText : List ℕ → NetworkData → DeckOptions → Type 0
IsSynthText bytes network options = IsTextOfSigns AreChosen bytes network options
