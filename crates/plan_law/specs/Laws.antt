-- What each network has: gates, a forest under any signs, levels of the cells of any plan, the deck of the chosen signs and the chosen
-- plan, and its text; so that a file is refused or has a text (Rabaey, Digital Integrated Circuits: domino logic; Puri, Bjorksten, Rosser 1996; Zhao, Sapatnekar 1998).
use Rattle.std.specs.Prelude.{ℕ, ◌+◌, ◌≤◌, ◌≡◌, ◌⊎◌, Bool, List, length}
use Rattle.blif_ast.specs.BlifFileData.{BlifFileData}
use Rattle.blif_ast.specs.Good.{IsGoodFile}
use Rattle.deck.specs.CircuitData.{CircuitData}
use Rattle.spice_text.specs.Text.{IsWritten}
use Rattle.sp_network.specs.Tree.{Tree}
use Rattle.net_flatten.specs.Flattening.{IsNetworkOf}
use Rattle.network.specs.NetworkData.{NetworkData}
use Rattle.network.specs.Networks.{IsNetwork}
use Rattle.model_calls.specs.Refusal.{Refusal}
use Rattle.model_calls.specs.Refusals.{IsRefusal}
use Rattle.gate_decompose.specs.GateNodes.{AreGatesOf}
use Rattle.gate_decompose.specs.GatesData.{GatesData}
use Rattle.gate_decompose.specs.GatesOrder.{AreInPlace}
use Rattle.gate_decompose.specs.NetworkOrder.{IsOrderedNetwork}
use Rattle.dual_rail.specs.ForestData.{ForestData}
use Rattle.dual_rail.specs.Forests.{IsForestOf}
use Rattle.clock_phase.specs.Levels.{AreLevels}
use Rattle.clock_phase.specs.Plans.{ReadEarlierCells}
use Rattle.deck_form.specs.ChosenDecks.{AreGiven, IsChosenDeck, IsDeckOfSigns}
use Rattle.deck_form.specs.DeckOptions.{DeckOptions}
use Rattle.deck_form.specs.DeckTexts.{IsSynthText}

-- a network whose tables read only signals before their own has gates
abbrev pub GatesAreThere : Type 0
GatesAreThere = (network : NetworkData) → IsOrderedNetwork network → (gates : GatesData) × AreGatesOf network gates

-- gates that read what is there have a forest under any signs, one for each sink
abbrev pub ForestsAreThere : Type 0
ForestsAreThere =
    (gates : GatesData) (signs : List Bool) → AreInPlace gates → length signs ≡ length gates.sinks
    → (forest : ForestData) × IsForestOf gates signs forest

-- the cells of trees that read only rails, of so many leaves, and cells before their own have levels
abbrev pub LevelsAreThere : Type 0
LevelsAreThere =
    (leaf_count : ℕ) (trees : List (Tree ℕ)) → ReadEarlierCells leaf_count trees → (levels : List ℕ) × AreLevels leaf_count trees levels

-- the gates of a network have signs that are as wanted, one for each sink
abbrev pub HaveSigns : (GatesData → List Bool → Type 0) → NetworkData → Type 0
HaveSigns AreSigns network =
    (gates : GatesData) → AreGatesOf network gates → (signs : List Bool) × AreSigns gates signs × (length signs ≡ length gates.sinks)

-- a network has a deck of any signs, one for each output and each latch, and the chosen plan, within any bounds of at least 2
abbrev pub SignedDecksAreThere : Type 0
SignedDecksAreThere =
    (network : NetworkData) (options : DeckOptions) (signs : List Bool) → IsNetwork network
    → length signs ≡ length network.outputs + length network.latches → 2 ≤ options.width → 2 ≤ options.height
    → (circuit : CircuitData) × IsDeckOfSigns (AreGiven signs) network options circuit

-- and one of the chosen signs
abbrev pub ChosenDecksAreThere : Type 0
ChosenDecksAreThere =
    (network : NetworkData) (options : DeckOptions) → IsNetwork network → 2 ≤ options.width → 2 ≤ options.height
    → (circuit : CircuitData) × IsChosenDeck network options circuit

-- each circuit has a text
abbrev pub TextsAreThere : Type 0
TextsAreThere = (circuit : CircuitData) → (text : List ℕ) × IsWritten circuit text

-- so each network has the text that synthesis gives of it
abbrev pub SynthTextsAreThere : Type 0
SynthTextsAreThere =
    (network : NetworkData) (options : DeckOptions) → IsNetwork network → 2 ≤ options.width → 2 ≤ options.height
    → (text : List ℕ) × IsSynthText text network options

-- the file's network and the text that synthesis gives of it
pub record HasSynthText (f : BlifFileData) (options : DeckOptions) : Type 0 where
  pub network : NetworkData
  pub is_network : IsNetworkOf f network
  pub text : List ℕ
  pub is_text : IsSynthText text network options

-- a good file is refused for something, or has such a text
abbrev pub FilesHaveTexts : Type 0
FilesHaveTexts =
    (f : BlifFileData) (options : DeckOptions) → IsGoodFile f → 2 ≤ options.width → 2 ≤ options.height
    → ((r : Refusal) × IsRefusal f r) ⊎ HasSynthText f options
