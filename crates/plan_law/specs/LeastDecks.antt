-- What the deck that synthesis gives of a network has of the least (Puri, Bjorksten, Rosser 1996: phases; Zhao, Sapatnekar 1998: covers).
use Rattle.std.specs.Prelude.{flat_map, length, replicate, true, Bool, List, ℕ, ◌≡◌, ◌≤◌}
use Rattle.std.specs.List.{enumerate_from}
use Rattle.deck.specs.CircuitData.{CircuitData}
use Rattle.network.specs.NetworkData.{NetworkData}
use Rattle.network.specs.Networks.{IsNetwork}
use Rattle.gate_decompose.specs.GatesData.{GatesData}
use Rattle.gate_decompose.specs.Needed.{HasSize}
use Rattle.gate_decompose.specs.Sinks.{leaf_count}
use Rattle.phase_assign.specs.Signs.{AreSettled}
use Rattle.style_costs.specs.Styles.{IsLeastPlanIn, cost_in}
use Rattle.deck_form.specs.ChosenDecks.{AreGiven, IsChosenDeck, IsDeckOfSigns}
use Rattle.deck_form.specs.DeckNets.{named_cell}
use Rattle.deck_form.specs.AskedOptions.{deck_options}
use Rattle.deck_form.specs.DominoDecks.{cells_of, pins_of}
use Rattle.deck_form.specs.declared.options.SynthOptions.{SynthOptions}

-- what a deck of any signs and the chosen plan has, with these options
pub record HasLeastCover (options : SynthOptions) {AreSigns : GatesData → List Bool → Type 0} {network : NetworkData} {circuit : CircuitData}
    (is : IsDeckOfSigns AreSigns network (deck_options options) circuit) : Type 0 where
  -- no plan costs less in its style
  pub least : IsLeastPlanIn options.style is.forest options.bounds.w options.bounds.h is.kept is.trees
  -- the cells have exactly as many devices
  pub devices : length (flat_map (named_cell options.style (pins_of network) (leaf_count network))
      (enumerate_from 0 (cells_of options.phases is.levels is.trees)))
      ≡ cost_in options.style is.trees

-- what that of the chosen signs has
pub record IsLeastDeck (options : SynthOptions) {network : NetworkData} {circuit : CircuitData}
    (is : IsChosenDeck network (deck_options options) circuit) : Type 0 where
  -- no change of one sign lowers the number of needed pairs, which is no greater than that of all plus
  pub settled : AreSettled is.gates is.signs
  pub no_worse : (m n : ℕ) → HasSize is.gates is.signs m → HasSize is.gates (replicate (length is.gates.sinks) true) n → m ≤ n
  pub cover : HasLeastCover options is

-- each deck of given signs, the exact ones among them, and the chosen plan of a network has a cover of least cost
abbrev pub SignedDecksHaveLeastCovers : Type 0
SignedDecksHaveLeastCovers =
    (network : NetworkData) (options : SynthOptions) (signs : List Bool) (circuit : CircuitData) → IsNetwork network
    → (is : IsDeckOfSigns (AreGiven signs) network (deck_options options) circuit) → HasLeastCover options is

-- each deck of the chosen signs and the chosen plan of a network has that
abbrev pub ChosenDecksAreLeast : Type 0
ChosenDecksAreLeast =
    (network : NetworkData) (options : SynthOptions) (circuit : CircuitData) → IsNetwork network
    → (is : IsChosenDeck network (deck_options options) circuit) → IsLeastDeck options is
