-- The text of the deck that synthesis gives of a network, and the cover that it is written from.
use Rattle.std.specs.Prelude.{ℕ, ◌≡◌, ◌||◌, Bool, List, filter}
use Rattle.std.specs.List.{list_any, range_with_len}
use Rattle.deck.specs.CircuitData.{CircuitData}
use Rattle.deck.specs.Whole.{IsWhole}
use Rattle.clock_phase.specs.Levels.{AreLevels}
use Rattle.dual_rail.specs.ForestData.{ForestData}
use Rattle.network.specs.NetworkData.{NetworkData}
use Rattle.sp_network.specs.Tree.{Tree}
use Rattle.spice_text.specs.Cells.{IsWrittenByCells}
use Rattle.spice_text.specs.Text.{IsWritten}
use Rattle.deck_form.specs.AskedOptions.{deck_options}
use Rattle.deck_form.specs.ChosenDecks.{IsChosenDeck}
use Rattle.deck_form.specs.DeckGroups.{IsGroupedDeck}
use Rattle.deck_form.specs.declared.options.SynthOptions.{SynthOptions}
use Rattle.tree_map.specs.LeastPlans.{IsChosenPlan}
use Rattle.tree_map.specs.MappedCover.{root_cell_numbers}
use Rattle.tree_map.specs.Plans.{roots}
use Rattle.synth_flow.specs.CellCounts.{is_read_in}
use Rattle.synth_flow.specs.NamedComplements.{is_plus_end}

-- the text of the circuit that synthesis gives of the network, which is whole
pub record IsChosenText (network : NetworkData) (options : SynthOptions) (text : List ℕ) : Type 0 where
  pub circuit : CircuitData
  pub is_chosen : IsChosenDeck network (deck_options options) circuit
  pub whole : IsWhole circuit
  pub written : IsWritten circuit text

-- the text by its cells of this circuit and the groups of its devices, which end at these places
pub record IsChosenCellText (network : NetworkData) (options : SynthOptions) (text : List ℕ) : Type 0 where
  pub circuit : CircuitData
  pub ends : List ℕ
  pub is_grouped : IsGroupedDeck network (deck_options options) circuit ends
  pub whole : IsWhole circuit
  pub written : IsWrittenByCells circuit ends text

-- the chosen cover of a forest: the numbers of its cells, the places of their roots and their levels, and the leaves whose
-- complements are named
pub record IsCountedCover (forest : ForestData) (w h : ℕ) (kept : List Bool) (cells places levels complements : List ℕ) : Type 0 where
  pub trees : List (Tree ℕ)
  pub chosen : IsChosenPlan forest w h kept trees
  pub cells_are : cells ≡ root_cell_numbers kept
  pub places_are : places ≡ roots kept
  pub levels_are : AreLevels forest.leaves trees levels
  pub complements_are : complements
      ≡ filter (λ leaf. is_read_in trees leaf || list_any (is_plus_end leaf) forest.ends) (range_with_len 0 forest.leaves)
