-- The form of a domino deck of a network whose cells are on any clocks: what `IsDominoDeck` says but for levels.
use Rattle.domino_cell.specs.declared.style.Style.TheVariants.{Keeper as WithKeeper}
use Rattle.std.specs.Prelude.{All, Bool, List, length, ◌≡◌, ◌≤◌}
use Rattle.std.specs.List.{AllZip}
use Rattle.deck.specs.CircuitData.{CircuitData}
use Rattle.gate_decompose.specs.Sinks.{leaf_count, sink_signals}
use Rattle.network.specs.NetworkData.{NetworkData}
use Rattle.tree_map.specs.Bounds.{IsWithin}
use Rattle.deck_form.specs.DeckNets.{CellPlan, SinkEnd}
use Rattle.deck_form.specs.DominoDecks.{HasSign, deck_circuit}
use Rattle.deck_form.specs.NamedDecks.{IsEndIn, ReadsBelow}
use Rattle.deck_form.specs.declared.options.SynthOptions.{SynthOptions}

-- the circuit is a domino deck of the network in cells with keepers, each on one of the clocks
pub record HasDominoForm (network : NetworkData) (options : SynthOptions) (circuit : CircuitData) : Type 0 where
  pub cells : List CellPlan
  pub signs : List Bool
  pub ends : List SinkEnd
  pub some_clock : 1 ≤ options.phases
  pub few_clocks : options.phases ≤ 4
  pub clocks_are : All (λ (c : CellPlan). (1 ≤ c.clock) × (c.clock ≤ options.phases)) cells
  pub within : All (λ (c : CellPlan). IsWithin options.bounds.w options.bounds.h c.tree) cells
  pub reads_below : ReadsBelow (leaf_count network) cells
  -- one sign and one end for each sink
  pub one_sign : length signs ≡ length (sink_signals network)
  pub signs_are : AllZip HasSign signs ends
  pub ends_are : All (IsEndIn (leaf_count network) (length cells)) ends
  pub circuit_is : circuit ≡ deck_circuit WithKeeper network options.phases cells signs ends
