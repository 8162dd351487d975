-- Decks of a network with chains of buffers, for the bytes of a BLIF text (Harris and Horowitz, Skew-tolerant domino circuits).
use Rattle.std.specs.Prelude.{List, take, ℕ, ◌++◌, ◌≡◌}
use Rattle.domino_cell.specs.declared.style.Style.TheVariants.{Keeper as WithKeeper}
use Rattle.blif_ast.specs.BlifFileData.{BlifFileData}
use Rattle.blif_ast.specs.Reading.{IsFileOf}
use Rattle.deck.specs.CircuitData.{CircuitData}
use Rattle.deck.specs.DeckText.{IsDeckOf}
use Rattle.deck.specs.Ports.{leading_ports}
use Rattle.net_flatten.specs.Flattening.{IsNetworkOf}
use Rattle.network.specs.NetworkData.{NetworkData}
use Rattle.port_runs.specs.declared.clocking.Clocking.TheVariants.{Overlapping, Together}
use Rattle.domino_law.specs.Shape.{MayOverlap}
use Rattle.deck_form.specs.declared.options.SynthOptions.{SynthOptions}
use Rattle.deck_law.specs.Headline.{IsRightInEveryRun, input_ports, output_ports, roles_of}
use Rattle.deck_law.specs.HonestDecks.{IsHonestDeck}
use Rattle.held_law.specs.HeldNets.{HeldNetsHoldTargets}
use Rattle.synth_flow.specs.BufferedDecks.{IsBufferedDeck}
use Rattle.skew_law.specs.DominoForms.{HasDominoForm}
use Rattle.skew_law.specs.RootPairs.{CellsHoldRootValues, HaveRootValues}

-- The bytes of a deck whose clocks overlap, for the bytes of a BLIF text, beside the bytes of a deck whose clocks fall together.
pub record IsRightOverlappingDeck (blif : List ℕ) (options : SynthOptions) (deck : List ℕ) : Type 0 where
  pub file : BlifFileData
  pub is_file : IsFileOf blif file
  pub network : NetworkData
  pub is_network : IsNetworkOf file network
  pub circuit : CircuitData
  pub reads_back : IsDeckOf deck circuit
  pub no_other : (other : CircuitData) → IsDeckOf deck other → other ≡ circuit
  pub is_deck : IsBufferedDeck network options circuit
  -- in the form of a domino deck of the network but for its buffers and clocks: its trees are within the bounds, its clocks few, and its
  -- sinks taken as their signs say
  pub form : HasDominoForm network options circuit
  pub ports : take circuit.ports circuit.nets ≡ leading_ports options.phases ++ input_ports network ++ output_ports network
  -- where an early clock may fall while later ones still evaluate, the states of its runs are honest
  pub honest : IsHonestDeck Overlapping WithKeeper network circuit (roles_of network options.phases)
  -- and each of its cells reads cells of its own clock and of the one before alone, and each sink that takes from a cell takes from one of
  -- the last clock
  pub overlaps : MayOverlap honest.shape
  -- the bit of a cell in a cycle of the own run is the value of its root pair in that cycle of the network's run, and its dynamic net is
  -- the opposite once the clock before its own has fallen
  pub roots : HaveRootValues network options is_deck.planned honest.shape
  pub held : CellsHoldRootValues network options is_deck.planned circuit honest.net honest.shape
  -- and while a clock has fallen early and the next one is up, each net of each cell of the next holds its target, whatever of the cell's
  -- leaves fall
  pub targets : HeldNetsHoldTargets circuit (roles_of network options.phases)
  -- it is right in every such run
  pub right : IsRightInEveryRun Overlapping network circuit (roles_of network options.phases)
  -- and where all clocks fall together, as in any deck
  pub right_together : IsRightInEveryRun Together network circuit (roles_of network options.phases)
