-- The laws of decks whose clocks overlap.
use Rattle.std.specs.Prelude.{List, ℕ, ◌≤◌}
use Rattle.blif_ast.specs.BlifFileData.{BlifFileData}
use Rattle.blif_ast.specs.Reading.{IsFileOf}
use Rattle.deck.specs.CircuitData.{CircuitData}
use Rattle.deck.specs.DeckText.{IsDeckOf}
use Rattle.deck.specs.Nets.{IsCircuit}
use Rattle.net_flatten.specs.Flattening.{IsNetworkOf}
use Rattle.network.specs.NetworkData.{NetworkData}
use Rattle.network.specs.Networks.{IsNetwork}
use Rattle.domino_cell.specs.declared.style.Style.TheVariants.{Keeper as WithKeeper}
use Rattle.port_runs.specs.declared.clocking.Clocking.TheVariants.{Overlapping, Together}
use Rattle.deck_form.specs.declared.options.SynthOptions.{SynthOptions}
use Rattle.deck_law.specs.Headline.{IsRightInEveryRun, roles_of}
use Rattle.deck_law.specs.HonestDecks.{IsHonestDeck}
use Rattle.synth_flow.specs.BufferedDecks.{IsBufferedDeck}
use Rattle.held_law.specs.HeldNets.{HeldNetsHoldTargets}
use Rattle.skew_law.specs.BufferedDecks.{IsRightOverlappingDeck}

-- the circuit of a network's plan with its chains of buffers is right in every run, where its clocks overlap and where all fall together
abbrev pub BufferedDecksAreRight : Type 0
BufferedDecksAreRight =
    (network : NetworkData) (options : SynthOptions) (circuit : CircuitData) → IsNetwork network → 1 ≤ options.phases → options.phases ≤ 4
    → IsBufferedDeck network options circuit → IsCircuit circuit.ports circuit.nets circuit.devices
    → IsRightInEveryRun Overlapping network circuit (roles_of network options.phases)
    × IsRightInEveryRun Together network circuit (roles_of network options.phases)

-- a text that stands for such a circuit is a right deck
abbrev pub BufferedTextsAreRight : Type 0
BufferedTextsAreRight =
    (blif deck : List ℕ) (options : SynthOptions) (file : BlifFileData) (network : NetworkData) (circuit : CircuitData)
    → IsFileOf blif file → IsNetworkOf file network → 1 ≤ options.phases → options.phases ≤ 4
    → IsBufferedDeck network options circuit → IsDeckOf deck circuit → IsRightOverlappingDeck blif options deck

-- the circuit is honest where its clocks overlap: from the rest of reset on each state of its legal runs is, each event and each move, the
-- falls of early clocks among them, keeps it, its latches start as the network's, and an honest reading has the network's outputs and
-- next state
abbrev pub BufferedDecksAreHonest : Type 0
BufferedDecksAreHonest =
    (network : NetworkData) (options : SynthOptions) (circuit : CircuitData) → IsNetwork network → 1 ≤ options.phases → options.phases ≤ 4
    → IsBufferedDeck network options circuit → IsCircuit circuit.ports circuit.nets circuit.devices
    → IsHonestDeck Overlapping WithKeeper network circuit (roles_of network options.phases)

-- from the fall of an early clock to that of the next, while the one is 0 and the other is 1, each net of each cell of the next holds its
-- target in every state of its legal runs
abbrev pub BufferedDecksHoldTargets : Type 0
BufferedDecksHoldTargets =
    (network : NetworkData) (options : SynthOptions) (circuit : CircuitData) → IsNetwork network → 1 ≤ options.phases → options.phases ≤ 4
    → IsBufferedDeck network options circuit → IsCircuit circuit.ports circuit.nets circuit.devices
    → HeldNetsHoldTargets circuit (roles_of network options.phases)
