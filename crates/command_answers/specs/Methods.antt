-- The deck of a file by a method: which signs its sinks have, and what it is refused for.
use Rattle.std.specs.Prelude.{ℕ, ◌+◌, ◌≤◌, ◌<◌, ◌≡◌, Bool, List, length, map}
use Rattle.command_words.specs.declared.command.Method.{Method}
use Rattle.command_words.specs.declared.command.Method.TheVariants.{Compound, Exact, Plain, Skew}
use Rattle.compound_law.specs.Laws.{AreByteNames}
use Rattle.network.specs.NetworkData.{NetworkData}
use Rattle.deck.specs.CircuitData.{CircuitData}
use Rattle.deck.specs.DeckText.{IsDeckOf}
use Rattle.deck.specs.declared.phase.Phase.{Phase}
use Rattle.gate_decompose.specs.GateNodes.{AreGatesOf}
use Rattle.gate_decompose.specs.GatesData.{GatesData}
use Rattle.phase_assign.specs.Signs.{AreChosen}
use Rattle.exact_phase.specs.ExactSigns.{IsExact}
use Rattle.trace_tool.specs.CosimRefusals.{IsUnflattened}
use Rattle.trace_tool.specs.declared.fault.TraceFault.TheVariants.{Memory}
use Rattle.command_answers.specs.declared.fault.Fault.{Fault}
use Rattle.command_answers.specs.declared.fault.Fault.TheVariants as fault
use Rattle.command_answers.specs.Networks.{HasNetwork}

-- the signs of sinks that a method gives: the chosen ones, or those that need the fewest pairs of all
abbrev pub AreSignsOf : Method → GatesData → List Bool → Type 0
AreSignsOf (Plain version) gates signs = AreChosen gates signs
AreSignsOf Exact gates signs = (pairs : ℕ) × IsExact gates signs pairs
AreSignsOf Skew gates signs = AreChosen gates signs
AreSignsOf Compound gates signs = AreChosen gates signs

-- the signs that phases tell
abbrev pub signs_of_phases : List Phase → List Bool
signs_of_phases phases = map (λ (p : Phase). p.plus) phases

-- a text is a deck whose phases are the exact signs of the sinks of these bytes' network: no list of signs needs fewer pairs
pub record HasExactSigns (bytes text : List ℕ) : Type 0 where
  pub network : NetworkData
  pub has : HasNetwork bytes network
  pub circuit : CircuitData
  pub is_deck : IsDeckOf text circuit
  pub gates : GatesData
  pub are_gates : AreGatesOf network gates
  pub pairs : ℕ
  pub are_exact : IsExact gates (signs_of_phases circuit.phases) pairs

-- what the method says of the phases of a deck
abbrev pub HasSignsOf : Method → (bytes text : List ℕ) → Type 0
HasSignsOf (Plain version) bytes text = Unit {0}
HasSignsOf Exact bytes text = HasExactSigns bytes text
HasSignsOf Skew bytes text = Unit {0}
HasSignsOf Compound bytes text = Unit {0}

-- the outputs and the inputs of latches of a network
abbrev pub sink_count : NetworkData → ℕ
sink_count network = length network.outputs + length network.latches

-- exact signs are sought of so many sinks at most
abbrev pub most_exact_sinks : ℕ
most_exact_sinks = 12

abbrev pub IsSuited : Method → NetworkData → Type 0
IsSuited (Plain version) network = Unit {0}
IsSuited Exact network = sink_count network ≤ most_exact_sinks
IsSuited Skew network = Unit {0}
IsSuited Compound network = Unit {0}

-- what is seen of the names of a network by a method: with compound cells, that they are of bytes
abbrev pub HasNamesFor : Method → NetworkData → Type 0
HasNamesFor (Plain version) network = Unit {0}
HasNamesFor Exact network = Unit {0}
HasNamesFor Skew network = Unit {0}
HasNamesFor Compound network = AreByteNames network.names

-- a network has too many sinks for exact signs, so many
pub record HasTooManySinks (network : NetworkData) (count : ℕ) : Type 0 where
  pub count_is : count ≡ sink_count network
  pub many : most_exact_sinks < count

-- a network has no deck by the method for this fault; out of memory comes for any
abbrev pub IsUnsuited : Method → NetworkData → Fault → Type 0
IsUnsuited method network (fault.Traced why) = why ≡ Memory
IsUnsuited (Plain version) network (fault.TooManySinks count) = ⊥
IsUnsuited Exact network (fault.TooManySinks count) = HasTooManySinks network count
IsUnsuited Skew network (fault.TooManySinks count) = ⊥
IsUnsuited Compound network (fault.TooManySinks count) = ⊥

-- bytes have a network with too many sinks for exact signs, so many
pub record HaveTooManySinks (bytes : List ℕ) (count : ℕ) : Type 0 where
  pub network : NetworkData
  pub has : HasNetwork bytes network
  pub sinks : HasTooManySinks network count

-- bytes have no deck by the method for this fault; out of memory comes for any
abbrev pub IsUndecked : Method → List ℕ → Fault → Type 0
IsUndecked method bytes (fault.Traced why) = IsUnflattened bytes why
IsUndecked (Plain version) bytes (fault.TooManySinks count) = ⊥
IsUndecked Exact bytes (fault.TooManySinks count) = HaveTooManySinks bytes count
IsUndecked Skew bytes (fault.TooManySinks count) = ⊥
IsUndecked Compound bytes (fault.TooManySinks count) = ⊥
