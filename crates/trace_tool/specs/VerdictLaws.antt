-- What holds of each file of BLIF, the Berkeley Logic Interchange Format, each deck and stimulus and their verdict.
use Rattle.std.specs.Prelude.{◌≡◌, ◌≢◌, ℕ, Bool, List}
use Rattle.deck.specs.CircuitData.{CircuitData}
use Rattle.deck.specs.DeckText.{IsDeckOf}
use Rattle.deck.specs.Roles.{AreRoles, ports_of}
use Rattle.deck.specs.declared.role.Roles.{Roles}
use Rattle.network.specs.NetworkData.{NetworkData}
use Rattle.stim_text.specs.Stimuli.{IsStimulusOf}
use Rattle.trace_tool.specs.CosimRefusals.{HasNetworkOf, IsCosimRefused}
use Rattle.trace_tool.specs.Verdicts.{IsVerdictOf}
use Rattle.trace_tool.specs.declared.fault.TraceFault.{TraceFault}
use Rattle.trace_tool.specs.declared.fault.TraceFault.TheVariants.{Memory}
use Rattle.trace_tool.specs.declared.options.Order.{Order}
use Rattle.trace_tool.specs.declared.verdict.Verdict.{Verdict}

-- in an order of events a text, a deck and a stimulus have at most one verdict, or are refused for at most one cause, and never
-- both
pub record VerdictIsOne : Type 0 where
  pub verdict : (blif deck stim : List ℕ) (order : Order) (seed : ℕ) (a b : Verdict)
      → IsVerdictOf blif deck stim order seed a → IsVerdictOf blif deck stim order seed b → a ≡ b
  pub cause : (blif deck stim : List ℕ) (a b : TraceFault) → a ≢ Memory → b ≢ Memory
      → IsCosimRefused blif deck stim a → IsCosimRefused blif deck stim b → a ≡ b
  pub apart : (blif deck stim : List ℕ) (order : Order) (seed : ℕ) (a : Verdict) (b : TraceFault) → b ≢ Memory
      → IsVerdictOf blif deck stim order seed a → IsCosimRefused blif deck stim b → ⊥

-- a text that has a network, a deck whose ports are in order, and a stimulus for the network's inputs have a verdict in each
-- order of events
abbrev pub VerdictIsThere : Type 0
VerdictIsThere = (blif deck stim : List ℕ) (order : Order) (seed : ℕ)
    (network : NetworkData) (circuit : CircuitData) (roles : Roles) (stream : List (List Bool))
    → HasNetworkOf blif network → IsDeckOf deck circuit → AreRoles (ports_of circuit) roles → IsStimulusOf network.inputs stim stream
    → (verdict : Verdict) × IsVerdictOf blif deck stim order seed verdict
