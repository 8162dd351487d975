-- What holds of each deck and stimulus with options and their trace.
use Rattle.std.specs.Prelude.{◌≡◌, ◌≢◌, ◌↔◌, ℕ, Bool, IsTrue, List}
use Rattle.deck.specs.CircuitData.{CircuitData}
use Rattle.deck.specs.DeckText.{IsDeckOf}
use Rattle.deck.specs.Roles.{AreRoles, ports_of}
use Rattle.deck.specs.declared.role.Roles.{Roles}
use Rattle.event_sim.specs.Orders.{By}
use Rattle.event_sim.specs.Probes.{IsEdge}
use Rattle.event_sim.specs.declared.event.Edge.{Edge}
use Rattle.dom_base.specs.declared.tri.Tri.{Tri}
use Rattle.stim_text.specs.Stimuli.{IsStimulusOf}
use Rattle.trace_tool.specs.declared.fault.TraceFault.{TraceFault}
use Rattle.trace_tool.specs.declared.fault.TraceFault.TheVariants.{Memory}
use Rattle.port_runs.specs.declared.clocking.Clocking.{Clocking}
use Rattle.trace_tool.specs.declared.options.ProbeWord.{ProbeWord}
use Rattle.trace_tool.specs.Probes.{AreNets, has_edge}
use Rattle.trace_tool.specs.Refusals.{IsRefused}
use Rattle.trace_tool.specs.TraceData.{TraceData, TraceOptionsData}
use Rattle.trace_tool.specs.Traces.{IsRun, IsTraceBy}
use Rattle.trace_tool.specs.SetupData.{SetupData}

-- over the same cycles a circuit has at most one trace in each order
abbrev pub TraceIsOne : Type 0
TraceIsOne = (order : ℕ → ℕ → ℕ) (setup : SetupData) (cycles : List (List Bool)) (a b : TraceData)
    → IsRun (By order) setup cycles a → IsRun (By order) setup cycles b → a ≡ b

-- where its clocks fall so, with its options a deck and a stimulus have at most one trace, or are refused for at most one cause, and never
-- both
pub record AnswerIsOne (clocking : Clocking) : Type 0 where
  pub trace : (deck stim : List ℕ) (options : TraceOptionsData) (a b : TraceData)
      → IsTraceBy clocking deck stim options a → IsTraceBy clocking deck stim options b → a ≡ b
  pub cause : (deck stim : List ℕ) (probes : List ProbeWord) (a b : TraceFault) → a ≢ Memory → b ≢ Memory
      → IsRefused deck stim probes a → IsRefused deck stim probes b → a ≡ b
  pub apart : (deck stim : List ℕ) (options : TraceOptionsData) (a : TraceData) (b : TraceFault) → b ≢ Memory
      → IsTraceBy clocking deck stim options a → IsRefused deck stim options.probes b → ⊥

-- a deck whose ports are in order has a trace over each stimulus for its pins, for all options whose probe words name its nets
abbrev pub TraceIsThere : Clocking → Type 0
TraceIsThere clocking = (deck stim : List ℕ) (options : TraceOptionsData) (circuit : CircuitData) (roles : Roles)
    (cycles : List (List Bool))
    → IsDeckOf deck circuit → AreRoles (ports_of circuit) roles → AreNets circuit.nets options.probes
    → IsStimulusOf roles.pins stim cycles
    → (trace : TraceData) × IsTraceBy clocking deck stim options trace

-- a probe word tells an event of its net exactly where the relation of the word's edge holds of the old and the new value
abbrev pub EdgesAreTold : Type 0
EdgesAreTold = (edge : Edge) (before after : Tri) → IsTrue (has_edge edge before after) ↔ IsEdge edge before after
