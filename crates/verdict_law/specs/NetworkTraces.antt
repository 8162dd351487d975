-- The trace of a deck that is right of a text of BLIF, the Berkeley Logic Interchange Format: each settling ends, and the line of each
-- cycle has the outputs of the text's network, in every order of events, where all clocks fall together and where they overlap.
use Rattle.std.specs.Prelude.{ℕ, ◌++◌, ◌≡◌, ◌⊎◌, ◌+◌, [], ◌∷◌, Bool, List, Some, length, map, true}
use Rattle.deck.specs.CircuitData.{CircuitData}
use Rattle.deck.specs.DeckText.{IsDeckOf}
use Rattle.deck.specs.Roles.{AreRoles, ports_of}
use Rattle.deck.specs.declared.role.Roles.{Roles}
use Rattle.event_sim.specs.declared.event.Event.{Event}
use Rattle.network.specs.NetworkData.{NetworkData}
use Rattle.net_run.specs.Runs.{Cycle, IsNetworkRun}
use Rattle.port_runs.specs.Environment.{bit}
use Rattle.port_runs.specs.declared.clocking.Clocking.{Clocking}
use Rattle.stim_text.specs.CycleLines.{cycle_line}
use Rattle.stim_text.specs.Stimuli.{IsStimulusOf}
use Rattle.trace_tool.specs.CosimRefusals.{HasNetworkOf}
use Rattle.trace_tool.specs.Probes.{AreNets}
use Rattle.trace_tool.specs.Refusals.{IsRefused}
use Rattle.trace_tool.specs.SetupData.{SetupData}
use Rattle.trace_tool.specs.TraceData.{TraceData, TraceOptionsData}
use Rattle.trace_tool.specs.TraceLines.{event_lines, power_line}
use Rattle.trace_tool.specs.Traces.{IsTraceBy, setup_of}
use Rattle.trace_tool.specs.declared.fault.TraceFault.{TraceFault}
use Rattle.trace_tool.specs.declared.fault.TraceFault.TheVariants.{Memory, NoNet}
use Rattle.verdict_law.specs.Laws.{IsRightWhere}

-- the line of a cycle with these pins, in which the network does this, after so many events
abbrev pub network_line : (number : ℕ) (pins : List Bool) (cycle : Cycle) (events : ℕ) → List ℕ
network_line number pins cycle events =
    cycle_line (record { cycle = number; pins = pins; outs = map bit cycle.outputs; events = Some events })

-- The text of cycles, numbered from a number on, with these pins and in which the network does this: of each cycle the lines of those of some
-- events that are told, and its own line, with the network's outputs and the number of these events. That they are the events of the run
-- says `IsTrace`.
abbrev pub AreNetworkLines : SetupData → (number : ℕ) (stream : List (List Bool)) (cycles : List Cycle) (text : List ℕ) → Type 0
AreNetworkLines setup number [] [] text = text ≡ []
AreNetworkLines setup number (pins ∷ stream) (cycle ∷ cycles) text =
    (events : List Event) × (rest : List ℕ) × AreNetworkLines setup (number + 1) stream cycles rest
    × (text ≡ event_lines setup events ++ network_line number pins cycle (length events) ++ rest)
AreNetworkLines setup number _ _ text = ⊥

-- the text of a run over a stream: the lines of power, and those of the cycles of the network's one run over it
pub record IsNetworkText (network : NetworkData) (setup : SetupData) (stream : List (List Bool)) (text : List ℕ) : Type 0 where
  pub cycles : List Cycle
  pub is_run : IsNetworkRun network stream cycles
  pub powered : List Event
  pub rest : List ℕ
  pub lines : AreNetworkLines setup 0 stream cycles rest
  pub text_is : text ≡ event_lines setup powered ++ power_line (length powered) ++ rest

-- the same of the bytes of a deck whose clocks fall so, with options
pub record HasNetworkOutputs (clocking : Clocking) (deck : List ℕ) (options : TraceOptionsData) (network : NetworkData)
    (stream : List (List Bool)) (text : List ℕ) : Type 0 where
  pub circuit : CircuitData
  pub roles : Roles
  pub is_deck : IsDeckOf deck circuit
  pub are_roles : AreRoles (ports_of circuit) roles
  pub is_text : IsNetworkText network (setup_of clocking circuit roles options) stream text

-- such a trace: each of its settlings ended
pub record IsNetworkTrace (clocking : Clocking) (deck : List ℕ) (options : TraceOptionsData) (network : NetworkData)
    (stream : List (List Bool)) (trace : TraceData) : Type 0 where
  pub settled : trace.settled ≡ true
  pub outputs : HasNetworkOutputs clocking deck options network stream trace.text

-- it is the trace of a deck that is right where its clocks fall so, over a stimulus for the inputs of the text's network, with all options
abbrev pub RightDeckHasOutputs : Type 0
RightDeckHasOutputs =
    (clocking : Clocking) (blif deck stim : List ℕ) (phases : ℕ) (network : NetworkData) (stream : List (List Bool))
    (options : TraceOptionsData) (trace : TraceData)
    → IsRightWhere clocking blif phases deck → HasNetworkOf blif network → IsStimulusOf network.inputs stim stream
    → IsTraceBy clocking deck stim options trace → IsNetworkTrace clocking deck options network stream trace

-- there is one where each probe names a net of the deck
abbrev pub RightDeckHasTrace : Type 0
RightDeckHasTrace =
    (clocking : Clocking) (blif deck stim : List ℕ) (phases : ℕ) (network : NetworkData) (stream : List (List Bool))
    (options : TraceOptionsData) (circuit : CircuitData)
    → IsRightWhere clocking blif phases deck → HasNetworkOf blif network → IsStimulusOf network.inputs stim stream
    → IsDeckOf deck circuit → AreNets circuit.nets options.probes
    → (trace : TraceData) × IsTraceBy clocking deck stim options trace

-- and nothing is refused but for a probe that names none, or where memory runs out
abbrev pub RightDeckIsRefusedForNets : Type 0
RightDeckIsRefusedForNets =
    (clocking : Clocking) (blif deck stim : List ℕ) (phases : ℕ) (network : NetworkData) (stream : List (List Bool))
    (options : TraceOptionsData) (why : TraceFault)
    → IsRightWhere clocking blif phases deck → HasNetworkOf blif network → IsStimulusOf network.inputs stim stream
    → IsRefused deck stim options.probes why → (why ≡ Memory) ⊎ ((name : List ℕ) × (why ≡ NoNet name))
