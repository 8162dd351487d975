-- The verdict of a deck that realises the network of a text of BLIF, the Berkeley Logic Interchange Format: all is the same, in every
-- order of events.
use Rattle.std.specs.Prelude.{ℕ, ◌++◌, ◌≡◌, ◌≤◌, All, Bool, List, length, map, take}
use Rattle.dom_base.specs.declared.tri.Tri.{Tri}
use Rattle.deck.specs.CircuitData.{CircuitData}
use Rattle.deck.specs.DeckText.{IsDeckOf}
use Rattle.deck.specs.Ports.{leading_ports}
use Rattle.deck.specs.Roles.{AreRoles, ports_of}
use Rattle.deck.specs.declared.role.Roles.{Roles}
use Rattle.switch_model.specs.LinksData.{links_of}
use Rattle.event_sim.specs.Orders.{By}
use Rattle.event_sim.specs.Settling.{most_events}
use Rattle.network.specs.NetworkData.{NetworkData}
use Rattle.network.specs.Networks.{IsNetwork}
use Rattle.net_run.specs.Runs.{Cycle, IsNetworkRun}
use Rattle.port_runs.specs.Environment.{Happens, Step, World, bit, stream_of}
use Rattle.port_runs.specs.PortRuns.{LeadsBy, RunsBy}
use Rattle.port_runs.specs.Readings.{IsReading}
use Rattle.port_runs.specs.declared.clocking.Clocking.{Clocking}
use Rattle.port_runs.specs.declared.clocking.Clocking.TheVariants.{Together}
use Rattle.stim_text.specs.Stimuli.{IsStimulusOf}
use Rattle.trace_tool.specs.CosimRefusals.{HasNetworkOf, IsCosimRefused}
use Rattle.trace_tool.specs.Traces.{outputs}
use Rattle.trace_tool.specs.Verdicts.{IsVerdict, IsVerdictOf, network_ports, pins_and_outputs}
use Rattle.trace_tool.specs.declared.fault.TraceFault.{TraceFault}
use Rattle.trace_tool.specs.declared.fault.TraceFault.TheVariants.{Memory}
use Rattle.trace_tool.specs.declared.options.Order.{Order}
use Rattle.trace_tool.specs.declared.verdict.Verdict.{Verdict}
use Rattle.trace_tool.specs.declared.verdict.Verdict.TheVariants.{Same}
use Rattle.deck_form.specs.DeckOptions.{DeckOptions}
use Rattle.deck_law.specs.Headline.{IsCycleOf, IsRightDeck, IsRightInEveryRun, input_ports, output_ports, roles_of}

-- the outputs are those of the network in the cycle of the last pins that the steps took
pub record HasOutputs (network : NetworkData) (roles : Roles) (steps : List Step) (values : List Tri) : Type 0 where
  pub cycle : Cycle
  pub is_cycle : IsCycleOf network (stream_of steps) cycle
  pub outputs_are : outputs roles values ≡ map bit cycle.outputs

-- A circuit whose clocks fall so realises a network in time: in every legal run there are at most so many events between two moves, and at
-- each reading the outputs are the network's.
pub record RealisesInTime (clocking : Clocking) (network : NetworkData) (c : CircuitData) (roles : Roles) : Type 0 where
  pub few_events : (steps : List Step) (events : List ℕ) (w w' : World) → RunsBy clocking c roles steps w
      → LeadsBy clocking c roles (map (λ n. Happens n) events) w w' → length events ≤ most_events (links_of c roles)
  pub reads : (steps : List Step) (w : World) → RunsBy clocking c roles steps w → IsReading c roles w
      → HasOutputs network roles steps w.values

-- all is the same over so many cycles
pub record IsSame (verdict : Verdict) (cycles : ℕ) : Type 0 where
  pub events : ℕ
  pub verdict_is : verdict ≡ Same cycles events

-- a circuit that has a network's ports and realises it in time where all clocks fall together has this verdict over each stream, in each
-- order of events
abbrev pub RealisedIsSame : Type 0
RealisedIsSame =
    (order : ℕ → ℕ → ℕ) (network : NetworkData) (c : CircuitData) (roles : Roles) (stream : List (List Bool)) (cycles : List Cycle) (verdict : Verdict)
    → IsNetwork network → AreRoles (ports_of c) roles → pins_and_outputs c roles ≡ network_ports network
    → RealisesInTime Together network c roles
    → IsNetworkRun network stream cycles
    → IsVerdict (By order) network c roles stream cycles verdict → IsSame verdict (length stream)

-- a verdict of a text and a deck over a stimulus is that all is the same in each of its cycles
pub record IsSameOver (blif stim : List ℕ) (verdict : Verdict) : Type 0 where
  pub network : NetworkData
  pub has : HasNetworkOf blif network
  pub stream : List (List Bool)
  pub is_stimulus : IsStimulusOf network.inputs stim stream
  pub is_same : IsSame verdict (length stream)

-- The bytes of a deck on so many clocks, for the bytes of a text: they read back as a circuit with the ports of the text's network that
-- is right in every run in which its clocks fall so, whatever its cells are.
pub record IsRightWhere (clocking : Clocking) (blif : List ℕ) (phases : ℕ) (deck : List ℕ) : Type 0 where
  pub network : NetworkData
  pub has : HasNetworkOf blif network
  pub circuit : CircuitData
  pub reads_back : IsDeckOf deck circuit
  pub no_other : (other : CircuitData) → IsDeckOf deck other → other ≡ circuit
  pub some_clock : 1 ≤ phases
  pub few_clocks : phases ≤ 4
  pub ports : take circuit.ports circuit.nets ≡ leading_ports phases ++ input_ports network ++ output_ports network
  pub right : IsRightInEveryRun clocking network circuit (roles_of network phases)

-- where all fall together
abbrev pub IsRightTogether : (blif : List ℕ) (phases : ℕ) (deck : List ℕ) → Type 0
IsRightTogether blif phases deck = IsRightWhere Together blif phases deck

-- On one clock, where none can fall before another, what is right where all clocks fall together is right in each clocking.
abbrev pub OneClockIsRight : Type 0
OneClockIsRight = (clocking : Clocking) (blif deck : List ℕ) → IsRightTogether blif 1 deck → IsRightWhere clocking blif 1 deck

-- each right deck is right where all fall together
abbrev pub right_together : {blif : List ℕ} {options : DeckOptions} {deck : List ℕ} → IsRightDeck blif options deck
    → IsRightTogether blif options.phases deck
right_together right = record {
  network = right.network;
  has = record { file = right.file; accepted = right.is_file; network_is = right.is_network };
  circuit = right.circuit;
  reads_back = right.reads_back;
  no_other = right.no_other;
  some_clock = (right.is_deck).some_clock;
  few_clocks = (right.is_deck).few_clocks;
  ports = right.ports;
  right = right.right;
}

-- such a deck of a text, in either style, has this verdict over each stimulus, in each order of events
abbrev pub RightDeckIsSame : Type 0
RightDeckIsSame =
    (blif deck stim : List ℕ) (phases : ℕ) (order : Order) (seed : ℕ) (verdict : Verdict)
    → IsRightTogether blif phases deck → IsVerdictOf blif deck stim order seed verdict → IsSameOver blif stim verdict

-- and over a stimulus for the inputs of the text's network nothing is refused
abbrev pub RightDeckIsAccepted : Type 0
RightDeckIsAccepted =
    (blif deck stim : List ℕ) (phases : ℕ) (network : NetworkData) (stream : List (List Bool)) (why : TraceFault)
    → IsRightTogether blif phases deck → HasNetworkOf blif network → IsStimulusOf network.inputs stim stream
    → IsCosimRefused blif deck stim why → why ≡ Memory
