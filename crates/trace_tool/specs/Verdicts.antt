-- The verdict of a deck beside a file of BLIF, the Berkeley Logic Interchange Format, over a stimulus: the first of these that a
-- run in an order of events meets: a port that isn't the network's, before any event; a settling that ends without rest; at the
-- reading of a cycle an output that isn't the network's. If it meets none, the verdict is that all is the same.
use Rattle.std.specs.Prelude.{ℕ, ◌≡◌, ◌≢◌, ◌⊎◌, ◌+◌, Bool, List, [], ◌∷◌, ◌++◌, length, map, Some, slice_get, slice_index_or, take, drop}
use Rattle.dom_base.specs.declared.tri.Tri.{Tri}
use Rattle.deck.specs.CircuitData.{CircuitData}
use Rattle.deck.specs.DeckText.{IsDeckOf}
use Rattle.deck.specs.PortLayout.{first_output, first_pin}
use Rattle.deck.specs.PortNames.{output_name, pin_name}
use Rattle.deck.specs.Roles.{AreRoles, ports_of}
use Rattle.deck.specs.declared.role.Roles.{Roles}
use Rattle.network.specs.NetworkData.{NetworkData}
use Rattle.net_run.specs.Runs.{Cycle, IsNetworkRun}
use Rattle.event_sim.specs.Orders.{By}
use Rattle.port_runs.specs.Environment.{bit}
use Rattle.stim_text.specs.Stimuli.{IsStimulusOf}
use Rattle.trace_tool.specs.CosimRefusals.{HasNetworkOf}
use Rattle.trace_tool.specs.Courses.{Course, IsCourse, Settled, State, Unsettled}
use Rattle.trace_tool.specs.Moves.{evaluation_by, latching_moves, power_moves}
use Rattle.trace_tool.specs.SetupData.{SetupData, silent}
use Rattle.trace_tool.specs.Traces.{picked_place, outputs, power_state}
use Rattle.trace_tool.specs.declared.options.Order.{Order}
use Rattle.trace_tool.specs.declared.verdict.Verdict.{Verdict}
use Rattle.trace_tool.specs.declared.verdict.Verdict.TheVariants as verdicts

-- the ports that a network's deck has from the first pin on: its inputs and then its outputs, by their escaped names
abbrev pub network_ports : NetworkData → List (List ℕ)
network_ports n =
    map pin_name (take n.inputs n.names) ++ map (λ signal. output_name (slice_index_or n.names signal [])) n.outputs

-- the ports of a circuit from the first pin on
abbrev pub pins_and_outputs : CircuitData → Roles → List (List ℕ)
pins_and_outputs c roles = drop (first_pin roles) (ports_of c)

-- two lists of ports differ first at an index: up to it they are the same, and there they aren't, or one of them has ended
pub record DifferFirstAt (wanted found : List (List ℕ)) (index : ℕ) : Type 0 where
  pub before : take index wanted ≡ take index found
  pub apart : slice_get wanted index ≢ slice_get found index

-- the values of the outputs, whose nets have these names, aren't these bits, and the first that isn't its bit is this one
pub record IsFirstWrong (names : List (List ℕ)) (wanted : List Bool) (found : List Tri)
    (pin : List ℕ) (one : Bool) (value : Tri) : Type 0 where
  pub index : ℕ
  pub before : take index (map bit wanted) ≡ take index found
  pub pin_is : slice_get names index ≡ Some pin
  pub wanted_is : slice_get wanted index ≡ Some one
  pub found_is : slice_get found index ≡ Some value
  pub apart : value ≢ bit one

-- a course in a cycle, 0 in power: where it settled the verdict is what follows, and where one of its settlings ended unsettled
-- the verdict says so, with the number of the events of that one alone
abbrev pub IsAfter : ℕ → Course → Type 0 → Verdict → Type 0
IsAfter cycle (Settled events) Follows verdict = Follows
IsAfter cycle (Unsettled events last) Follows verdict = verdict ≡ verdicts.Unsettled cycle (length last)

-- the reading of a cycle in which the network has these outputs: where some output differs the verdict says the first, and
-- else it is what follows
abbrev pub IsReadingVerdict : SetupData → ℕ → List Bool → State → Type 0 → Verdict → Type 0
IsReadingVerdict setup cycle wanted read Follows verdict =
    ((pin : List ℕ) × (one : Bool) × (value : Tri)
    × IsFirstWrong (drop (first_output setup.roles) (ports_of setup.circuit)) wanted (outputs setup.roles read.values) pin one value
    × (verdict ≡ verdicts.Differ cycle pin one value))
    ⊎ ((outputs setup.roles read.values ≡ map bit wanted) × Follows)

-- the verdict from the beginning of a cycle on, in which the pins take these bits and the network has these outputs: the pins take
-- their bits and the clocks rise, the outputs are read, and then come the moves of the latches; what follows is said of the state
-- in which the cycle ends
abbrev pub IsCycleVerdict : (ℕ → ℕ → ℕ → Type 0) → SetupData → State → ℕ → List Bool → List Bool → (State → Type 0) → Verdict → Type 0
IsCycleVerdict order setup s cycle pins wanted Follows verdict =
    (evaluated : Course) × (read : State) × IsCourse order setup s (evaluation_by setup.clocking setup.roles pins) evaluated read
    × IsAfter cycle evaluated (IsReadingVerdict setup cycle wanted read
    ((latched : Course) × (last : State) × IsCourse order setup read (latching_moves setup.roles) latched last
    × IsAfter cycle latched (Follows last) verdict) verdict) verdict

-- the verdict over the cycles from one on, from a state, where these are the network's cycles
abbrev pub IsVerdictFrom : (ℕ → ℕ → ℕ → Type 0) → SetupData → State → ℕ → List (List Bool) → List Cycle → Verdict → Type 0
IsVerdictFrom order setup s cycle [] [] verdict = verdict ≡ verdicts.Same cycle s.step
IsVerdictFrom order setup s cycle (pins ∷ stream) (wanted ∷ cycles) verdict =
    IsCycleVerdict order setup s cycle pins wanted.outputs
    (λ last. IsVerdictFrom order setup last (cycle + 1) stream cycles verdict) verdict
IsVerdictFrom order setup s cycle _ _ verdict = ⊥

-- the verdict of a run over these cycles: power, then each cycle; its step at the end is the number of its events modulo 2^64
abbrev pub IsRunVerdict : (ℕ → ℕ → ℕ → Type 0) → SetupData → List (List Bool) → List Cycle → Verdict → Type 0
IsRunVerdict order setup stream cycles verdict =
    (powered : Course) × (start : State) × IsCourse order setup (power_state setup) (power_moves setup.roles) powered start
    × IsAfter 0 powered (IsVerdictFrom order setup start 0 stream cycles verdict) verdict

-- the verdict of a circuit beside a network over a stream of bits for its inputs
abbrev pub IsVerdict : (ℕ → ℕ → ℕ → Type 0) → NetworkData → CircuitData → Roles → List (List Bool) → List Cycle → Verdict → Type 0
IsVerdict order network circuit roles stream cycles verdict =
    ((index : ℕ) × DifferFirstAt (network_ports network) (pins_and_outputs circuit roles) index
    × (verdict ≡ verdicts.PortsDiffer (first_pin roles + index)))
    ⊎ ((pins_and_outputs circuit roles ≡ network_ports network) × IsRunVerdict order (silent circuit roles) stream cycles verdict)

-- the verdict of a deck beside a text over a stimulus for the inputs of the text's network, in an order of events with a seed
pub record IsVerdictOf (blif deck stim : List ℕ) (order : Order) (seed : ℕ) (verdict : Verdict) : Type 0 where
  pub network : NetworkData
  pub has : HasNetworkOf blif network
  pub circuit : CircuitData
  pub roles : Roles
  pub is_deck : IsDeckOf deck circuit
  pub are_roles : AreRoles (ports_of circuit) roles
  pub stream : List (List Bool)
  pub is_stimulus : IsStimulusOf network.inputs stim stream
  pub cycles : List Cycle
  pub is_run : IsNetworkRun network stream cycles
  pub is_verdict : IsVerdict (By (picked_place order seed)) network circuit roles stream cycles verdict
