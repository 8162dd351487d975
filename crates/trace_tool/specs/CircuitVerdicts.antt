-- The verdict of a circuit beside a network over a stimulus, and why there is none.
use Rattle.std.specs.Prelude.{ℕ, Bool, List}
use Rattle.deck.specs.CircuitData.{CircuitData}
use Rattle.deck.specs.Roles.{AreRoles, LeavesRolesAt, ports_of}
use Rattle.deck.specs.declared.role.Roles.{Roles}
use Rattle.event_sim.specs.Orders.{By}
use Rattle.net_run.specs.Runs.{Cycle, IsNetworkRun}
use Rattle.network.specs.NetworkData.{NetworkData}
use Rattle.stim_text.specs.Stimuli.{IsStimFaultAt, IsStimulusOf}
use Rattle.stim_text.specs.declared.fault.StimKind.{StimKind}
use Rattle.trace_tool.specs.Traces.{picked_place}
use Rattle.trace_tool.specs.Verdicts.{IsVerdict}
use Rattle.trace_tool.specs.declared.fault.TraceFault.{TraceFault}
use Rattle.trace_tool.specs.declared.fault.TraceFault.TheVariants.{Blif, Flat, Deck, Ports, NoNet, Stim, Memory}
use Rattle.trace_tool.specs.declared.options.Order.{Order}
use Rattle.trace_tool.specs.declared.verdict.Verdict.{Verdict}

-- the verdict of a circuit beside a network over a stimulus for the network's inputs, in an order of events with a seed
pub record IsCircuitVerdict (network : NetworkData) (circuit : CircuitData) (stim : List ℕ) (order : Order) (seed : ℕ) (verdict : Verdict) : Type 0 where
  pub roles : Roles
  pub are_roles : AreRoles (ports_of circuit) roles
  pub stream : List (List Bool)
  pub is_stimulus : IsStimulusOf network.inputs stim stream
  pub cycles : List Cycle
  pub is_run : IsNetworkRun network stream cycles
  pub is_verdict : IsVerdict (By (picked_place order seed)) network circuit roles stream cycles verdict

-- ports that are in order, and a stimulus with a fault for the network's inputs
pub record HasStimFaultBeside (network : NetworkData) (circuit : CircuitData) (stim : List ℕ) (line : ℕ) (kind : StimKind) : Type 0 where
  pub roles : Roles
  pub are_roles : AreRoles (ports_of circuit) roles
  pub fault : IsStimFaultAt network.inputs stim line kind

-- a circuit has no verdict for this cause; out of memory comes for any
abbrev pub HasNoCircuitVerdict : NetworkData → CircuitData → List ℕ → TraceFault → Type 0
HasNoCircuitVerdict network circuit stim (Blif line kind) = ⊥
HasNoCircuitVerdict network circuit stim (Flat fault) = ⊥
HasNoCircuitVerdict network circuit stim (Deck line kind) = ⊥
HasNoCircuitVerdict network circuit stim (Ports place) = LeavesRolesAt (ports_of circuit) place
HasNoCircuitVerdict network circuit stim (NoNet name) = ⊥
HasNoCircuitVerdict network circuit stim (Stim line kind) = HasStimFaultBeside network circuit stim line kind
HasNoCircuitVerdict network circuit stim Memory = Unit {0}
