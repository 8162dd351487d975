-- Dynamic nets, domino outputs and evaluation periods of a circuit by its ports (Rabaey, Digital Integrated Circuits: domino logic).
use Rattle.std.specs.List.{AllByRecursion}
use Rattle.std.specs.Prelude.{Contains, List, [], ℕ, ◌+◌, ◌++◌, ◌<◌, ◌∷◌, ◌≡◌, ◌≢◌, ◌≤◌}
use Rattle.dom_base.specs.declared.kind.Kind.TheVariants.{P as pch}
use Rattle.dom_base.specs.declared.tri.Tri.{Tri}
use Rattle.deck.specs.CircuitData.{CircuitData}
use Rattle.deck.specs.Paths.{Ends}
use Rattle.deck.specs.PortLayout.{first_clock}
use Rattle.deck.specs.Switches.{value_of}
use Rattle.deck.specs.declared.device.Device.{Device}
use Rattle.deck.specs.declared.role.Roles.{Roles}
use Rattle.switch_model.specs.LinksData.{LinksData, links_of}
use Rattle.port_runs.specs.Environment.{Evaluation, Fall, Happens, Moves, Open, Precharge, Step, World}
use Rattle.port_runs.specs.declared.clocking.Clocking.{Clocking}
use Rattle.port_runs.specs.LegalSteps.{HasEvent}
use Rattle.port_runs.specs.PortRuns.{Runs, RunsBy}

-- the ports `vdd` and `vss`, and the clock ports behind them
abbrev pub vdd_port : ℕ
vdd_port = 0

abbrev pub vss_port : ℕ
vss_port = 1

abbrev pub IsClockPort : Roles → ℕ → Type 0
IsClockPort roles n = (first_clock ≤ n) × (n < first_clock + roles.clocks)

-- a dynamic net is joined to `vdd` by a `pch` that a clock gates
pub record IsDynamicNetIn (devices : List Device) (IsClock : ℕ → Type 0) (vdd n : ℕ) : Type 0 where
  pub precharge : Device
  pub there : Contains devices precharge
  pub kind_is : precharge.kind ≡ pch
  pub gated : IsClock precharge.gate
  pub joined : Ends precharge n vdd

-- a domino output is joined to `vdd` by a `pch` that a dynamic net gates
pub record IsDominoOutputIn (devices : List Device) (IsClock : ℕ → Type 0) (vdd n : ℕ) : Type 0 where
  pub pull_up : Device
  pub there : Contains devices pull_up
  pub kind_is : pull_up.kind ≡ pch
  pub gated : IsDynamicNetIn devices IsClock vdd pull_up.gate
  pub joined : Ends pull_up n vdd

-- the same by the ports of a circuit
abbrev pub IsDynamicNet : CircuitData → Roles → ℕ → Type 0
IsDynamicNet c roles n = IsDynamicNetIn c.devices (IsClockPort roles) vdd_port n

abbrev pub IsDominoOutput : CircuitData → Roles → ℕ → Type 0
IsDominoOutput c roles n = IsDominoOutputIn c.devices (IsClockPort roles) vdd_port n

-- the step doesn't end an evaluation period
abbrev pub IsInPeriod : Step → Type 0
IsInPeriod step = step ≢ Moves (Open Precharge)

-- nor that of clock i, which lasts to its fall where that is before precharge
abbrev pub IsInPeriodOf : ℕ → Step → Type 0
IsInPeriodOf i step = IsInPeriod step × (step ≢ Moves (Fall i))

-- no step is an event of the net
abbrev pub IsNever : ℕ → List Step → Type 0
IsNever n steps = AllByRecursion (λ step. step ≢ Happens n) steps

-- at most one is
abbrev pub IsAtMostOnce : ℕ → List Step → Type 0
IsAtMostOnce n [] = Unit {0}
IsAtMostOnce n (step ∷ steps) = (step ≡ Happens n → IsNever n steps) × IsAtMostOnce n steps

-- the last steps of a run, each of which doesn't end the period, since it opened an evaluation
pub record IsSinceEvaluation (IsRun : List Step → World → Type 0) (IsWithin : Step → Type 0) (steps : List Step) (w : World) : Type 0 where
  pub earlier : List Step
  pub run : IsRun (earlier ++ Moves (Open Evaluation) ∷ steps) w
  pub period : AllByRecursion IsWithin steps

-- those of a legal run, since it opened an evaluation whose precharge it has not opened
abbrev pub IsInEvaluation : CircuitData → Roles → List Step → World → Type 0
IsInEvaluation c roles steps w = IsSinceEvaluation (Runs c roles) IsInPeriod steps w

-- and since it opened an evaluation in which clock i has not fallen
abbrev pub IsInPeriodBy : Clocking → CircuitData → Roles → ℕ → List Step → World → Type 0
IsInPeriodBy clocking c roles i steps w = IsSinceEvaluation (RunsBy clocking c roles) (IsInPeriodOf i) steps w

-- a net has at most one event in an evaluation period, and it takes the net from one value to the other: among the steps so far
-- there is at most one, and where one comes next, there is none among them
pub record IsOnceIn (links : LinksData) (steps : List Step) (w : World) (n : ℕ) (from to : Tri) : Type 0 where
  pub once : IsAtMostOnce n steps
  pub event : (w' : World) → HasEvent links n w w'
      → (value_of w.values n ≡ from) × (value_of w'.values n ≡ to) × IsNever n steps

abbrev pub IsOnce : CircuitData → Roles → List Step → World → ℕ → Tri → Tri → Type 0
IsOnce c roles steps w n from to = IsOnceIn (links_of c roles) steps w n from to
