-- What the calls of a run do that compare its cycles with a network's.
use Rattle.std.specs.Prelude.{ℕ, ◌≡◌, ◌≢◌, Bool, List, Option, Some, None, Result, Ok, Err, length, map, slice_get, take}
use Rattle.dom_base.specs.declared.tri.Tri.{Tri}
use Rattle.deck.specs.declared.role.Roles.{Roles}
use Rattle.network.specs.NetworkData.{NetworkData}
use Rattle.net_run.specs.RunnerData.{RunnerData, RunsNetwork}
use Rattle.net_run.specs.Runs.{Cycle, IsNetworkCycle, IsNetworkRunFrom}
use Rattle.port_runs.specs.Environment.{bit}
use Rattle.trace_tool.specs.RunData.{RunData}
use Rattle.trace_tool.specs.Verdicts.{IsCycleVerdict, IsVerdictFrom}
use Rattle.trace_tool.specs.declared.halt.Halt.{Halt}
use Rattle.trace_tool.specs.declared.halt.Halt.TheVariants as halts
use Rattle.trace_tool.specs.declared.verdict.Verdict.{Verdict}
use Rattle.trace_tool.specs.declared.verdict.Verdict.TheVariants as verdicts

-- a runner of a network with as many inputs and outputs as these roles have pins and outputs
abbrev pub IsBeside : Roles → RunnerData → Type 0
IsBeside roles runner = (n : NetworkData) × RunsNetwork n runner × (n.inputs ≡ roles.pins) × (length n.outputs ≡ roles.outs)

-- the verdict of a run that halted in a cycle
abbrev pub StopsAt : ℕ → Halt → Verdict → Type 0
StopsAt cycle (halts.Unsettled events) verdict = verdict ≡ verdicts.Unsettled cycle events
StopsAt cycle halts.Memory verdict = ⊥

-- the value at an index is the first that isn't its bit
pub record IsWrongAt (wanted : List Bool) (found : List Tri) (index : ℕ) : Type 0 where
  pub before : take index (map bit wanted) ≡ take index found
  pub one : Bool
  pub value : Tri
  pub wanted_is : slice_get wanted index ≡ Some one
  pub found_is : slice_get found index ≡ Some value
  pub apart : value ≢ bit one

-- the first of some values that isn't its bit; or there is none
abbrev pub ComparesBits : List Bool → List Tri → Option ℕ → Type 0
ComparesBits wanted found (Some index) = IsWrongAt wanted found index
ComparesBits wanted found None = found ≡ map bit wanted

module _ {F : Type 0} where
  -- the verdict of a cycle is decided in it
  abbrev pub Decides : (F → ℕ → ℕ → ℕ → Type 0) → ℕ → List Bool → List Bool → RunData F → Verdict → Type 0
  Decides P number pins wanted before verdict =
      IsCycleVerdict (P before.pick) before.setup before.state number pins wanted (λ last. ⊥) verdict

  -- a cycle in which nothing differs: the verdict is what follows
  pub record Passes (P : F → ℕ → ℕ → ℕ → Type 0) (number : ℕ) (pins wanted : List Bool) (before now : RunData F) : Type 0 where
    pub follows : (verdict : Verdict)
        → IsCycleVerdict (P before.pick) before.setup before.state number pins wanted (λ last. last ≡ now.state) verdict
    pub same_setup : now.setup ≡ before.setup
    pub same_pick : now.pick ≡ before.pick

  abbrev pub ComparesOutputs : (F → ℕ → ℕ → ℕ → Type 0) → ℕ → List Bool → List Bool → RunData F → Option Verdict → RunData F → Type 0
  ComparesOutputs P number pins wanted before (Some verdict) now = Decides P number pins wanted before verdict
  ComparesOutputs P number pins wanted before None now = Passes P number pins wanted before now

  -- the same of a cycle that may halt
  abbrev pub ComparesReading : (F → ℕ → ℕ → ℕ → Type 0) → ℕ → List Bool → List Bool → RunData F → Result (Option Verdict) Halt → RunData F
      → Type 0
  ComparesReading P number pins wanted before (Ok verdict) now = ComparesOutputs P number pins wanted before verdict now
  ComparesReading P number pins wanted before (Err (halts.Unsettled events)) now =
      Decides P number pins wanted before (verdicts.Unsettled number events)
  ComparesReading P number pins wanted before (Err halts.Memory) now = Unit {0}

  -- a cycle beside one of each network that the runner runs
  pub record ComparesCycle (P : F → ℕ → ℕ → ℕ → Type 0) (number : ℕ) (pins : List Bool) (before : RunData F) (old : RunnerData)
      (verdict : Option Verdict) (now : RunData F) (new : RunnerData) : Type 0 where
    pub outputs : List Bool
    pub cycle : (n : NetworkData) → RunsNetwork n old
        → IsNetworkCycle n pins old.state (record { outputs = outputs; next = new.state }) × RunsNetwork n new
    pub compared : ComparesOutputs P number pins outputs before verdict now

  -- the verdict of all cycles of a stream beside those of each network that the runner runs
  abbrev pub ComparesAll : (F → ℕ → ℕ → ℕ → Type 0) → RunData F → RunnerData → List (List Bool) → Verdict → Type 0
  ComparesAll P before runner stream verdict = (n : NetworkData) (cycles : List Cycle) → RunsNetwork n runner
      → IsNetworkRunFrom n runner.state stream cycles
      → IsVerdictFrom (P before.pick) before.setup before.state 0 stream cycles verdict
