-- One cycle of a run that is printed.
use Rattle.std.specs.Prelude.{ℕ, ◌≡◌, ◌++◌, Bool, List}
use Rattle.network.specs.NetworkData.{NetworkData}
use Rattle.net_run.specs.RunnerData.{RunnerData, RunsNetwork}
use Rattle.net_run.specs.Runs.{IsNetworkCycle}
use Rattle.stim_text.specs.CycleLines.{cycle_line}
use Rattle.command_answers.specs.Networks.{run_row}

-- a runner goes through a cycle of each network that it runs, and its line is appended to a text
pub record PutsCycle (number : ℕ) (pins : List Bool) (old new : RunnerData) (before after : List ℕ) : Type 0 where
  pub outputs : List Bool
  pub cycle : (n : NetworkData) → RunsNetwork n old → IsNetworkCycle n pins old.state (record { outputs = outputs; next = new.state }) × RunsNetwork n new
  pub text_is : after ≡ before ++ cycle_line (run_row number pins (record { outputs = outputs; next = new.state }))
