-- Where legal runs by ports are read: beyond the rest of reset, at the reading of a cycle, and where the slaves have been closed.
use Rattle.std.specs.Prelude.{Bool, List, ℕ, ◌≡◌, ◌≢◌, ◌⊎◌}
use Rattle.deck.specs.CircuitData.{CircuitData}
use Rattle.deck.specs.declared.role.Roles.{Roles}
use Rattle.switch_model.specs.LinksData.{LinksData, links_of}
use Rattle.port_runs.specs.Environment.{Evaluation, Launched, Reset, Step, World, stream_of}
use Rattle.port_runs.specs.declared.clocking.Clocking.{Clocking}
use Rattle.port_runs.specs.LegalSteps.{RestsIn}
use Rattle.port_runs.specs.PortRuns.{Rests, RunsBy}

-- a legal run that has come to the rest of reset
pub record HasResetBy (clocking : Clocking) (c : CircuitData) (roles : Roles) (w : World) : Type 0 where
  pub steps : List Step
  pub run : RunsBy clocking c roles steps w
  pub beyond : (w.place ≢ Reset) ⊎ Rests c roles w

-- the reading of a cycle: the rest of evaluation with all of so many clocks risen
pub record IsReadingIn (links : LinksData) (clocks : ℕ) (w : World) : Type 0 where
  pub place : w.place ≡ Evaluation
  pub risen : w.risen ≡ clocks
  pub rests : RestsIn links w

abbrev pub IsReading : CircuitData → Roles → World → Type 0
IsReading c roles w = IsReadingIn (links_of c roles) roles.clocks w

-- a legal run that took this stream and stands at the reading of its last cycle
pub record IsReadBy (clocking : Clocking) (c : CircuitData) (roles : Roles) (stream : List (List Bool)) (steps : List Step) (w : World) : Type 0 where
  pub run : RunsBy clocking c roles steps w
  pub stream_is : stream_of steps ≡ stream
  pub reading : IsReading c roles w

-- and one that rests where the slaves have been closed after it
pub record IsLaunchedBy (clocking : Clocking) (c : CircuitData) (roles : Roles) (stream : List (List Bool)) (steps : List Step) (w : World) : Type 0 where
  pub run : RunsBy clocking c roles steps w
  pub stream_is : stream_of steps ≡ stream
  pub place : w.place ≡ Launched
  pub rests : Rests c roles w
