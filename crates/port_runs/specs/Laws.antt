-- What holds of every legal run by the order of its moves alone.
use Rattle.std.specs.List.{AllByRecursion}
use Rattle.std.specs.Prelude.{Bool, List, [], false, length, ℕ, ◌++◌, ◌+◌, ◌<◌, ◌∷◌, ◌≡◌, ◌≢◌, ◌≤◌, ◌⊎◌}
use Rattle.dom_base.specs.declared.tri.Tri.{Tri}
use Rattle.deck.specs.CircuitData.{CircuitData}
use Rattle.deck.specs.PortLayout.{source_count}
use Rattle.deck.specs.declared.role.Roles.{Roles}
use Rattle.switch_model.specs.LinksData.{is_first}
use Rattle.switch_model.specs.Targets.{EventAt}
use Rattle.port_runs.specs.Environment.{Capture, Captured, Evaluation, Fall, Happens, Launch, Launched, Move, Moves, Open, Pins, Precharge, Released, Reset, Rise, Step, Take, World, after_move, settings_of, stream_of}
use Rattle.port_runs.specs.declared.clocking.Clocking.{Clocking}
use Rattle.port_runs.specs.declared.clocking.Clocking.TheVariants.{Overlapping}
use Rattle.port_runs.specs.Moves.{set_all}
use Rattle.port_runs.specs.Order.{StandsAfter}
use Rattle.port_runs.specs.Periods.{IsInEvaluation}
use Rattle.port_runs.specs.PortRuns.{Does, LeadsBy, Rests, Runs, RunsBy}

-- a run stands where its stream of pins, its place and the clocks that have risen put it, and took one bit for each pin in each cycle
pub record IsInOrder (c : CircuitData) (roles : Roles) (steps : List Step) (w : World) : Type 0 where
  pub stands : StandsAfter roles.clocks (stream_of steps) w.place w.risen w.past w.pins
  pub bits : AllByRecursion (λ bits. length bits ≡ roles.pins) (stream_of steps)
  pub whole : source_count roles ≤ length c.nets → length w.values ≡ length c.nets

-- each legal run does
abbrev pub RunsStandInOrder : Type 0
RunsStandInOrder = (clocking : Clocking) (c : CircuitData) (roles : Roles) (steps : List Step) (w : World) → RunsBy clocking c roles steps w → IsInOrder c roles steps w

-- a legal run may be cut anywhere: its first steps are one, and the others lead on
abbrev pub RunsAreCutAnywhere : Type 0
RunsAreCutAnywhere =
    (clocking : Clocking) (c : CircuitData) (roles : Roles) (steps more : List Step) (w : World) → RunsBy clocking c roles (steps ++ more) w
    → (u : World) × RunsBy clocking c roles steps u × LeadsBy clocking c roles more u w

-- where a run stands after a move, whose ports are set together
abbrev pub world_after : Roles → Move → World → World
world_after roles move w = record (after_move move w) { values = set_all w.values (settings_of roles move w.risen) }

-- A run may go on by the event of each pending net, at any moment; by each move of the environment at the rest of the place before
-- it, capture with all clocks risen; in evaluation by the rise of the next clock, at rest or not; and where clocks overlap by the fall of one
-- at a rest at which the next has risen.
pub record MayGoOn (clocking : Clocking) (c : CircuitData) (roles : Roles) (steps : List Step) (w : World) : Type 0 where
  pub event : (n : ℕ) (values : List Tri) → EventAt c.devices (is_first (source_count roles)) n w.values values
      → RunsBy clocking c roles (steps ++ Happens n ∷ []) (record w { values = values })
  pub released : w.place ≡ Reset → Rests c roles w
      → RunsBy clocking c roles (steps ++ Moves (Open Released) ∷ []) (world_after roles (Open Released) w)
  pub pins : (bits : List Bool) → (w.place ≡ Released) ⊎ (w.place ≡ Launched) → Rests c roles w → length bits ≡ roles.pins
      → RunsBy clocking c roles (steps ++ Moves (Take bits) ∷ []) (world_after roles (Take bits) w)
  pub evaluation : w.place ≡ Pins → Rests c roles w
      → RunsBy clocking c roles (steps ++ Moves (Open Evaluation) ∷ []) (world_after roles (Open Evaluation) w)
  pub later_clock : w.place ≡ Evaluation → w.risen < roles.clocks
      → RunsBy clocking c roles (steps ++ Moves Rise ∷ []) (world_after roles Rise w)
  pub early : (k : ℕ) → clocking ≡ Overlapping → w.place ≡ Evaluation → Rests c roles w → k + 1 < w.risen → w.fallen k ≡ false
      → k + 1 < roles.clocks
      → RunsBy clocking c roles (steps ++ Moves (Fall k) ∷ []) (world_after roles (Fall k) w)
  pub capture : w.place ≡ Evaluation → w.risen ≡ roles.clocks → Rests c roles w
      → RunsBy clocking c roles (steps ++ Moves (Open Capture) ∷ []) (world_after roles (Open Capture) w)
  pub captured : w.place ≡ Capture → Rests c roles w
      → RunsBy clocking c roles (steps ++ Moves (Open Captured) ∷ []) (world_after roles (Open Captured) w)
  pub precharge : w.place ≡ Captured → Rests c roles w
      → RunsBy clocking c roles (steps ++ Moves (Open Precharge) ∷ []) (world_after roles (Open Precharge) w)
  pub launch : w.place ≡ Precharge → Rests c roles w
      → RunsBy clocking c roles (steps ++ Moves (Open Launch) ∷ []) (world_after roles (Open Launch) w)
  pub launched : w.place ≡ Launch → Rests c roles w
      → RunsBy clocking c roles (steps ++ Moves (Open Launched) ∷ []) (world_after roles (Open Launched) w)

-- each legal run does, so that what is said of every legal run is said of every order of events and of clocks
abbrev pub RunsGoOn : Type 0
RunsGoOn =
    (clocking : Clocking) (c : CircuitData) (roles : Roles) (steps : List Step) (w : World) → RunsBy clocking c roles steps w
    → MayGoOn clocking c roles steps w

-- an evaluation period begins where a legal run opens evaluation, and lasts at each step but the opening of precharge
pub record LastsToPrecharge (c : CircuitData) (roles : Roles) (w w' : World) : Type 0 where
  pub begins : (steps : List Step) → Runs c roles steps w → Does c roles (Moves (Open Evaluation)) w w' → IsInEvaluation c roles [] w'
  pub lasts : (steps : List Step) (step : Step) → IsInEvaluation c roles steps w → Does c roles step w w' → step ≢ Moves (Open Precharge)
      → IsInEvaluation c roles (steps ++ step ∷ []) w'

abbrev pub PeriodsLast : Type 0
PeriodsLast = (c : CircuitData) (roles : Roles) (w w' : World) → LastsToPrecharge c roles w w'
