-- What holds of every legal run of a domino circuit, in every order of its events, by its ports alone and whatever it computes (Rabaey,
-- Digital Integrated Circuits: domino logic; Harris and Horowitz, Skew-tolerant domino circuits: clocks that overlap).
use Rattle.std.specs.Prelude.{Bool, List, [], length, map, ℕ, ◌++◌, ◌+◌, ◌<◌, ◌∷◌, ◌≡◌, ◌≤◌, ◌⊎◌}
use Rattle.std.specs.List.{AllByRecursion}
use Rattle.dom_base.specs.declared.tri.Tri.TheVariants.{One, Zero}
use Rattle.deck.specs.CircuitData.{CircuitData}
use Rattle.deck.specs.PortLayout.{first_clock, first_output, source_count}
use Rattle.deck.specs.Switches.{value_of}
use Rattle.deck.specs.declared.device.Device.{Device}
use Rattle.deck.specs.declared.role.Roles.{Roles}
use Rattle.switch_model.specs.LinksData.{is_first, links_of}
use Rattle.event_sim.specs.Settling.{most_events}
use Rattle.circuit_law.specs.Counts.{Gates}
use Rattle.port_runs.specs.Environment.{Evaluation, Happens, Step, World, stream_of}
use Rattle.port_runs.specs.declared.clocking.Clocking.{Clocking}
use Rattle.port_runs.specs.declared.clocking.Clocking.TheVariants.{Overlapping, Together}
use Rattle.port_runs.specs.Periods.{IsDominoOutput, IsDynamicNet, IsInEvaluation, IsInPeriodBy, IsOnce, vdd_port, vss_port}
use Rattle.port_runs.specs.PortRuns.{LeadsBy, Rests, RunsBy}
use Rattle.port_runs.specs.Readings.{HasResetBy, IsLaunchedBy, IsReadBy}
use Rattle.domino_law.specs.Joins.{IsContest, IsShort}

-- the net is one of the output ports
abbrev pub IsOutputPort : Roles → ℕ → Type 0
IsOutputPort roles n = (first_output roles ≤ n) × (n < first_output roles + roles.outs)

-- The last steps of a legal run, in the evaluation period of a dynamic net that this clock port precharges: since it opened an evaluation
-- whose precharge it has not opened, and in which, where clocks overlap, that clock has not fallen.
abbrev pub IsEvaluating : Clocking → CircuitData → Roles → ℕ → List Step → World → Type 0
IsEvaluating Together c roles port steps w = IsInEvaluation c roles steps w
IsEvaluating Overlapping c roles port steps w = (i : ℕ) × (port ≡ first_clock + i) × IsInPeriodBy Overlapping c roles i steps w

-- the clocks of two runs at the same place stand alike: as many have risen in evaluation, or where they overlap the same are 1
abbrev pub ClocksAlike : Clocking → Roles → World → World → Type 0
ClocksAlike Together roles w w' = w.place ≡ Evaluation → w.risen ≡ w'.risen
ClocksAlike Overlapping roles w w' =
    (i : ℕ) → i < roles.clocks → value_of w.values (first_clock + i) ≡ value_of w'.values (first_clock + i)

-- some events, at most (n + 1)^2 with n the number of nets that are no sources, lead to rest
pub record ReachesRest (clocking : Clocking) (c : CircuitData) (roles : Roles) (w : World) : Type 0 where
  pub events : List ℕ
  pub end : World
  pub leads : LeadsBy clocking c roles (map (λ n. Happens n) events) w end
  pub rests : Rests c roles end
  pub few : length events ≤ most_events (links_of c roles)

pub record RunsAsDomino (clocking : Clocking) (c : CircuitData) (roles : Roles) : Type 0 where
  -- in its evaluation period each dynamic net falls at most once, and each domino output rises at most once in that of the dynamic net
  -- that gates it; they have no other event
  pub falls_once : (steps : List Step) (w : World) (n : ℕ) (d : IsDynamicNet c roles n)
      → IsEvaluating clocking c roles (d.precharge).gate steps w
      → IsOnce c roles steps w n One Zero
  pub rises_once : (steps : List Step) (w : World) (n : ℕ) (d : IsDominoOutput c roles n)
      → IsEvaluating clocking c roles ((d.gated).precharge).gate steps w
      → IsOnce c roles steps w n Zero One
  -- from the rest of reset on no possible strong path joins two sources of different values, and at rest no possible weak path joins the
  -- supplies
  pub no_short : (w : World) (a b : ℕ) → HasResetBy clocking c roles w → IsShort c.devices (is_first (source_count roles)) w.values a b → ⊥
  pub no_contest : (w : World) (p : List Device) → HasResetBy clocking c roles w → Rests c roles w
      → IsContest c.devices (is_first (source_count roles)) w.values vdd_port vss_port p → ⊥
  -- between two moves, from power on, there are at most so many events, and from each state so many at most lead to rest
  pub few_events : (steps : List Step) (events : List ℕ) (w w' : World) → RunsBy clocking c roles steps w
      → LeadsBy clocking c roles (map (λ n. Happens n) events) w w' → length events ≤ most_events (links_of c roles)
  pub reaches_rest : (steps : List Step) (w : World) → RunsBy clocking c roles steps w → ReachesRest clocking c roles w
  -- two runs that took the same stream of pins and rest at the same place, with the clocks standing alike, have the same value at each
  -- net that gates a device and at each output port
  pub rests_alike : (steps steps' : List Step) (w w' : World) (n : ℕ) → RunsBy clocking c roles steps w → RunsBy clocking c roles steps' w'
      → stream_of steps ≡ stream_of steps' → w.place ≡ w'.place → ClocksAlike clocking roles w w'
      → Rests c roles w → Rests c roles w' → Gates c.devices n ⊎ IsOutputPort roles n → value_of w.values n ≡ value_of w'.values n
  -- for each stream of pins that is not empty there are runs to the reading of its last cycle and to where it is launched
  pub is_read : (past : List (List Bool)) (pins : List Bool) → AllByRecursion (λ bits. length bits ≡ roles.pins) (past ++ pins ∷ [])
      → ((steps : List Step) × (w : World) × IsReadBy clocking c roles (past ++ pins ∷ []) steps w)
      × ((steps : List Step) × (w : World) × IsLaunchedBy clocking c roles (past ++ pins ∷ []) steps w)
