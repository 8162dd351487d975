-- What holds of a circuit that runs as a domino deck of some shape, by its ports and devices, in every order of events (Rabaey, Digital
-- Integrated Circuits: domino logic; Bryant, switch-level model).
use Rattle.std.specs.List.{AllByRecursion}
use Rattle.std.specs.Prelude.{Bool, List, [], length, ℕ, ◌++◌, ◌+◌, ◌<◌, ◌∷◌, ◌≡◌, ◌≢◌, ◌⊎◌}
use Rattle.dom_base.specs.declared.kind.Kind.TheVariants.{Keep}
use Rattle.dom_base.specs.declared.tri.Tri.{Tri}
use Rattle.dom_base.specs.declared.tri.Tri.TheVariants.{Zero}
use Rattle.deck.specs.CircuitData.{CircuitData}
use Rattle.deck.specs.Paths.{DefiniteStrong, Ends}
use Rattle.deck.specs.PortLayout.{first_output, source_count}
use Rattle.deck.specs.Switches.{value_of}
use Rattle.deck.specs.declared.device.Device.{Device}
use Rattle.deck.specs.declared.role.Roles.{Roles}
use Rattle.domino_cell.specs.Stage.{Top}
use Rattle.switch_model.specs.LinksData.{is_first, links_of}
use Rattle.port_runs.specs.Environment.{Launched, Released, Reset, Step, World, bit, stream_of}
use Rattle.port_runs.specs.declared.clocking.Clocking.TheVariants.{Together}
use Rattle.port_runs.specs.Periods.{vdd_port, vss_port}
use Rattle.port_runs.specs.PortRuns.{Does, Rests, Runs}
use Rattle.port_runs.specs.Readings.{HasResetBy, IsReading}
use Rattle.domino_law.specs.EveryRun.{RunsAsDomino}
use Rattle.domino_law.specs.Joins.{IsContest}
use Rattle.domino_law.specs.Nets.{At, Net, Next, Slave}
use Rattle.domino_law.specs.OwnRun.{bit_at, outputs_of, state_after}
use Rattle.domino_law.specs.Runs.{IsHonestWorld, state_before, state_next}
use Rattle.domino_law.specs.Settings.{HaveRisen}
use Rattle.domino_law.specs.Shape.{IsLatchAt, Latch, Shape}

-- each keeper of the path has a gate at 0, and a definite strong path leads to ground from its end other than `vdd`
abbrev pub IsOverpoweredByEnds : List Device → (ℕ → Bool) → List Tri → ℕ → ℕ → List Device → Type 0
IsOverpoweredByEnds devices is_source values vdd vss p =
    AllByRecursion (λ d. d.kind ≡ Keep → (value_of values d.gate ≡ Zero) × ((n : ℕ) → Ends d n vdd → DefiniteStrong devices is_source values n vss)) p

-- at a reading the output ports have the outputs of the own run, and the latch inputs its next state
pub record ReadsOwnRun (roles : Roles) (net : Net → ℕ) (s : Shape) (w : World) : Type 0 where
  pub outputs : (i : ℕ) → i < roles.outs
      → value_of w.values (first_output roles + i) ≡ bit (bit_at (outputs_of s (state_before s w) w.pins) i)
  pub nexts : (j : ℕ) (b : Latch) → IsLatchAt s j b → value_of w.values (net (At (Next j) Top)) ≡ bit (bit_at (state_next s w) j)

-- what holds of every legal run of the circuit, in every order of its events
pub record IsRightByOwnRun (c : CircuitData) (roles : Roles) (net : Net → ℕ) (s : Shape) : Type 0 where
  -- it does what a domino circuit does, whatever it computes
  pub domino : RunsAsDomino Together c roles
  -- from the rest of reset on each possible weak path between the supplies is overpowered
  pub overpowered : (w : World) (p : List Device) → HasResetBy Together c roles w
      → IsContest c.devices (is_first (source_count roles)) w.values vdd_port vss_port p
      → IsOverpoweredByEnds c.devices (is_first (source_count roles)) w.values vdd_port vss_port p
  -- from the rest of reset on each state is honest, and each event and each move takes an honest state, in which the clocks that have
  -- fallen had risen, to an honest state
  pub honest : (w : World) → HasResetBy Together c roles w → IsHonestWorld (links_of c roles) net s w
  pub kept : (step : Step) (w w' : World) → length w.values ≡ length c.nets → HaveRisen w → IsHonestWorld (links_of c roles) net s w
      → Does c roles step w w' → IsHonestWorld (links_of c roles) net s w'
  -- at the rest of reset, and until the first pins are taken, each latch has its start value
  pub starts : (steps : List Step) (w : World) → Runs c roles steps w → ((w.place ≡ Reset) × Rests c roles w) ⊎ (w.place ≡ Released)
      → (j : ℕ) (b : Latch) → IsLatchAt s j b → value_of w.values (net (At (Slave j) Top)) ≡ bit b.init
  -- what is read is the own run of the same stream of pins, and where the slaves have been closed the latch outputs are its next state
  pub stream : (steps : List Step) (w : World) → Runs c roles steps w → w.place ≢ Reset → w.place ≢ Released
      → stream_of steps ≡ w.past ++ w.pins ∷ []
  pub reads : (steps : List Step) (w : World) → Runs c roles steps w → IsReading c roles w → ReadsOwnRun roles net s w
  pub launches : (steps : List Step) (w : World) → Runs c roles steps w → w.place ≡ Launched
      → (j : ℕ) (b : Latch) → IsLatchAt s j b → value_of w.values (net (At (Slave j) Top)) ≡ bit (bit_at (state_after s (w.past ++ w.pins ∷ [])) j)
