-- The environment of a clocked deck: its places in a cycle, its moves, and the ports that each move sets (Rabaey, Digital
-- Integrated Circuits: two-phase clocking of master and slave; precharge and evaluation of dynamic logic).
use Rattle.std.specs.Prelude.{Bool, List, [], false, if◌then◌else◌, map, nat_eq, replicate, true, ℕ, ◌++◌, ◌+◌, ◌∷◌}
use Rattle.dom_base.specs.declared.tri.Tri.{Tri}
use Rattle.dom_base.specs.declared.tri.Tri.TheVariants.{One, Zero}
use Rattle.deck.specs.PortLayout.{first_clock, first_pin, master_pair, reset_pair, slave_pair}
use Rattle.deck.specs.declared.role.Roles.{Roles}
use Rattle.port_runs.specs.Moves.{PortValue, set_from}
use Rattle.port_runs.specs.declared.clocking.Clocking.{Clocking}
use Rattle.port_runs.specs.declared.clocking.Clocking.TheVariants.{Overlapping, Together}

pub data Place : Type 0 where
  Reset : Place
  Released : Place
  Pins : Place
  Evaluation : Place
  Capture : Place
  Captured : Place
  Precharge : Place
  Launch : Place
  Launched : Place

-- the value of a bit
abbrev pub bit : Bool → Tri
bit false = Zero
bit true = One

-- where a run stands: its place, how many clocks have risen in evaluation and which have fallen in it, the pins of the earlier cycles
-- and of this one, and the values of the nets
pub record World : Type 0 where
  pub place : Place
  pub risen : ℕ
  pub fallen : ℕ → Bool
  pub past : List (List Bool)
  pub pins : List Bool
  pub values : List Tri

-- the moves of the environment: the next place is opened, the pins take the bits of the next cycle, the next clock rises, a clock
-- falls before the others
pub data Move : Type 0 where
  Open : Place → Move
  Take : List Bool → Move
  Rise : Move
  Fall : ℕ → Move

-- the places that are opened with no new bits, each after which
abbrev pub IsNext : Place → Place → Type 0
IsNext Reset Released = Unit {0}
IsNext Pins Evaluation = Unit {0}
IsNext Evaluation Capture = Unit {0}
IsNext Capture Captured = Unit {0}
IsNext Captured Precharge = Unit {0}
IsNext Precharge Launch = Unit {0}
IsNext Launch Launched = Unit {0}
IsNext _ _ = ⊥

-- the cycle ends at the rest of launched, and the first begins at that of released
abbrev pub is_over : Place → List (List Bool) → List Bool → List (List Bool)
is_over Launched past pins = past ++ pins ∷ []
is_over _ past pins = past

-- how many clocks have risen when a place is opened: the first opens evaluation
abbrev pub risen_at : Place → ℕ → ℕ
risen_at Evaluation risen = 1
risen_at _ risen = risen

-- no clock has fallen when evaluation is opened
abbrev pub none_fallen : ℕ → Bool
none_fallen i = false

abbrev pub fallen_at : Place → (ℕ → Bool) → ℕ → Bool
fallen_at Evaluation fallen = none_fallen
fallen_at _ fallen = fallen

-- and clock k besides
abbrev pub fallen_with : ℕ → (ℕ → Bool) → ℕ → Bool
fallen_with k fallen i = if nat_eq i k then true else fallen i

-- where the run stands after a move, but for the values
abbrev pub after_move : Move → World → World
after_move (Open place) w = record w { place = place; risen = risen_at place w.risen; fallen = fallen_at place w.fallen }
after_move (Take pins) w = record w { place = Pins; past = is_over w.place w.past w.pins; pins = pins }
after_move Rise w = record w { risen = w.risen + 1 }
after_move (Fall k) w = record w { fallen = fallen_with k w.fallen }

pub data Step : Type 0 where
  -- the net takes its target
  Happens : ℕ → Step
  -- the environment makes a move
  Moves : Move → Step

-- the pins that the steps take, in order
abbrev pub stream_of : List Step → List (List Bool)
stream_of [] = []
stream_of (Happens n ∷ steps) = stream_of steps
stream_of (Moves (Take pins) ∷ steps) = pins ∷ stream_of steps
stream_of (Moves _ ∷ steps) = stream_of steps

-- the ports that open a place: a pair opens, or closes, its first port and its second together
abbrev pub opening : Roles → Place → List PortValue
opening roles Released = set_from (reset_pair roles) (Zero ∷ One ∷ [])
opening roles Evaluation = set_from first_clock (One ∷ [])
opening roles Capture = set_from (master_pair roles) (One ∷ Zero ∷ [])
opening roles Captured = set_from (master_pair roles) (Zero ∷ One ∷ [])
opening roles Precharge = set_from first_clock (replicate roles.clocks Zero)
opening roles Launch = set_from (slave_pair roles) (One ∷ Zero ∷ [])
opening roles Launched = set_from (slave_pair roles) (Zero ∷ One ∷ [])
opening roles _ = []

-- the ports of a move, where so many clocks have risen
abbrev pub settings_of : Roles → Move → ℕ → List PortValue
settings_of roles (Open place) risen = opening roles place
settings_of roles (Take pins) risen = set_from (first_pin roles) (map bit pins)
settings_of roles Rise risen = set_from (first_clock + risen) (One ∷ [])
settings_of roles (Fall k) risen = set_from (first_clock + k) (Zero ∷ [])
