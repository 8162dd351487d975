-- The moves of power and of a cycle, in the order in which a trace makes them: those of the environment of a clocked deck, each
-- once the one before it has settled, and a clock once the one before it has.
use Rattle.std.specs.Prelude.{Bool, List, [], ◌∷◌, ◌++◌, ◌+◌, ◌-◌, map, replicate, suc, zero, ℕ}
use Rattle.dom_base.specs.declared.tri.Tri.TheVariants.{Zero, One}
use Rattle.deck.specs.PortLayout.{first_clock, first_pin}
use Rattle.deck.specs.declared.role.Roles.{Roles}
use Rattle.port_runs.specs.Environment.{Capture, Captured, Launch, Launched, Precharge, Released, bit, opening}
use Rattle.port_runs.specs.declared.clocking.Clocking.{Clocking}
use Rattle.port_runs.specs.declared.clocking.Clocking.TheVariants.{Overlapping, Together}
use Rattle.port_runs.specs.Moves.{PortValue, set_from}

-- the ports from one on take the values of these bits, one each
abbrev pub set_bits : ℕ → List Bool → List PortValue
set_bits port bits = set_from port (map bit bits)

-- a pair is opened: its first port rises and its second falls together; and closed, the other way round
abbrev pub open_pair : ℕ → List PortValue
open_pair port = set_from port (One ∷ Zero ∷ [])

abbrev pub close_pair : ℕ → List PortValue
close_pair port = set_from port (Zero ∷ One ∷ [])

-- power: the power state settles, then the reset ends
abbrev pub power_moves : Roles → List (List PortValue)
power_moves roles = [] ∷ opening roles Released ∷ []

-- a cycle up to its reading: the pins take their bits, then the clocks rise one after the other
abbrev pub evaluation_moves : Roles → List Bool → List (List PortValue)
evaluation_moves roles pins =
    set_bits (first_pin roles) pins
    ∷ map (λ s. s ∷ []) (set_from first_clock (replicate roles.clocks One))

-- from clock k on, so many times: the next clock rises, then this one falls
abbrev pub rises_and_falls : ℕ → ℕ → List (List PortValue)
rises_and_falls k zero = []
rises_and_falls k (suc n) = set_from (first_clock + (k + 1)) (One ∷ []) ∷ set_from (first_clock + k) (Zero ∷ []) ∷ rises_and_falls (k + 1) n

-- where clocks overlap, a cycle up to its reading: the pins take their bits, the first clock rises, and each other clock rises, and then
-- the one before it falls (Harris and Horowitz, Skew-tolerant domino circuits)
abbrev pub overlapping_moves : Roles → List Bool → List (List PortValue)
overlapping_moves roles pins = set_bits (first_pin roles) pins ∷ set_from first_clock (One ∷ []) ∷ rises_and_falls 0 (roles.clocks - 1)

-- a cycle up to its reading, by how its clocks fall
abbrev pub evaluation_by : Clocking → Roles → List Bool → List (List PortValue)
evaluation_by Together = evaluation_moves
evaluation_by Overlapping = overlapping_moves

-- a cycle from its reading on: the masters are opened and closed, all clocks fall together, the slaves are opened and closed
abbrev pub latching_moves : Roles → List (List PortValue)
latching_moves roles = map (opening roles) (Capture ∷ Captured ∷ Precharge ∷ Launch ∷ Launched ∷ [])

-- all moves of a cycle
abbrev pub cycle_moves : Clocking → Roles → List Bool → List (List PortValue)
cycle_moves clocking roles pins = evaluation_by clocking roles pins ++ latching_moves roles
