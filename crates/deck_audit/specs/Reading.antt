-- A circuit read as a loose domino deck with keepers: the devices of each part stand there and no others, in any order and with drains
-- and sources exchanged at will (Rabaey, Digital Integrated Circuits: domino logic).
use Rattle.std.specs.Prelude.{Contains, List, length, map, ℕ, ◌+◌, ◌<◌, ◌≡◌, ◌≤◌, ◌⊎◌}
use Rattle.deck.specs.CircuitData.{CircuitData}
use Rattle.deck.specs.NamedDevices.{device_of}
use Rattle.deck.specs.PortLayout.{first_output, source_count}
use Rattle.deck.specs.declared.device.Device.{Device}
use Rattle.deck.specs.declared.role.Roles.{Roles}
use Rattle.domino_cell.specs.Stage.{Branch, Spot, Top}
use Rattle.circuit_law.specs.Exchanged.{HasDevicesOf, exchange}
use Rattle.domino_cell.specs.Tapped.{Tap, tapped}
use Rattle.domino_law.specs.Branches.{HasBranches}
use Rattle.domino_law.specs.LooseDeck.{IsNet, IsSourceNet}
use Rattle.domino_law.specs.Nets.{At, Gate, Net, Part, Sink}
use Rattle.domino_law.specs.Settings.{port_number}
use Rattle.domino_law.specs.Shape.{IsOutputAt, IsShape, Shape}
use Rattle.domino_cell.specs.declared.style.Style.TheVariants.{Keeper as WithKeeper}
use Rattle.domino_law.specs.Spelled.{deck_devices}
use Rattle.deck_audit.specs.AuditedDeck.{IsExchangedDeck}

-- the device is one of these, as it is or exchanged
abbrev pub IsOneOf : List Device → Device → Type 0
IsOneOf cards d = Contains cards d ⊎ Contains cards (exchange d)

abbrev pub part_cards : (Net → ℕ) → Part → List Branch → List Tap → List Device
part_cards net part bs taps = map device_of (tapped (λ a. net (At part a)) bs taps)

-- `net` numbers the nets of a deck of this shape in the circuit
pub record IsReading (c : CircuitData) (roles : Roles) (net : Net → ℕ) (s : Shape) : Type 0 where
  pub keepers : s.style ≡ WithKeeper
  pub shape : IsShape s
  -- the ports stand in the order of roles, and the outputs at the output ports in order
  pub some_clock : 1 ≤ roles.clocks
  pub clocks_are : s.clocks ≡ roles.clocks
  pub pins_are : s.pins ≡ roles.pins
  pub outs_are : length s.outputs ≡ roles.outs
  pub few : source_count roles ≤ length c.nets
  pub numbers : (a : Net) → IsSourceNet s a → net a ≡ port_number roles a
  pub outputs : (i : ℕ) (g : Gate) → IsOutputAt s i g → net (At (Sink i) Top) ≡ first_output roles + i
  -- different nets have different numbers, and the nets of parts are no sources
  pub apart : (a b : Net) → IsNet s a → IsNet s b → net a ≡ net b → a ≡ b
  pub others : (part : Part) (spot : Spot) → IsNet s (At part spot)
      → (source_count roles ≤ net (At part spot)) × (net (At part spot) < length c.nets)
  -- the devices of the parts are there, and no others
  pub parts : (part : Part) (bs : List Branch) (taps : List Tap) → HasBranches s net part bs taps → HasDevicesOf (part_cards net part bs taps) c.devices
  pub no_other : HasDevicesOf c.devices (deck_devices net s)

-- such a circuit has the devices of that deck
abbrev pub ReadingIsExchangedDeck : Type 0
ReadingIsExchangedDeck =
    (c : CircuitData) (roles : Roles) (net : Net → ℕ) (s : Shape) → IsReading c roles net s → IsExchangedDeck c roles net s
