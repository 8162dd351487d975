-- The inverters of sinks, and the circuits that have room for one (Rabaey, Digital Integrated Circuits: static complementary CMOS).
use Rattle.std.specs.Prelude.{◌≡◌, ◌≢◌, ℕ, false, List, codes, Contains}
use Rattle.deck.specs.CircuitData.{CircuitData}
use Rattle.deck.specs.NamedDevices.{NamedDevice}
use Rattle.deck.specs.Nets.{net_number}
use Rattle.deck.specs.Sources.{is_source}
use Rattle.deck.specs.declared.device.Device.{Device}
use Rattle.domino_cell.specs.Cell.{inverter}
use Rattle.domino_cell.specs.PushedNames.{IsPort}

-- the inverter of a sink, from its gate to its output
abbrev pub sink_inverter : List ℕ → List ℕ → List (NamedDevice (List ℕ))
sink_inverter gate out = inverter (codes "vdd") (codes "vss") gate out

-- the supplies are ports, the output is no source, and no device ends at it
pub record HasRoomForSink (c : CircuitData) (out : List ℕ) : Type 0 where
  pub vdd : IsPort c (codes "vdd")
  pub vss : IsPort c (codes "vss")
  pub no_source : is_source c (net_number c.nets out) ≡ false
  pub none_ends : (d : Device) → Contains c.devices d → (d.drain ≢ net_number c.nets out) × (d.source ≢ net_number c.nets out)
