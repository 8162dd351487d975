-- Circuits that grow: devices add nets and devices at the end.
use Rattle.std.specs.Prelude.{◌≡◌, ℕ, List, ◌++◌}
use Rattle.deck.specs.declared.device.Device.{Device}
use Rattle.deck.specs.CircuitData.{CircuitData}

-- a later state of a circuit that only grew
pub record Grew (old new : CircuitData) : Type 0 where
  pub more_nets : List (List ℕ)
  pub more_devices : List Device
  pub name : new.name ≡ old.name
  pub phases : new.phases ≡ old.phases
  pub ports : new.ports ≡ old.ports
  pub nets : new.nets ≡ old.nets ++ more_nets
  pub devices : new.devices ≡ old.devices ++ more_devices
