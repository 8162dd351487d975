-- What rules 1 and 2 find, with the places of the devices.
use Rattle.std.specs.Prelude.{List, ℕ, ◌≡◌, ◌⊎◌}
use Rattle.dom_base.specs.declared.kind.Kind.TheVariants.{Keep, N as nch, P as pch}
use Rattle.deck.specs.Paths.{Ends}
use Rattle.deck.specs.declared.device.Device.{Device}
use Rattle.deck.specs.declared.role.Roles.{Roles}
use Rattle.audit_deck.specs.declared.fronts.Front.{Front}
use Rattle.audit_deck.specs.declared.fronts.Inverter.{Inverter}
use Rattle.deck_audit.specs.Rules.{HasFront}
use Rattle.deck_audit.specs.Words.{IsDevice, IsInner, IsInverterOutput, StandsAt}
use Rattle.port_runs.specs.Periods.{IsClockPort, vdd_port, vss_port}

-- two devices are an inverter with this output
pub record IsPairAt (ds : List Device) (n up down : ℕ) (i : Inverter) : Type 0 where
  pub pull_up : Device
  pub pull_down : Device
  pub up_is : i.up ≡ up
  pub down_is : i.down ≡ down
  pub up_there : StandsAt ds up pull_up
  pub up_device : IsDevice pull_up pch i.input n vdd_port
  pub down_there : StandsAt ds down pull_down
  pub down_device : IsDevice pull_down nch i.input n vss_port

pub record IsInverterAt (ds : List Device) (n : ℕ) (i : Inverter) : Type 0 where
  pub inverts : IsInverterOutput ds n i.input
  pub up_is : inverts.up ≡ i.up
  pub down_is : inverts.down ≡ i.down

-- a device that ends at the net makes it dynamic
abbrev pub MakesDynamic : List Device → Roles → ℕ → ℕ → Type 0
MakesDynamic ds roles n p =
    (d : Device) × StandsAt ds p d × ((d.kind ≡ Keep) ⊎ ((d.kind ≡ pch) × IsClockPort roles d.gate × Ends d n vdd_port))

pub record IsFrontAt (ds : List Device) (roles : Roles) (x : ℕ) (f : Front) : Type 0 where
  pub front : HasFront ds roles x f.clock f.output
  pub precharge_is : front.precharge ≡ f.precharge
  pub keeper_is : front.keeper ≡ f.keeper

-- the inverter of a cell's output
pub record IsOutputAt (ds : List Device) (roles : Roles) (x output : ℕ) (i : Inverter) : Type 0 where
  pub inner : IsInner roles output
  pub inverter : IsInverterAt ds output i
  pub input_is : i.input ≡ x
