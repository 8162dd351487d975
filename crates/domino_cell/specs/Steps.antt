-- Devices that a path may take, by a test of their conduction (Bryant, switch-level model: strong and weak devices).
use Rattle.std.specs.Prelude.{◌≡◌, ◌≢◌, Bool, true, List, Contains}
use Rattle.dom_base.specs.Conduction.{conduction}
use Rattle.dom_base.specs.declared.kind.Kind.TheVariants.{Keep}
use Rattle.dom_base.specs.declared.tri.Tri.{Tri}
use Rattle.deck.specs.Switches.{value_of}
use Rattle.deck.specs.declared.device.Device.{Device}

-- one of the circuit's devices whose conduction passes the test, and no keeper
pub record IsStrongStep (devices : List Device) (test : Tri → Bool) (values : List Tri) (d : Device) : Type 0 where
  pub of : Contains devices d
  pub pass : test (conduction d.kind (value_of values d.gate)) ≡ true
  pub strong : d.kind ≢ Keep

-- one of the circuit's devices whose conduction passes the test
pub record IsStep (devices : List Device) (test : Tri → Bool) (values : List Tri) (d : Device) : Type 0 where
  pub of : Contains devices d
  pub pass : test (conduction d.kind (value_of values d.gate)) ≡ true
