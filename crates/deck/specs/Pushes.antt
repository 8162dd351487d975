-- Circuits as they are made: the one without devices, and one more device.
use Rattle.std.specs.Prelude.{ℕ, List, [], ◌∷◌, ◌++◌, length}
use Rattle.dom_base.specs.declared.kind.Kind.{Kind}
use Rattle.deck.specs.declared.phase.Phase.{Phase}
use Rattle.deck.specs.declared.device.Device.{Device}
use Rattle.deck.specs.CircuitData.{CircuitData}
use Rattle.deck.specs.Nets.{net_number, with_net, with_nets}
use Rattle.deck.specs.Ports.{leading_ports}

-- a circuit without devices: its nets are its ports
abbrev pub new_circuit : List ℕ → List Phase → ℕ → List (List ℕ) → List (List ℕ) → CircuitData
new_circuit name phases clocks pins outs = record {
  name = name;
  phases = phases;
  ports = length (leading_ports clocks ++ pins ++ outs);
  nets = leading_ports clocks ++ pins ++ outs;
  devices = [];
}

-- a device between the nets of these names, where a net that is new takes the next number
abbrev pub added_device : List (List ℕ) → Kind → List ℕ → List ℕ → List ℕ → Device
added_device nets kind d g s = record {
  kind = kind;
  drain = net_number nets d;
  gate = net_number (with_net nets d) g;
  source = net_number (with_net (with_net nets d) g) s;
}

-- the circuit with one more device, given by the names of its nets
abbrev pub pushed : CircuitData → Kind → List ℕ → List ℕ → List ℕ → CircuitData
pushed c kind d g s = record c { nets = with_nets c.nets d g s; devices = c.devices ++ added_device c.nets kind d g s ∷ [] }
