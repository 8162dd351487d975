-- Where the ports of a deck differ from those of a network.
use Rattle.std.specs.Prelude.{ℕ, ◌≡◌, ◌+◌, Option, Some, None}
use Rattle.deck.specs.CircuitData.{CircuitData}
use Rattle.deck.specs.PortLayout.{first_pin}
use Rattle.deck.specs.declared.role.Roles.{Roles}
use Rattle.network.specs.NetworkData.{NetworkData}
use Rattle.trace_tool.specs.Verdicts.{DifferFirstAt, network_ports, pins_and_outputs}

-- the first place, over all ports, at which those from the first pin on aren't the network's; or there is none
abbrev pub ComparesPorts : NetworkData → CircuitData → Roles → Option ℕ → Type 0
ComparesPorts n c roles (Some place) =
    (index : ℕ) × DifferFirstAt (network_ports n) (pins_and_outputs c roles) index × (place ≡ first_pin roles + index)
ComparesPorts n c roles None = pins_and_outputs c roles ≡ network_ports n
