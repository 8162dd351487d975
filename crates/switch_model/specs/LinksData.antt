-- A circuit without names, as its links hold it.
use Rattle.std.specs.Prelude.{ℕ, Bool, List, length, nat_lt}
use Rattle.deck.specs.declared.device.Device.{Device}
use Rattle.deck.specs.PortLayout.{source_count}
use Rattle.deck.specs.declared.role.Roles.{Roles}
use Rattle.deck.specs.CircuitData.{CircuitData}

-- a circuit without names: so many nets, of which the first are the sources, and the devices between them
pub record LinksData : Type 0 where
  pub nets : ℕ
  pub sources : ℕ
  pub devices : List Device

-- whether a net is one of the first so many
abbrev pub is_first : ℕ → ℕ → Bool
is_first count net = nat_lt net count

-- a circuit whose ports have these roles
abbrev pub links_of : CircuitData → Roles → LinksData
links_of c roles = record { nets = length c.nets; sources = source_count roles; devices = c.devices }
