-- Ports in order, with what each is for.
use Rattle.std.specs.Prelude.{ℕ, ◌<◌, ◌≤◌, ◌+◌, ◌≡◌, ◌⊎◌, List, ◌++◌, length, take}
use Rattle.deck.specs.CircuitData.{CircuitData}
use Rattle.deck.specs.Limits.{most_clocks, unclocked_count}
use Rattle.deck.specs.Ports.{HasRoles, leading_ports}
use Rattle.deck.specs.declared.role.Roles.{Roles}

-- the ports of a circuit: the first nets
abbrev pub ports_of : CircuitData → List (List ℕ)
ports_of c = take c.ports c.nets

-- the ports stand in the order of roles, with so many clocks, pins and outputs
pub record AreRoles (ports : List (List ℕ)) (roles : Roles) : Type 0 where
  pub pins : List (List ℕ)
  pub outs : List (List ℕ)
  pub in_order : HasRoles ports roles.clocks pins outs
  pub pin_count : length pins ≡ roles.pins
  pub out_count : length outs ≡ roles.outs

-- the ports begin with the supplies, so many clocks, and the clocks and resets of latches
pub record HasLeading (ports : List (List ℕ)) (clocks : ℕ) : Type 0 where
  pub some_clock : 1 ≤ clocks
  pub few_clocks : clocks ≤ most_clocks
  pub long : clocks + unclocked_count ≤ length ports
  pub leading : take (clocks + unclocked_count) ports ≡ leading_ports clocks

-- some ports in the order of roles begin with these names
pub record BeginsRoles (names : List (List ℕ)) : Type 0 where
  pub more : List (List ℕ)
  pub roles : Roles
  pub in_order : AreRoles (names ++ more) roles

-- the ports leave every order of roles at a port: they have none, the names before it begin
-- one, and with its name, if it is there, they begin none
pub record LeavesRolesAt (ports : List (List ℕ)) (port : ℕ) : Type 0 where
  pub no_order : (roles : Roles) → AreRoles ports roles → ⊥
  pub within : port ≤ length ports
  pub before : BeginsRoles (take port ports)
  pub first : port < length ports → BeginsRoles (take (port + 1) ports) → ⊥

-- the ports have roles, or leave every order of roles at a port
abbrev pub HaveRolesOrLeave : List (List ℕ) → Type 0
HaveRolesOrLeave ports = ((roles : Roles) × AreRoles ports roles) ⊎ ((port : ℕ) × LeavesRolesAt ports port)

-- ports have one count of clocks, pins and outputs, or leave every order at one port
pub record RolesAreOne : Type 0 where
  pub roles : (ports : List (List ℕ)) (a b : Roles) → AreRoles ports a → AreRoles ports b → a ≡ b
  pub places : (ports : List (List ℕ)) (a b : ℕ) → LeavesRolesAt ports a → LeavesRolesAt ports b → a ≡ b
  pub apart : (ports : List (List ℕ)) (a : Roles) (b : ℕ) → AreRoles ports a → LeavesRolesAt ports b → ⊥
