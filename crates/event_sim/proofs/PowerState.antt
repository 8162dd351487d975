-- The power state: its nets, sources and values.
use Rattle.std.proofs.Common.{◌≡◌, ℕ, ◌+◌, ◌-◌, ◌≤◌, ◌^◌, List, ◌++◌, length, replicate, length-append, arith}
use Rattle.std.proofs.lemmas.List.{length-replicate, length-take}
use Rattle.dom_base.specs.declared.tri.Tri.TheVariants.{Unknown}
use Rattle.deck.specs.CircuitData.{CircuitData}
use Rattle.deck.specs.Nets.{IsCircuit}
use Rattle.deck.specs.Ports.{leading_ports}
use Rattle.deck.specs.Roles.{AreRoles, ports_of}
use Rattle.deck.specs.declared.role.Roles.{Roles}
use Rattle.deck.proofs.DeviceNumbers.{numbers_used-le}
use Rattle.deck.proofs.PortLayout.{joined, length-leading}
use Rattle.deck.specs.PortLayout.{source_count}
use Rattle.switch_model.specs.Power.{source_values}

-- a circuit has at most 2^26 nets
pub few_nets : (c : CircuitData) → IsCircuit c.ports c.nets c.devices → length c.nets ≤ 2 ^ 26
few_nets c is = omega (arith, is.all_used, numbers_used-le c.ports c.devices is.in_order, is.few_ports, is.few_devices)

pub joined_length : (l xs ys zs : List (List ℕ)) → l ≡ xs ++ (ys ++ zs) → length xs + (length ys + length zs) ≡ length l
joined_length l xs ys zs e = rw e (omega (arith, length-append xs (ys ++ zs), length-append ys zs))

joined_within : (l a b c n p d : ℕ) → a + (b + c) ≡ l → a ≡ d + 8 → b ≡ p → l ≤ n → d + 8 + p ≤ n
joined_within l a b c n p d e f g h = omega arith

-- the ports that are sources are nets
pub sources_within : (c : CircuitData) (roles : Roles) → AreRoles (ports_of c) roles → source_count roles ≤ length c.nets
sources_within c roles are =
    joined_within (length (ports_of c)) (length (leading_ports roles.clocks)) (length are.pins) (length are.outs) (length c.nets) roles.pins roles.clocks
    (joined_length (ports_of c) (leading_ports roles.clocks) are.pins are.outs (joined are.in_order))
    (length-leading roles.clocks are.in_order.few_clocks) are.pin_count (omega (arith, length-take c.ports c.nets))

source_values-length : (roles : Roles) → length (source_values roles) ≡ source_count roles
source_values-length roles = simp (length-append, length-replicate) (omega arith)

-- values by roles, and as many more as there are other nets
pub power-length : (roles : Roles) (nets : ℕ) → source_count roles ≤ nets → length (source_values roles ++ replicate (nets - source_count roles) Unknown) ≡ nets
power-length roles nets within =
    omega (
      arith,
      length-append (source_values roles) (replicate (nets - source_count roles) Unknown),
      source_values-length roles,
      length-replicate (nets - source_count roles) Unknown,
    )
