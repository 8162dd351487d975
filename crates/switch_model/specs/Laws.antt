-- What holds of all targets (Bryant, A switch-level model and simulator for MOS digital systems, 1984).
use Rattle.std.specs.Prelude.{◌≡◌, ℕ, ◌≤◌, Bool, false, List, ◌⊎◌, ◌↔◌, length, Contains}
use Rattle.dom_base.specs.declared.tri.Tri.{Tri}
use Rattle.deck.specs.declared.device.Device.{Device}
use Rattle.deck.specs.declared.role.Roles.{Roles}
use Rattle.deck.specs.CircuitData.{CircuitData}
use Rattle.deck.specs.Nets.{IsCircuit}
use Rattle.deck.specs.Paths.{Possible}
use Rattle.deck.specs.Roles.{AreRoles, ports_of}
use Rattle.deck.specs.Sources.{is_source}
use Rattle.deck.specs.Switches.{IsOff, value_of}
use Rattle.deck.specs.PortLayout.{source_count}
use Rattle.switch_model.specs.LinksData.{is_first}
use Rattle.switch_model.specs.Targets.{IsTarget}

-- each net that is no source has a target
abbrev pub HasTarget : Type 0
HasTarget = (devices : List Device) (is_source : ℕ → Bool) (values : List Tri) (net : ℕ) → is_source net ≡ false
    → (v : Tri) × IsTarget devices is_source values net v

-- no net has two targets
abbrev pub HasNoTwoTargets : Type 0
HasNoTwoTargets = (devices : List Device) (is_source : ℕ → Bool) (values : List Tri) (net : ℕ) (v w : Tri)
    → IsTarget devices is_source values net v → IsTarget devices is_source values net w → v ≡ w

-- the device's channel ends at the net
abbrev pub EndsAt : Device → ℕ → Type 0
EndsAt d net = (d.drain ≡ net) ⊎ (d.source ≡ net)

-- a net whose devices are all off keeps its value
abbrev pub KeepsWhereOff : Type 0
KeepsWhereOff = (devices : List Device) (is_source : ℕ → Bool) (values : List Tri) (net : ℕ)
    → ((d : Device) → Contains devices d → EndsAt d net → IsOff values d)
    → IsTarget devices is_source values net (value_of values net)

-- the net itself, or a net that is no source and that a possible path joins to it
abbrev pub IsNear : List Device → (ℕ → Bool) → List Tri → ℕ → ℕ → Type 0
IsNear devices is_source values net n = (n ≡ net) ⊎ (Possible devices is_source values net n × (is_source n ≡ false))

-- two lists of values agree around a net: at the net, at each net that a possible path joins to it,
-- and at the gate of each device that ends at the net or at such a net that is no source
pub record AgreeAround (devices : List Device) (is_source : ℕ → Bool) (net : ℕ) (before after : List Tri) : Type 0 where
  pub at_net : value_of after net ≡ value_of before net
  pub at_joined : (n : ℕ) → Possible devices is_source before net n → value_of after n ≡ value_of before n
  pub at_gates : (d : Device) (n : ℕ) → Contains devices d → IsNear devices is_source before net n → EndsAt d n
      → value_of after d.gate ≡ value_of before d.gate

-- the values of other nets do not matter: the target is the same
abbrev pub DependsOnNearNets : Type 0
DependsOnNearNets = (devices : List Device) (is_source : ℕ → Bool) (net : ℕ) (before after : List Tri) (v : Tri)
    → AgreeAround devices is_source net before after
    → IsTarget devices is_source before net v ↔ IsTarget devices is_source after net v

-- in a circuit with roles the sources are the ports before the outputs, and there are as many nets
abbrev pub SourcesStandFirst : Type 0
SourcesStandFirst = (c : CircuitData) (roles : Roles) → IsCircuit c.ports c.nets c.devices → AreRoles (ports_of c) roles
    → (source_count roles ≤ length c.nets) × ((net : ℕ) → is_source c net ≡ is_first (source_count roles) net)

-- targets by the first nets are targets by the ports that are no outputs
abbrev pub TargetsAreThoseOfCircuit : Type 0
TargetsAreThoseOfCircuit = (c : CircuitData) (roles : Roles) (values : List Tri) (net : ℕ) (v : Tri)
    → IsCircuit c.ports c.nets c.devices → AreRoles (ports_of c) roles
    → IsTarget c.devices (is_first (source_count roles)) values net v ↔ IsTarget c.devices (is_source c) values net v
