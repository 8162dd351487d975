-- The circuit that an expanded subcircuit stands for, by the nets and devices that were made.
use Rattle.std.proofs.Common.{◌≡◌, ◌≤◌, ℕ, zero, suc, List, [], ◌∷◌, length, map, take, refl, sym, ap, ◌∙◌, subst, arith, nat_eq}
use Rattle.std.specs.List.{IsDistinct}
use Rattle.std.specs.Cmp.Lexicographic.{pointwise}
use Rattle.deck.specs.CircuitData.{CircuitData}
use Rattle.deck.specs.DeckText.{bare_circuit}
use Rattle.deck.specs.Limits.{most_devices, most_ports}
use Rattle.deck.specs.NamedDevices.{NamedDevice, map_device, with_devices}
use Rattle.deck.specs.Nets.{IsCircuit}
use Rattle.deck.specs.Pushes.{pushed}
use Rattle.deck.specs.declared.phase.Phase.{Phase}
use Rattle.deck.specs.declared.device.Device.{Device}
use Rattle.deck.proofs.DeviceNumbers.{IsCircuit-with_devices}
use Rattle.deck.proofs.NetNumbers.{IsDistinct-take}
use Rattle.subckt_expand.specs.Definitions.{CallData, DefinitionData, port_names}
use Rattle.subckt_expand.specs.Units.{IsClosed, UnitData, definitions, expansion_at}
use Rattle.subckt_expand.specs.Frames.{ExpandingData, IsMade, made, name_at}

-- in the subcircuit that is expanded a net has its own name
pub at_main : (all : List DefinitionData) (main : ℕ) (ds : List (NamedDevice (List ℕ))) → map (map_device (name_at all main [] 0)) ds ≡ ds
at_main all main [] = refl
at_main all main (d ∷ ds) = ap (λ l. d ∷ l) (at_main all main ds)

-- devices are added in the same way whatever the name, the phases and the ports are
pub with_devices-head : (name : List ℕ) (phases : List Phase) (ports : ℕ) (c : CircuitData) (ds : List (NamedDevice (List ℕ)))
    → with_devices (record c { name = name; phases = phases; ports = ports }) ds ≡ record (with_devices c ds) { name = name; phases = phases; ports = ports }
with_devices-head name phases ports c [] = refl
with_devices-head name phases ports c (d ∷ ds) = with_devices-head name phases ports (pushed c d.kind d.drain d.gate d.source) ds

-- what was made from the ports on is the circuit
pub made_with : (name : List ℕ) (phases : List Phase) (ports : List (List ℕ)) (ds : List (NamedDevice (List ℕ))) (nets : List (List ℕ)) (devices : List Device) → IsMade ports ds nets devices
    → record { name = name; phases = phases; ports = length ports; nets = nets; devices = devices } ≡ with_devices (bare_circuit name phases ports) ds
made_with name phases ports ds nets devices made_is =
    ap (λ (c : CircuitData). record c { name = name; phases = phases; ports = length ports }) made_is
    ∙ sym (with_devices-head name phases (length ports) (record { name = []; phases = []; ports = 0; nets = ports; devices = [] }) ds)

-- with few ports and few devices
pub made_circuit : (ports : List (List ℕ)) (ds : List (NamedDevice (List ℕ))) (nets : List (List ℕ)) (devices : List Device) → IsMade ports ds nets devices → IsDistinct (pointwise nat_eq) ports
    → length ports ≤ most_ports → length ds ≤ most_devices → IsCircuit (length ports) nets devices
made_circuit ports ds nets devices made_is apart few_ports few =
    let bare : IsCircuit (length ports) ports [] = record { few_ports = few_ports; few_devices = omega arith; distinct = apart; in_order = tt; all_used = refl } in
    subst (λ (c : CircuitData). IsCircuit c.ports c.nets c.devices) (sym (made_with [] [] ports ds nets devices made_is)) (IsCircuit-with_devices (bare_circuit [] [] ports) ds bare (omega (arith, few)))

-- the devices of the subcircuit that is expanded, when all its parts are read
pub made_whole : (units : List UnitData) (main : ℕ) (calls : List CallData) (first : List (List ℕ)) (none : List Device) (full : ExpandingData) (all : List DefinitionData) (ports nets : List (List ℕ)) (devices : List Device)
    → made full ≡ with_devices (record { name = []; phases = []; ports = 0; nets = first; devices = none })
    (map (map_device (name_at (definitions units) main calls (length calls))) (expansion_at (definitions units) main).devices)
    → definitions units ≡ all → calls ≡ [] → first ≡ ports → none ≡ [] → record { name = []; phases = []; ports = 0; nets = nets; devices = devices } ≡ made full
    → IsMade ports (expansion_at all main).devices nets devices
made_whole units main calls first none full all ports nets devices made_is same no_calls ports_are empty last =
    last ∙ made_is
    ∙ (λ i. with_devices (record { name = []; phases = []; ports = 0; nets = ports_are i; devices = empty i }) (map (map_device (name_at (same i) main (no_calls i) (length (no_calls i)))) (expansion_at (same i) main).devices))
    ∙ ap (with_devices (record { name = []; phases = []; ports = 0; nets = ports; devices = [] })) (at_main all main (expansion_at all main).devices)

take_few : (n : ℕ) (xs : List (List ℕ)) → length (take n xs) ≤ n
take_few zero xs = omega arith
take_few (suc n) [] = omega arith
take_few (suc n) (x ∷ xs) = omega (arith, take_few n xs)

-- the ports of a closed subcircuit are few and differ
pub record ArePorts (ports : List (List ℕ)) : Type 0 where
  pub few : length ports ≤ most_ports
  pub apart : IsDistinct (pointwise nat_eq) ports

pub ports_of : (all : List DefinitionData) (number : ℕ) (d : DefinitionData) → IsClosed all number d → ArePorts (port_names d)
ports_of all number d is = record { few = omega (arith, take_few d.ports d.nets, is.few_ports); apart = IsDistinct-take d.ports d.nets is.apart }
