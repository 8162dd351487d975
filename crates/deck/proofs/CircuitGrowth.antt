-- Circuits that grow: devices add nets and devices at the end, and each net keeps its number.
use Rattle.std.proofs.Common.{◌≡◌, ℕ, List, [], ◌∷◌, ◌++◌, map, refl, sym, ap, subst, ◌∙◌, nat_eq, append_assoc, append-nil}
use Rattle.std.specs.List.{AllByRecursion, IsDistinct}
use Rattle.std.specs.Cmp.Lexicographic.{pointwise}
use Rattle.dom_base.specs.declared.kind.Kind.{Kind}
use Rattle.deck.specs.CircuitData.{CircuitData}
use Rattle.deck.specs.declared.device.Device.{Device}
use Rattle.deck.specs.CircuitGrowth.{Grew}
use Rattle.deck.specs.NamedDevices.{NamedDevice, with_devices}
use Rattle.deck.specs.Nets.{with_net, with_nets}
use Rattle.deck.specs.NumberedDevices.{IsNumberedDevice, numbered_device}
use Rattle.deck.specs.Pushes.{added_device, pushed}
use Rattle.deck.proofs.NetNumbers.{IsDistinct-with_net, Longer, Longer-trans, net_number-kept, with_net-grows}

-- a push adds nets and devices at the end and changes nothing else
pub pushed-grew : (c : CircuitData) (kind : Kind) (d g s : List ℕ) → Grew c (pushed c kind d g s)
pushed-grew c kind d g s =
    let a = with_net-grows c.nets d in
    let b = with_net-grows (with_net c.nets d) g in
    let e = with_net-grows (with_net (with_net c.nets d) g) s in
    record {
      more_nets = a.0 ++ b.0 ++ e.0;
      more_devices = _;
      name = refl;
      phases = refl;
      ports = refl;
      nets = e.1 ∙ ap (λ l. l ++ e.0) b.1 ∙ ap (λ l. l ++ b.0 ++ e.0) a.1 ∙ ap (λ l. l ++ e.0) (append_assoc c.nets a.0 b.0) ∙ append_assoc c.nets (a.0 ++ b.0) e.0;
      devices = refl;
    }

-- a circuit that stayed as it was
pub Grew-same : {old new : CircuitData} → new ≡ old → Grew old new
Grew-same {old} e = record {
  more_nets = [];
  more_devices = [];
  name = ap (λ (c : CircuitData). c.name) e;
  phases = ap (λ (c : CircuitData). c.phases) e;
  ports = ap (λ (c : CircuitData). c.ports) e;
  nets = ap (λ (c : CircuitData). c.nets) e ∙ sym (append-nil old.nets);
  devices = ap (λ (c : CircuitData). c.devices) e ∙ sym (append-nil old.devices);
}

-- a circuit whose nets and devices are those after a push, or as they were
pub Grew-made : (old : CircuitData) (nets : List (List ℕ)) (devices : List Device) (kind : Kind) (d g s : List ℕ)
    → nets ≡ with_nets old.nets d g s → devices ≡ old.devices ++ added_device old.nets kind d g s ∷ []
    → Grew old (record old { nets = nets; devices = devices })
Grew-made old nets devices kind d g s nets_are devices_are =
    subst (Grew old) (λ i. record old { nets = sym nets_are i; devices = sym devices_are i }) (pushed-grew old kind d g s)

pub Grew-kept : (old : CircuitData) (nets : List (List ℕ)) (devices : List Device) → nets ≡ old.nets → devices ≡ old.devices
    → Grew old (record old { nets = nets; devices = devices })
Grew-kept old nets devices nets_are devices_are = Grew-same (λ i. record old { nets = nets_are i; devices = devices_are i })

pub Grew-trans : (a b c : CircuitData) → Grew a b → Grew b c → Grew a c
Grew-trans a b c x y = record {
  more_nets = x.more_nets ++ y.more_nets;
  more_devices = x.more_devices ++ y.more_devices;
  name = y.name ∙ x.name;
  phases = y.phases ∙ x.phases;
  ports = y.ports ∙ x.ports;
  nets = y.nets ∙ ap (λ l. l ++ y.more_nets) x.nets ∙ append_assoc a.nets x.more_nets y.more_nets;
  devices = y.devices ∙ ap (λ l. l ++ y.more_devices) x.devices ∙ append_assoc a.devices x.more_devices y.more_devices;
}

-- a circuit that grew in two steps
pub Grew-then : {a b c : CircuitData} → Grew a b → Grew b c → Grew a c
Grew-then {a} {b} {c} x y = Grew-trans a b c x y

-- one more device, at the end
pub with_devices-append : (c : CircuitData) (xs ys : List (NamedDevice (List ℕ))) → with_devices c (xs ++ ys) ≡ with_devices (with_devices c xs) ys
with_devices-append c [] ys = refl
with_devices-append c (x ∷ xs) ys = with_devices-append (pushed c x.kind x.drain x.gate x.source) xs ys

pub with_devices-push : (c : CircuitData) (ds : List (NamedDevice (List ℕ))) (d : NamedDevice (List ℕ)) → with_devices c (ds ++ d ∷ []) ≡ pushed (with_devices c ds) d.kind d.drain d.gate d.source
with_devices-push c [] d = refl
with_devices-push c (e ∷ ds) d = with_devices-push (pushed c e.kind e.drain e.gate e.source) ds d

-- devices only add to a circuit
pub with_devices-grew : (c : CircuitData) (ds : List (NamedDevice (List ℕ))) → Grew c (with_devices c ds)
with_devices-grew c [] = Grew-same refl
with_devices-grew c (d ∷ ds) =
    Grew-trans c (pushed c d.kind d.drain d.gate d.source) (with_devices c (d ∷ ds))
    (pushed-grew c d.kind d.drain d.gate d.source) (with_devices-grew (pushed c d.kind d.drain d.gate d.source) ds)

pub with_devices-distinct : (c : CircuitData) (ds : List (NamedDevice (List ℕ))) → IsDistinct (pointwise nat_eq) c.nets → IsDistinct (pointwise nat_eq) (with_devices c ds).nets
with_devices-distinct c [] apart = apart
with_devices-distinct c (d ∷ ds) apart =
    with_devices-distinct (pushed c d.kind d.drain d.gate d.source) ds
    (IsDistinct-with_net (with_net (with_net c.nets d.drain) d.gate) d.source (IsDistinct-with_net (with_net c.nets d.drain) d.gate (IsDistinct-with_net c.nets d.drain apart)))

-- the device that is added is the device by the numbers in the end
record IsKept (old new : List (List ℕ)) (d : NamedDevice (List ℕ)) : Type 0 where
  numbers : added_device old d.kind d.drain d.gate d.source ≡ numbered_device new d
  stand : IsNumberedDevice new d

is_kept : (old new : List (List ℕ)) (d : NamedDevice (List ℕ)) → Longer (with_nets old d.drain d.gate d.source) new → IsKept old new d
is_kept old new d longer =
    let a = with_net old d.drain in
    let b = with_net a d.gate in
    let c = with_net b d.source in
    let from_b : Longer b new = Longer-trans b c new (with_net-grows b d.source) longer in
    let from_a : Longer a new = Longer-trans a b new (with_net-grows a d.gate) from_b in
    let drain = net_number-kept old new d.drain from_a in
    let gate = net_number-kept a new d.gate from_b in
    let source = net_number-kept b new d.source longer in
    record {
      numbers = λ i. record { kind = d.kind; drain = drain.0 i; gate = gate.0 i; source = source.0 i };
      stand = (drain.1, gate.1, source.1);
    }

pub with_devices-devices : (c : CircuitData) (ds : List (NamedDevice (List ℕ)))
    → (with_devices c ds).devices ≡ c.devices ++ map (numbered_device (with_devices c ds).nets) ds
with_devices-devices c [] = sym (append-nil c.devices)
with_devices-devices c (d ∷ ds) =
    let p = pushed c d.kind d.drain d.gate d.source in
    let grew = with_devices-grew p ds in
    let new = (with_devices p ds).nets in
    let kept = is_kept c.nets new d (grew.more_nets, grew.nets) in
    with_devices-devices p ds
    ∙ append_assoc c.devices (added_device c.nets d.kind d.drain d.gate d.source ∷ []) (map (numbered_device new) ds)
    ∙ ap (λ e. c.devices ++ e ∷ map (numbered_device new) ds) kept.numbers

pub with_devices-numbered : (c : CircuitData) (ds : List (NamedDevice (List ℕ))) → AllByRecursion (IsNumberedDevice (with_devices c ds).nets) ds
with_devices-numbered c [] = tt
with_devices-numbered c (d ∷ ds) =
    let p = pushed c d.kind d.drain d.gate d.source in
    let grew = with_devices-grew p ds in
    ((is_kept c.nets (with_devices p ds).nets d (grew.more_nets, grew.nets)).stand, with_devices-numbered p ds)
