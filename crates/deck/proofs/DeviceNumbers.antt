-- The numbers that devices name, in order of first appearance, and what holds of a circuit with more devices.
use Rattle.std.proofs.Common.{◌≡◌, ◌<◌, ◌≤◌, ◌^◌, ℕ, ◌+◌, ◌*◌, max, List, [], ◌∷◌, ◌++◌, length, take, map, refl, sym, ap, ◌∙◌, arith, nat_eq, append_assoc, append-nil, length-append, All}
use Rattle.std.specs.List.{AllByRecursion, IsDistinct}
use Rattle.std.specs.Cmp.Lexicographic.{pointwise}
use Rattle.std.proofs.lemmas.List.Elements.{All-from_recursion}
use Rattle.dom_base.specs.declared.kind.Kind.{Kind}
use Rattle.deck.specs.declared.device.Device.{Device}
use Rattle.deck.specs.CircuitData.{CircuitData}
use Rattle.deck.specs.NamedDevices.{NamedDevice, named_device, with_devices}
use Rattle.deck.specs.Limits.{most_devices, most_ports}
use Rattle.deck.specs.Nets.{net_name, with_net, with_nets, ends, IsInRange, IsNumbered, numbers_used, IsCircuit}
use Rattle.deck.specs.Numbers.{AreNumbersOf}
use Rattle.deck.specs.Pushes.{added_device, pushed}
use Rattle.deck.proofs.NetNumbers.{IsDistinct-with_net, net_number-take, number_fits, with_net-take}

pub ends-append : (ds es : List Device) → ends (ds ++ es) ≡ ends ds ++ ends es
ends-append [] es = refl
ends-append (d ∷ ds) es = rw (ends-append ds es) refl

pub numbers_used-append : (n : ℕ) (xs ys : List ℕ) → numbers_used n (xs ++ ys) ≡ numbers_used (numbers_used n xs) ys
numbers_used-append n [] ys = refl
numbers_used-append n (x ∷ xs) ys = numbers_used-append (max n (x + 1)) xs ys

pub numbers_used-ge : (n : ℕ) (xs : List ℕ) → n ≤ numbers_used n xs
numbers_used-ge n [] = omega arith
numbers_used-ge n (x ∷ xs) = omega (arith, numbers_used-ge (max n (x + 1)) xs)

pub IsNumbered-append : (n : ℕ) (xs ys : List ℕ) → IsNumbered n xs → IsNumbered (numbers_used n xs) ys → IsNumbered n (xs ++ ys)
IsNumbered-append n [] ys a b = b
IsNumbered-append n (x ∷ xs) ys a b = (a.0, IsNumbered-append (max n (x + 1)) xs ys a.1 b)

pub numbers_used-le : (n : ℕ) (ds : List Device) → IsNumbered n (ends ds) → numbers_used n (ends ds) ≤ n + 3 * length ds
numbers_used-le n [] a = omega arith
numbers_used-le n (d ∷ ds) a = omega (arith, numbers_used-le (max (max (max n (d.drain + 1)) (d.gate + 1)) (d.source + 1)) ds a.1.1.1, a.0, a.1.0, a.1.1.0)

-- one more device, at the end
pub IsCircuit-pushed : (ports : ℕ) (nets : List (List ℕ)) (devices : List Device) (kind : Kind) (d g s : List ℕ)
    → IsCircuit ports nets devices → length devices < most_devices → IsCircuit ports (with_nets nets d g s) (devices ++ added_device nets kind d g s ∷ [])
IsCircuit-pushed ports nets devices kind d g s is room =
    let a = number_fits nets d in
    let b = number_fits (with_net nets d) g in
    let c = number_fits (with_net (with_net nets d) g) s in
    let device = added_device nets kind d g s in
    let named = device.drain ∷ device.gate ∷ device.source ∷ [] in
    record {
      few_ports = is.few_ports;
      few_devices = omega (arith, length-append devices (device ∷ []));
      distinct = IsDistinct-with_net (with_net (with_net nets d) g) s (IsDistinct-with_net (with_net nets d) g (IsDistinct-with_net nets d is.distinct));
      in_order = rw (ends-append devices (device ∷ []))
          (IsNumbered-append ports (ends devices) named is.in_order
          (omega (arith, is.all_used, a.within), (omega (arith, is.all_used, a.length_then, b.within), (omega (arith, is.all_used, a.length_then, b.length_then, c.within), tt))));
      all_used = rw (ends-append devices (device ∷ []), numbers_used-append ports (ends devices) named)
          (omega (arith, is.all_used, a.length_then, b.length_then, c.length_then));
    }

-- the numbers of its nets
pub numbers_fit : (nets : List (List ℕ)) (d g s : List ℕ) (p : ℕ × ℕ × ℕ) → length nets + 3 < 2 ^ 32 → AreNumbersOf nets d g s p → (p.0 < 2 ^ 32) × (p.1 < 2 ^ 32) × (p.2 < 2 ^ 32)
numbers_fit nets d g s p few at =
    let a = number_fits nets d in
    let b = number_fits (with_net nets d) g in
    let c = number_fits (with_net (with_net nets d) g) s in
    (omega (arith, a.within, at.0), omega (arith, a.within, a.length_then, b.within, at.1), omega (arith, a.within, a.length_then, b.within, b.length_then, c.within, at.2))

-- what holds of a circuit holds after a push
pub IsCircuit-push : (c : CircuitData) (kind : Kind) (d g s : List ℕ)
    → IsCircuit c.ports c.nets c.devices → length c.devices < most_devices
    → let p = pushed c kind d g s in IsCircuit p.ports p.nets p.devices
IsCircuit-push c kind d g s is room = IsCircuit-pushed c.ports c.nets c.devices kind d g s is room

-- what holds of every circuit holds with more devices
pub IsCircuit-with_devices : (c : CircuitData) (ds : List (NamedDevice (List ℕ))) → IsCircuit c.ports c.nets c.devices → length c.devices + length ds ≤ most_devices
    → let e = with_devices c ds in IsCircuit e.ports e.nets e.devices
IsCircuit-with_devices c [] is few = is
IsCircuit-with_devices c (d ∷ ds) is few =
    let next = pushed c d.kind d.drain d.gate d.source in
    let more : length next.devices ≡ length c.devices + 1 = length-append c.devices _ in
    IsCircuit-with_devices next ds (IsCircuit-push c d.kind d.drain d.gate d.source is (omega arith)) (omega (arith, more))

-- each number is below the count of the nets in the end
pub devices_in_range : (bound n : ℕ) (ds : List Device) → numbers_used n (ends ds) ≤ bound → AllByRecursion (IsInRange bound) ds
devices_in_range bound n [] h = tt
devices_in_range bound n (d ∷ ds) h =
    let most = numbers_used-ge (max (max (max n (d.drain + 1)) (d.gate + 1)) (d.source + 1)) (ends ds) in (
      record { drain = omega arith; gate = omega arith; source = omega arith },
      devices_in_range bound (max (max (max n (d.drain + 1)) (d.gate + 1)) (d.source + 1)) ds h,
    )

-- the devices of a circuit name its nets
pub IsCircuit-in_range : (ports : ℕ) (nets : List (List ℕ)) (devices : List Device) → IsCircuit ports nets devices → All (IsInRange (length nets)) devices
IsCircuit-in_range ports nets devices is =
    All-from_recursion (IsInRange (length nets)) devices (devices_in_range (length nets) ports devices (omega (arith, is.all_used)))

-- a circuit has its ports among its nets, and few nets
pub IsCircuit-ports : (ports : ℕ) (nets : List (List ℕ)) (devices : List Device) → IsCircuit ports nets devices → ports ≤ length nets
IsCircuit-ports ports nets devices is = omega (arith, is.all_used, numbers_used-ge ports (ends devices))

pub IsCircuit-few : (ports : ℕ) (nets : List (List ℕ)) (devices : List Device) → IsCircuit ports nets devices → length nets ≤ most_ports + 3 * most_devices
IsCircuit-few ports nets devices is = omega (arith, is.all_used, numbers_used-le ports devices is.in_order, is.few_ports)

-- the circuit with these devices, and so many of its nets
abbrev pub first_nets : CircuitData → ℕ → List Device → CircuitData
first_nets c n devices = record c { nets = take n c.nets; devices = devices }

-- one device, by the names of its nets
pushed-named : (c : CircuitData) (n : ℕ) (before : List Device) (d : Device)
    → IsDistinct (pointwise nat_eq) c.nets → IsInRange (length c.nets) d → IsNumbered n (ends (d ∷ []))
    → pushed (first_nets c n before) d.kind (net_name c.nets d.drain) (net_name c.nets d.gate) (net_name c.nets d.source)
    ≡ first_nets c (numbers_used n (ends (d ∷ []))) (before ++ d ∷ [])
pushed-named c n before d apart low order =
    let first = with_net-take c.nets apart n d.drain order.0 low.drain in
    let second = with_net-take c.nets apart (max n (d.drain + 1)) d.gate order.1.0 low.gate in
    let third = with_net-take c.nets apart (max (max n (d.drain + 1)) (d.gate + 1)) d.source order.1.1.0 low.source in
    let drain = net_number-take c.nets apart n d.drain order.0 low.drain in
    let gate = net_number-take c.nets apart (max n (d.drain + 1)) d.gate order.1.0 low.gate in
    let source = net_number-take c.nets apart (max (max n (d.drain + 1)) (d.gate + 1)) d.source order.1.1.0 low.source in
    rw (first, second, third, drain, gate, source) refl

-- all devices, by the names of their nets
pub with_devices-named : (c : CircuitData) (n : ℕ) (before ds : List Device)
    → IsDistinct (pointwise nat_eq) c.nets → IsNumbered n (ends ds) → AllByRecursion (IsInRange (length c.nets)) ds
    → with_devices (first_nets c n before) (map (named_device c.nets) ds) ≡ first_nets c (numbers_used n (ends ds)) (before ++ ds)
with_devices-named c n before [] apart order low = ap (first_nets c n) (sym (append-nil before))
with_devices-named c n before (d ∷ ds) apart order low =
    ap (λ e. with_devices e (map (named_device c.nets) ds)) (pushed-named c n before d apart low.0 (order.0, (order.1.0, (order.1.1.0, tt))))
    ∙ with_devices-named c (numbers_used n (ends (d ∷ []))) (before ++ d ∷ []) ds apart order.1.1.1 low.1
    ∙ ap (first_nets c (numbers_used n (ends (d ∷ ds)))) (append_assoc before (d ∷ []) ds)
