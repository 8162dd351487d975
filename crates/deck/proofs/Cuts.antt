-- Circuits with their first devices alone: they are circuits, and what grew from a circuit goes back to it.
use Rattle.std.proofs.Common.{◌≡◌, ◌<◌, ◌≤◌, ℕ, ◌+◌, max, List, [], ◌∷◌, ◌++◌, get_or, length, length-take, take, drop, refl, sym, ap, ◌∙◌, subst, arith}
use Rattle.std.proofs.Math.Seq.{take-append_seam}
use Rattle.std.proofs.lemmas.List.{take-append-drop, take_more}
use Rattle.deck.specs.CircuitData.{CircuitData}
use Rattle.deck.specs.CircuitGrowth.{Grew}
use Rattle.deck.specs.Cuts.{cut_to}
use Rattle.deck.specs.NamedDevices.{NamedDevice, with_devices}
use Rattle.deck.specs.Nets.{ends, IsCircuit, IsNumbered, numbers_used}
use Rattle.deck.specs.declared.device.Device.{Device}
use Rattle.deck.proofs.CircuitGrowth.{with_devices-grew}
use Rattle.deck.proofs.DeviceNumbers.{ends-append, numbers_used-append, numbers_used-ge}
use Rattle.deck.proofs.NetNumbers.{IsDistinct-take}

IsNumbered-front : (n : ℕ) (xs ys : List ℕ) → IsNumbered n (xs ++ ys) → IsNumbered n xs
IsNumbered-front n [] ys a = tt
IsNumbered-front n (x ∷ xs) ys a = (a.0, IsNumbered-front (max n (x + 1)) xs ys a.1)

-- the first devices and their nets are a circuit
pub IsCircuit-cut : (ports : ℕ) (nets : List (List ℕ)) (devices : List Device) (n : ℕ)
    → IsCircuit ports nets devices → IsCircuit ports (take (numbers_used ports (ends (take n devices))) nets) (take n devices)
IsCircuit-cut ports nets devices n is =
    let front = ends (take n devices) in
    let back = ends (drop n devices) in
    let split : ends devices ≡ front ++ back = ap ends (sym (take-append-drop n devices)) ∙ ends-append (take n devices) (drop n devices) in
    let P : List ℕ → Type 0 = λ es. IsNumbered ports es in
    let more : numbers_used ports front ≤ length nets
    = omega (arith, is.all_used, ap (numbers_used ports) split, numbers_used-append ports front back, numbers_used-ge (numbers_used ports front) back) in
    record {
      few_ports = is.few_ports;
      few_devices = omega (arith, length-take n devices, is.few_devices);
      distinct = IsDistinct-take (numbers_used ports front) nets is.distinct;
      in_order = IsNumbered-front ports front back (subst P split is.in_order);
      all_used = omega (arith, length-take (numbers_used ports front) nets, more);
    }

-- what grew from a circuit, with as many devices as the circuit had, is the circuit
pub cut_to-grew : (old new : CircuitData) → Grew old new → length old.nets ≡ numbers_used old.ports (ends old.devices) → cut_to new (length old.devices) ≡ old
cut_to-grew old new x full =
    let same : take (length old.devices) new.devices ≡ old.devices
    = ap (take (length old.devices)) x.devices ∙ take-append_seam old.devices x.more_devices in
    let count : numbers_used new.ports (ends (take (length old.devices) new.devices)) ≡ length old.nets = rw (same, x.ports) (sym full) in
    let kept : take (numbers_used new.ports (ends (take (length old.devices) new.devices))) new.nets ≡ old.nets
    = rw (count, x.nets) (take-append_seam old.nets x.more_nets) in
    λ i. record { name = x.name i; phases = x.phases i; ports = x.ports i; nets = kept i; devices = same i }

-- after any devices a cut to the old number of devices gives the old circuit back
pub cut_to-with_devices : (c : CircuitData) (ds : List (NamedDevice (List ℕ))) → IsCircuit c.ports c.nets c.devices → cut_to (with_devices c ds) (length c.devices) ≡ c
cut_to-with_devices c ds is = cut_to-grew c (with_devices c ds) (with_devices-grew c ds) is.all_used

-- one more device, as a loop counts
pub used-more : (n : ℕ) (devices : List Device) (i : ℕ) (d : Device) → i < length devices
    → numbers_used n (ends (take (i + 1) devices))
    ≡ max (max (max (numbers_used n (ends (take i devices))) ((get_or devices i d).drain + 1)) ((get_or devices i d).gate + 1)) ((get_or devices i d).source + 1)
used-more n devices i d lt =
    rw (
      take_more devices i d lt,
      ends-append (take i devices) (get_or devices i d ∷ []),
      numbers_used-append n (ends (take i devices)) (ends (get_or devices i d ∷ [])),
    ) refl

pub ruleset counting_used = (used-more)
