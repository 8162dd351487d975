-- The nets that are passed to a call stand for the ports, place by place.
use Rattle.std.proofs.Common.{◌≡◌, ℕ, ◌<◌, zero, suc, false, nat_eq, List, [], ◌∷◌, map, length, refl, ◌∙◌, arith}
use Rattle.std.specs.List.{AllByRecursion, IsDistinct}
use Rattle.std.specs.Cmp.Lexicographic.{pointwise}
use Rattle.std.proofs.lemmas.Option.{get_or_from_slice_get, slice_get_within}
use Rattle.deck.specs.NamedDevices.{NamedDevice, map_device, named_device}
use Rattle.deck.specs.Nets.{net_name, net_number}
use Rattle.deck.specs.NumberedDevices.{HasNumber, IsNumberedDevice, numbered_device}
use Rattle.deck.specs.Subckts.{passed_net}
use Rattle.deck.proofs.NetNumbers.{same_name}
use Rattle.subckt_expand.proofs.MoreClosed.{all_index}

-- the net that stands for a port is the one at its place
passed_at : (call : List ℕ) (ports nets : List (List ℕ)) (i : ℕ) → IsDistinct (pointwise nat_eq) ports → length ports ≡ length nets → i < length ports
    → passed_net call ports nets (net_name ports i) ≡ net_name nets i
unfolding IsDistinct
passed_at call [] nets i apart same lt = absurd (omega arith)
passed_at call (p ∷ ps) [] i apart same lt = absurd (omega arith)
passed_at call (p ∷ ps) (n ∷ ns) zero apart same lt = rw (same_name p) refl
passed_at call (p ∷ ps) (n ∷ ns) (suc i) apart same lt =
    let other : pointwise nat_eq p (net_name ps i) ≡ false = all_index (λ y. pointwise nat_eq p y ≡ false) ps i [] apart.0 (omega arith) in
    rw other (passed_at call ps ns i apart.1 (omega arith) (omega arith))

-- a net by the number that it has among the passed ones
passed_number : (call : List ℕ) (ports nets : List (List ℕ)) (name : List ℕ) → IsDistinct (pointwise nat_eq) ports → length ports ≡ length nets → HasNumber nets name
    → passed_net call ports nets (net_name ports (net_number nets name)) ≡ name
passed_number call ports nets name apart same at =
    passed_at call ports nets (net_number nets name) apart same (omega (arith, slice_get_within nets (net_number nets name) name at))
    ∙ get_or_from_slice_get nets (net_number nets name) name [] at

-- a device whose nets are numbered among the passed ones, called through the ports, is that device
pub passed_device : (call : List ℕ) (ports nets : List (List ℕ)) (d : NamedDevice (List ℕ)) → IsDistinct (pointwise nat_eq) ports → length ports ≡ length nets → IsNumberedDevice nets d
    → map_device (passed_net call ports nets) (named_device ports (numbered_device nets d)) ≡ d
passed_device call ports nets d apart same at =
    let drain = passed_number call ports nets d.drain apart same at.0 in
    let gate = passed_number call ports nets d.gate apart same at.1 in
    let source = passed_number call ports nets d.source apart same at.2 in
    λ i. record { kind = d.kind; drain = drain i; gate = gate i; source = source i }

-- the same of several devices
pub passed_devices : (call : List ℕ) (ports nets : List (List ℕ)) (ds : List (NamedDevice (List ℕ))) → IsDistinct (pointwise nat_eq) ports → length ports ≡ length nets
    → AllByRecursion (IsNumberedDevice nets) ds
    → map (map_device (passed_net call ports nets)) (map (named_device ports) (map (numbered_device nets) ds)) ≡ ds
passed_devices call ports nets [] apart same at = refl
passed_devices call ports nets (d ∷ ds) apart same at =
    let first = passed_device call ports nets d apart same at.0 in
    let rest = passed_devices call ports nets ds apart same at.1 in
    cc
