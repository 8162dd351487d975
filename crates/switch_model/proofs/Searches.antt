-- Values that are read, tests of sources, and the ends of devices.
use Rattle.std.proofs.Common.{◌≡◌, ℕ, zero, suc, ◌^◌, ◌<◌, ◌≤◌, true, false, List, [], ◌∷◌, inl, inr, length, get_or, refl, subst, arith}
use Rattle.std.proofs.lemmas.Bool.Decides.{nat_tests}
use Rattle.dom_base.specs.declared.tri.Tri.{Tri}
use Rattle.deck.specs.Nets.{IsCircuit, IsInRange}
use Rattle.deck.specs.Paths.{Ends}
use Rattle.deck.specs.Switches.{value_of}
use Rattle.deck.specs.declared.device.Device.{Device}
use Rattle.deck.proofs.DeviceNumbers.{numbers_used-le}
use Rattle.switch_model.specs.Laws.{EndsAt}
use Rattle.switch_model.specs.LinksData.{is_first}

-- a value that is read
pub read_same : (values : List Tri) (n : ℕ) (d : Tri) → n < length values → get_or values n d ≡ value_of values n
read_same [] n d lt = absurd (omega arith)
read_same (v ∷ values) zero d lt = refl
read_same (v ∷ values) (suc n) d lt = read_same values n d (omega arith)

pub first-true : (sources n : ℕ) → n < sources → is_first sources n ≡ true
first-true sources n lt = grind (arith, nat_tests)

pub first-false : (sources n : ℕ) → sources ≤ n → is_first sources n ≡ false
first-false sources n le = grind (arith, nat_tests)

-- both ends of a device in range are in range
pub end-in_range : (nets : ℕ) (d : Device) (a b : ℕ) → IsInRange nets d → Ends d a b → b < nets
end-in_range nets d a b r (inl e) = subst (λ n. n < nets) e.1 r.source
end-in_range nets d a b r (inr e) = subst (λ n. n < nets) e.1 r.drain

pub ends_at : (d : Device) (a b : ℕ) → Ends d a b → EndsAt d a
ends_at d a b (inl e) = inl e.0
ends_at d a b (inr e) = inr e.0

pub other_at : (d : Device) (a b : ℕ) → Ends d a b → EndsAt d b
other_at d a b (inl z) = inr z.1
other_at d a b (inr z) = inl z.1

-- a circuit has at most so many nets
pub few-nets : (ports : ℕ) (nets : List (List ℕ)) (devices : List Device) → IsCircuit ports nets devices → length nets ≤ 2 ^ 26
few-nets ports nets devices c = omega (arith, c.all_used, numbers_used-le ports devices c.in_order, c.few_ports, c.few_devices)
