-- Inverters that are appended one by one.
use Rattle.std.proofs.Common.{◌≡◌, ℕ, zero, suc, ◌+◌, ◌*◌, ◌≤◌, ◌<◌, true, false, List, [], ◌∷◌, ◌++◌, length, map, take, refl, sym, ap, ◌∙◌, subst, arith, nat_eq, Some, slice_get, get_or, All, length-take, inl, inr, add-one}
use Rattle.std.specs.Prelude.{◌≢◌, Contains, codes}
use Rattle.std.specs.List.{AllByRecursion, IsDistinct}
use Rattle.std.specs.Cmp.Lexicographic.{pointwise, bytes_decides}
use Rattle.std.proofs.lemmas.List.Elements.{recursion_from_All}
use Rattle.std.proofs.lemmas.Option.{slice_get_within}
use Rattle.dom_base.proofs.Lists.{All-at, AllByRecursion-append, AllByRecursion-contains}
use Rattle.deck.specs.CircuitData.{CircuitData}
use Rattle.deck.specs.NamedDevices.{NamedDevice, with_devices}
use Rattle.deck.specs.Nets.{IsCircuit, net_number}
use Rattle.deck.specs.NumberedDevices.{HasNumber, IsNumberedDevice, numbered_device}
use Rattle.deck.specs.Sources.{is_source}
use Rattle.deck.specs.declared.device.Device.{Device}
use Rattle.deck.proofs.CircuitGrowth.{with_devices-append, with_devices-devices, with_devices-numbered}
use Rattle.deck.proofs.NetNumbers.{HasNumber-below, number_cases, same_number}
use Rattle.domino_cell.specs.Cell.{inverter}
use Rattle.domino_cell.specs.PushedNames.{IsPort}
use Rattle.domino_cell.proofs.AppendedNets.{behind_no_source, new_behind, old_source, port_below, port_is_source}
use Rattle.latch_bind.specs.Sinks.{HasRoomForSink, sink_inverter}
use Rattle.latch_bind.proofs.LatchParts.{two_parts}
use Rattle.synth_flow.specs.MadeDecks.{EndsApart, HasRoomForInverters, inverters}
use Rattle.domino_cell.proofs.CellCircuits.{count_with}
use Rattle.synth_flow.proofs.LoopItems.{item_at}

-- the devices of a circuit that end elsewhere by name end elsewhere by number
away : (nets : List (List ℕ)) (out : List ℕ) (ds : List (NamedDevice (List ℕ))) → AllByRecursion (IsNumberedDevice nets) ds → AllByRecursion (EndsApart out) ds
    → AllByRecursion (λ (x : Device). (x.drain ≢ net_number nets out) × (x.source ≢ net_number nets out)) (map (numbered_device nets) ds)
away nets out [] at apart = tt
away nets out (d ∷ ds) at apart = ((λ e. apart.0.0 (same d.drain at.0.0 e), λ e. apart.0.1 (same d.source at.0.2 e)), away nets out ds at.1 apart.1)
  where
    same : (name : List ℕ) → HasNumber nets name → net_number nets name ≡ net_number nets out → name ≡ out
    same name has e =
        let low = slice_get_within nets (net_number nets name) name has in
        same_number nets name out has (HasNumber-below nets out (omega (arith, e, low))) e

module _ (bare : CircuitData) (named : List (NamedDevice (List ℕ))) (bare_is : IsCircuit bare.ports bare.nets bare.devices) where
  no_source : (out : List ℕ) → is_source bare (net_number bare.nets out) ≡ false → is_source (with_devices bare named) (net_number (with_devices bare named).nets out) ≡ false
  no_source out none =
      elim (number_cases (pointwise nat_eq out) bare.nets) [
        | inl h ↦ old_source bare named bare_is out (HasNumber-below bare.nets out h.1) ∙ none
        | inr h ↦ behind_no_source bare named bare_is (net_number (with_devices bare named).nets out) (new_behind bare named bare_is out h.0)
      ]

  -- a circuit has room for an inverter whose output is no source and at which no device ends
  pub room_for_sink : (out : List ℕ) → bare.devices ≡ [] → IsPort bare (codes "vdd") → IsPort bare (codes "vss")
      → is_source bare (net_number bare.nets out) ≡ false → AllByRecursion (EndsApart out) named → HasRoomForSink (with_devices bare named) out
  room_for_sink out empty vdd vss none apart = record {
    vdd = port_below bare named bare_is (codes "vdd") vdd;
    vss = port_below bare named bare_is (codes "vss") vss;
    no_source = no_source out none;
    none_ends = λ d has.
        let nets = (with_devices bare named).nets in
        let devices : (with_devices bare named).devices ≡ map (numbered_device nets) named = with_devices-devices bare named ∙ ap (λ ds. ds ++ map (numbered_device nets) named) empty in
        AllByRecursion-contains (λ (x : Device). (x.drain ≢ net_number nets out) × (x.source ≢ net_number nets out)) (map (numbered_device nets) named) d
        (away nets out named (with_devices-numbered bare named) apart) (subst (λ ds. Contains ds d) devices has);
  }

  -- a supply is no such output
  pub supply_apart : (supply out : List ℕ) → IsPort bare supply → is_source bare (net_number bare.nets supply) ≡ true → is_source bare (net_number bare.nets out) ≡ false → supply ≢ out
  supply_apart supply out port source none e = let never : true ≡ false = sym source ∙ ap (λ n. is_source bare (net_number bare.nets n)) e ∙ none in cc

-- one more inverter
pub inverters_more : (gates outs : List (List ℕ)) (k : ℕ) (gate out : List ℕ) → slice_get gates k ≡ Some gate → slice_get outs k ≡ Some out
    → inverters (take (suc k) gates) (take (suc k) outs) ≡ inverters (take k gates) (take k outs) ++ inverter (codes "vdd") (codes "vss") gate out
inverters_more [] outs k gate out g o = absurd (cc)
inverters_more (x ∷ gates) [] k gate out g o = absurd (cc)
inverters_more (x ∷ gates) (y ∷ outs) zero gate out g o =
    let same_gate : x ≡ gate = cc in
    let same_out : y ≡ out = cc in
    λ i. inverter (codes "vdd") (codes "vss") (same_gate i) (same_out i)
inverters_more (x ∷ gates) (y ∷ outs) (suc k) gate out g o =
    ap (λ l. inverter (codes "vdd") (codes "vss") x y ++ l) (inverters_more gates outs k gate out g o)

pub inverters_length : (gates outs : List (List ℕ)) → length gates ≡ length outs → length (inverters gates outs) ≡ 2 * length outs
inverters_length [] [] e = refl
inverters_length [] (y ∷ outs) e = absurd (omega arith)
inverters_length (x ∷ gates) [] e = absurd (omega arith)
inverters_length (x ∷ gates) (y ∷ outs) e = let rest = inverters_length gates outs (omega arith) in omega (arith, rest)

-- the first inverters don't end at the next output
pub first_apart_from : (gates outs : List (List ℕ)) (k : ℕ) (out : List ℕ) → slice_get outs k ≡ Some out → IsDistinct (pointwise nat_eq) outs → codes "vdd" ≢ out → codes "vss" ≢ out
    → AllByRecursion (EndsApart out) (inverters (take k gates) (take k outs))
unfolding IsDistinct
first_apart_from gates [] k out o apart vdd vss = absurd (cc)
first_apart_from [] (y ∷ outs) zero out o apart vdd vss = tt
first_apart_from [] (y ∷ outs) (suc k) out o apart vdd vss = tt
first_apart_from (x ∷ gates) (y ∷ outs) zero out o apart vdd vss = tt
first_apart_from (x ∷ gates) (y ∷ outs) (suc k) out o apart vdd vss =
    let differs : y ≢ out = λ e. let never : true ≡ false = sym ((bytes_decides y out).1 e) ∙ each outs k o apart.0 in cc in
    ((differs, vdd), ((differs, vss), first_apart_from gates outs k out o apart.1 vdd vss))
  where
    each : (xs : List (List ℕ)) (i : ℕ) → slice_get xs i ≡ Some out → AllByRecursion (λ z. pointwise nat_eq y z ≡ false) xs → pointwise nat_eq y out ≡ false
    each [] i at all = absurd (cc)
    each (z ∷ xs) zero at all = let same : z ≡ out = cc in subst (λ w. pointwise nat_eq y w ≡ false) same all.0
    each (z ∷ xs) (suc i) at all = each xs i at all.1

-- where so many inverters stand, there is room for the next
pub room_for_next : (old : CircuitData) (gates outs : List (List ℕ)) (k : ℕ) (out : List ℕ) → HasRoomForInverters old outs → slice_get outs k ≡ Some out
    → HasRoomForSink (with_devices old (inverters (take k gates) (take k outs))) out
room_for_next old gates outs k out room at =
    let first = inverters (take k gates) (take k outs) in
    let none = All-at (λ x. is_source room.bare (net_number room.bare.nets x) ≡ false) outs k out room.no_sources at in
    let before = recursion_from_All (EndsApart out) room.named (All-at (λ x. All (EndsApart x) room.named) outs k out room.none_ends at) in
    let source = λ (name : List ℕ) (port : IsPort room.bare name). port_is_source room.bare [] room.bare_is name port in
    let vdd = supply_apart room.bare room.named room.bare_is (codes "vdd") out room.vdd (source (codes "vdd") room.vdd refl) none in
    let vss = supply_apart room.bare room.named room.bare_is (codes "vss") out room.vss (source (codes "vss") room.vss refl) none in
    let all = AllByRecursion-append (EndsApart out) room.named first before (first_apart_from gates outs k out at room.apart vdd vss) in
    let made : with_devices room.bare (room.named ++ first) ≡ with_devices old first = with_devices-append room.bare room.named first ∙ ap (λ c. with_devices c first) (sym room.circuit_is) in
    subst (λ (c : CircuitData). HasRoomForSink c out) made
    (room_for_sink room.bare (room.named ++ first) room.bare_is out room.empty room.vdd room.vss none all)

-- the inverters so far and one more
pub next_inverter : (old between new : CircuitData) (gates outs : List (List ℕ)) (k : ℕ) (gate out : List ℕ) → k < length gates → k < length outs
    → gate ≡ get_or gates k gate → out ≡ get_or outs k out → between ≡ with_devices old (inverters (take k gates) (take k outs)) → new ≡ with_devices between (sink_inverter gate out)
    → new ≡ with_devices old (inverters (take (k + 1) gates) (take (k + 1) outs))
next_inverter old between new gates outs k gate out low_gate low_out is_gate is_out one two =
    two_parts old between new (inverters (take k gates) (take k outs)) (sink_inverter gate out) one two
    ∙ ap (with_devices old) (sym (inverters_more gates outs k gate out (item_at gates k gate low_gate is_gate) (item_at outs k out low_out is_out)))
    ∙ ap (λ n. with_devices old (inverters (take n gates) (take n outs))) (sym (add-one k))

-- room for one more
pub room_for_more : (old between : CircuitData) (gates outs : List (List ℕ)) (k : ℕ) → length gates ≡ length outs → k < length outs
    → between ≡ with_devices old (inverters (take k gates) (take k outs)) → length between.devices + 2 ≤ length old.devices + 2 * length outs
room_for_more old between gates outs k same low one =
    let first = inverters (take k gates) (take k outs) in
    let equal : length (take k gates) ≡ length (take k outs) = omega (arith, length-take k gates, length-take k outs) in
    omega (arith, ap (λ (c : CircuitData). length c.devices) one, count_with old first, inverters_length (take k gates) (take k outs) equal, length-take k outs)
