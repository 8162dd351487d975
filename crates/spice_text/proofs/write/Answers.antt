use Rattle.std.proofs.Common.{rules, ◌≡◌, ◌++◌, ◌∷◌, [], List, ℕ, All, codes, length, take, sym, subst, append_assoc, append-nil}
use Rattle.std.proofs.lemmas.List.{length-take-le}
use Rattle.std.specs.List.{flat_map}
use Rattle.deck.specs.CircuitData.{CircuitData}
use Rattle.deck.specs.declared.device.Device.{Device}
use Rattle.spice_text.specs.Text.{phase_line, deck_line, device_cards, IsWritten}
use Rattle.deck.specs.Nets.{IsInRange}
use Rattle.deck.proofs.DeviceNumbers.{IsCircuit-in_range, IsCircuit-ports}
use Rattle.spice_text.specs.Parts.{IsSubckt}
use Rattle.spice_text.proofs.ReadBack.{read_back}
use Rattle.spice_text.proofs.Whole.{text-whole}
use Rattle.spice_text.proofs.write.Goals as goal

pub slice_bounds-put_subckt-end : goal.slice_bounds-put_subckt-end
slice_bounds-put_subckt-end c =
    let most = IsCircuit-ports c.circuit.inside.ports c.circuit.inside.nets.keys c.circuit.inside.devices.items c.circuit.invariant in
    rw c.as_slice-nets.ensures.keys (sym (length-take-le c.circuit.inside.ports c.circuit.inside.nets.keys most))

pub put_cards-requires : goal.put_cards-requires
put_cards-requires c =
    let all = IsCircuit-in_range c.circuit.inside.ports c.circuit.inside.nets.keys c.circuit.inside.devices.items c.circuit.invariant in
    let P : List (List ℕ) → List Device → Type 0 = λ nets devices. All (IsInRange (length nets)) devices in
    let some = subst (λ (devices : List Device). P c.circuit.inside.nets.keys devices) (sym c.as_slice-2.ensures.value) all in
    subst (λ (nets : List (List ℕ)). P nets c.as_slice-2.result.now) (sym c.as_slice-nets.ensures.keys) some

pub returns-clause-written : goal.returns-clause-written
returns-clause-written c =
    let inside : CircuitData = record {
      name = c.circuit.inside.name;
      phases = c.circuit.inside.phases.items;
      ports = c.circuit.inside.ports;
      nets = c.circuit.inside.nets.keys;
      devices = c.circuit.inside.devices.items;
    } in
    let before : c.put_phases.new.text.items ≡ codes "* domsyn deck 1" ++ 10 ∷ [] ++ flat_map phase_line inside.phases = search rules in
    let part : IsSubckt c.put_phases.new.text.items inside.name (take inside.ports inside.nets) c.put_subckt.new.text.items =
    let Q : List ℕ → List (List ℕ) → Type 0 = λ name nets. IsSubckt c.put_phases.new.text.items name (take inside.ports nets) c.put_subckt.new.text.items in
    subst (λ (name : List ℕ). Q name inside.nets) c.as_bytes.ensures.bytes
    (subst (λ (nets : List (List ℕ)). Q c.as_bytes.result.now nets) c.as_slice-nets.ensures.keys (c.in_ok-put_subckt.ensures {u = tt})) in
    let whole : c.append-3.new.text.items ≡ c.put_subckt.new.text.items ++ device_cards inside.nets inside.devices ++ deck_line (codes ".ends") (inside.name ∷ []) = search (rules, append_assoc, append-nil) in
    let P : CircuitData → Type 0 = λ v. IsWritten v c.append-3.new.text.items in
    subst P c.circuit.view_is (text-whole inside c.put_phases.new.text.items c.put_subckt.new.text.items c.append-3.new.text.items before part whole)

pub returns-clause-reads_back : goal.returns-clause-reads_back
returns-clause-reads_back c = λ good.
    read_back c.args.circuit.now c.append-3.new.text.items record { is = c.whole.ensures.whole.numbered; names = c.whole.ensures.whole.names; good = good } (returns-clause-written c)
