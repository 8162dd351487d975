use Rattle.std.proofs.Common.{◌≡◌, ◌++◌, ◌∷◌, [], ℕ, List, codes, length, take, ap, ap₂, sym, ◌∙◌, subst}
use Rattle.std.proofs.lemmas.List.{length-take-le}
use Rattle.std.specs.List.{flat_map}
use Rattle.deck.specs.CircuitData.{CircuitData}
use Rattle.deck.specs.declared.device.Device.{Device}
use Rattle.deck.specs.declared.phase.Phase.{Phase}
use Rattle.deck.proofs.DeviceNumbers.{IsCircuit-ports}
use Rattle.spice_text.specs.Cells.{groups_from}
use Rattle.spice_text.specs.GroupNets.{placed_calls, placed_shapes}
use Rattle.spice_text.specs.Parts.{IsSubckt}
use Rattle.spice_text.specs.Text.{phase_line}
use Rattle.spice_text.proofs.ByCells.{are_ready, back_parts, front_parts, written_by_cells}
use Rattle.spice_text.proofs.by_cells.write_cells.Goals as goal

pub slice_bounds-put_subckt-end : goal.slice_bounds-put_subckt-end
slice_bounds-put_subckt-end c =
    let most = IsCircuit-ports c.circuit.inside.ports c.circuit.inside.nets.keys c.circuit.inside.devices.items c.circuit.invariant in
    rw c.as_slice-nets.ensures.keys (sym (length-take-le c.circuit.inside.ports c.circuit.inside.nets.keys most))

pub place_groups-requires-clause-supplies : goal.place_groups-requires-clause-supplies
place_groups-requires-clause-supplies c =
    let v = c.args.circuit.now in
    let nets : c.as_slice-nets.result.now ≡ v.nets = c.as_slice-nets.ensures.keys ∙ ap (λ (x : CircuitData). x.nets) c.circuit.view_is in
    let devices : c.as_slice-devices.result.now ≡ v.devices =
    c.as_slice-devices.ensures.value ∙ ap (λ (x : CircuitData). x.devices) c.circuit.view_is in
    (are_ready v c.args.ends.now c.whole.ensures.whole.numbered c.requires (length c.as_slice-nets.result.now) c.as_slice-devices.result.now
    (ap length nets) devices).supplies

pub place_groups-requires-clause-within : goal.place_groups-requires-clause-within
place_groups-requires-clause-within c =
    let v = c.args.circuit.now in
    let nets : c.as_slice-nets.result.now ≡ v.nets = c.as_slice-nets.ensures.keys ∙ ap (λ (x : CircuitData). x.nets) c.circuit.view_is in
    let devices : c.as_slice-devices.result.now ≡ v.devices =
    c.as_slice-devices.ensures.value ∙ ap (λ (x : CircuitData). x.devices) c.circuit.view_is in
    (are_ready v c.args.ends.now c.whole.ensures.whole.numbered c.requires (length c.as_slice-nets.result.now) c.as_slice-devices.result.now
    (ap length nets) devices).within

pub returns : goal.returns
returns c =
    let v = c.args.circuit.now in
    let ends = c.args.ends.now in
    let nets : c.as_slice-nets.result.now ≡ v.nets = c.as_slice-nets.ensures.keys ∙ ap (λ (x : CircuitData). x.nets) c.circuit.view_is in
    let devices : c.as_slice-devices.result.now ≡ v.devices =
    c.as_slice-devices.ensures.value ∙ ap (λ (x : CircuitData). x.devices) c.circuit.view_is in
    let phases : c.as_slice.result.now ≡ v.phases =
    c.as_slice.ensures.value ∙ ap (λ (x : CircuitData). x.phases) c.circuit.view_is in
    let name = c.as_bytes.ensures.bytes ∙ ap (λ (x : CircuitData). x.name) c.circuit.view_is in
    let name_again = c.as_bytes-2.ensures.bytes ∙ ap (λ (x : CircuitData). x.name) c.circuit.view_is in
    let ports = ap (λ (x : CircuitData). x.ports) c.circuit.view_is in
    let placed = c.in_ok-shapes in
    let keys = placed.field-0.shapes.keys in
    let before = c.put_shapes.new.text.items in
    let middle = c.put_subckt.new.text.items in
    let text = c.append-4.new.text.items in
    let groups = groups_from 0 ends v.devices in
    let groups_are : groups_from 0 ends c.as_slice-devices.result.now ≡ groups = ap (λ (l : List Device). groups_from 0 ends l) devices in
    let phases_put : c.put_phases.new.text.items ≡ c.append.new.text.items ++ flat_map phase_line v.phases =
    c.in_ok-put_phases.ensures {u = tt} ∙ ap (λ (l : List Phase). c.append.new.text.items ++ flat_map phase_line l) phases in
    let part : IsSubckt before v.name (take v.ports v.nets) middle =
    subst (λ (b : List ℕ). IsSubckt before b (take v.ports v.nets) middle) name
    (subst (λ (l : List (List ℕ)). IsSubckt before c.as_bytes.result.now l middle)
    (ap₂ (λ (n : ℕ) (l : List (List ℕ)). take n l) ports nets)
    (c.in_ok-put_subckt.ensures {u = tt})) in
    let made : placed.field-0.calls.items ≡ placed_calls v.nets (placed_shapes groups) 0 groups =
    placed.ensures.calls
    ∙ ap₂ (λ (l : List (List ℕ)) (g : List (List Device)). placed_calls l (placed_shapes g) 0 g) nets groups_are in
    let calls : c.append-2.new.text.items ≡ middle ++ placed_calls v.nets (placed_shapes groups) 0 groups =
    c.in_ok-append-2.ensures.bytes ∙ ap (λ (l : List ℕ). middle ++ l) (c.as_slice-2.ensures.value ∙ made) in
    written_by_cells v ends c.whole.ensures.whole.numbered c.requires keys before middle text
    (placed.ensures.shapes ∙ ap placed_shapes groups_are)
    (front_parts v.phases keys c.append.new.text.items c.put_phases.new.text.items before
    (c.in_ok-append.ensures.bytes ∙ ap (λ (l : List ℕ). l ++ (codes "* domsyn deck 2" ++ 10 ∷ [])) c.new-text.ensures.items) phases_put
    (c.in_ok-put_shapes.ensures {u = tt}))
    part
    (back_parts middle (placed_calls v.nets (placed_shapes groups) 0 groups) v.name c.append-2.new.text.items
    c.append-3.new.text.items c.append_word.new.text.items text calls c.in_ok-append-3.ensures.bytes
    (c.in_ok-append_word.ensures.word ∙ ap (λ (b : List ℕ). c.append-3.new.text.items ++ 32 ∷ b) name_again) c.in_ok-append-4.ensures.bytes)
