-- The text by cells of a circuit to which groups of devices were appended, by the names of the devices' nets.
use Rattle.std.proofs.Common.{◌≡◌, ℕ, ◌+◌, ◌-◌, ◌≤◌, List, [], ◌∷◌, ◌++◌, map, length, take, drop, All, refl, sym, ap, ap₂, ◌∙◌, subst, arith}
use Rattle.std.specs.Prelude.{codes}
use Rattle.std.specs.List.{AllByRecursion, enumerate_from, flat_map}
use Rattle.std.proofs.lemmas.List.{drop-map, drop_at, take-map, take_at}
use Rattle.std.proofs.lemmas.Option.{get_or_from_slice_get}
use Rattle.indexmap.specs.IndexSet.{insert_all}
use Rattle.deck.specs.CircuitData.{CircuitData}
use Rattle.deck.specs.NamedDevices.{NamedDevice, named_device, with_devices}
use Rattle.deck.specs.Nets.{net_number}
use Rattle.deck.specs.NumberedDevices.{IsNumberedDevice, numbered_device}
use Rattle.deck.specs.Ports.{IsOutput, IsPin, leading_ports}
use Rattle.deck.specs.Pushes.{new_circuit}
use Rattle.deck.specs.declared.device.Device.{Device}
use Rattle.deck.specs.declared.phase.Phase.{Phase}
use Rattle.deck.proofs.CircuitGrowth.{with_devices-devices, with_devices-grew, with_devices-numbered}
use Rattle.deck_form.specs.DeckGroups.{ends_from}
use Rattle.spice_text.specs.Cells.{IsWrittenByCells, call_line, call_lines, cell_lines, group_shape, groups_from, same_cell_shape, shapes_of}
use Rattle.spice_text.specs.Parts.{IsSubckt, subckt_with}
use Rattle.spice_text.specs.Text.{deck_line, phase_line}
use Rattle.spice_text.proofs.CellTexts.{cells-whole}
use Rattle.spice_text.proofs.Whole.{subckt-cut}
use Rattle.plan_text.specs.CalledTexts.{calls_from, calls_of_groups, cell_of_group, shapes_of_groups}
use Rattle.plan_text.specs.DeckTexts.{cells_head, grouped_deck_text}
use Rattle.plan_text.proofs.DeckTexts.{port_groups}

-- devices by the names of their nets
named_back : (nets : List (List ℕ)) (ds : List (NamedDevice (List ℕ))) → AllByRecursion (IsNumberedDevice nets) ds
    → map (named_device nets) (map (numbered_device nets) ds) ≡ ds
named_back nets [] at = refl
named_back nets (d ∷ ds) at =
    let drain = get_or_from_slice_get nets (net_number nets d.drain) d.drain [] at.0.0 in
    let gate = get_or_from_slice_get nets (net_number nets d.gate) d.gate [] at.0.1 in
    let source = get_or_from_slice_get nets (net_number nets d.source) d.source [] at.0.2 in
    let rest = named_back nets ds at.1 in
    λ i. record { kind = d.kind; drain = drain i; gate = gate i; source = source i } ∷ rest i

-- groups that stand one behind the other
groups_back : (f : Device → NamedDevice (List ℕ)) (start : ℕ) (groups : List (List (NamedDevice (List ℕ)))) (devices : List Device)
    → map f devices ≡ flat_map (λ group. group) groups → map (map f) (groups_from start (ends_from start groups) devices) ≡ groups
groups_back f start [] devices same = refl
groups_back f start (group ∷ groups) devices same =
    let n : ℕ = start + length group - start in
    let size : length group ≡ n = omega arith in
    let others : List (NamedDevice (List ℕ)) = flat_map (λ g. g) groups in
    let first : map f (take n devices) ≡ group = sym (take-map f n devices) ∙ ap (take n) same ∙ take_at group others n size in
    let left : map f (drop n devices) ≡ others = sym (drop-map f n devices) ∙ ap (drop n) same ∙ drop_at group others n size in
    ap₂ (λ a b. a ∷ b) first (groups_back f (start + length group) groups (drop n devices) left)

-- the shapes and the calls of groups by the names of their nets
shapes_by_names : (nets : List (List ℕ)) (gs : List (List Device))
    → map (group_shape nets) gs ≡ map (λ (g : List (NamedDevice (List ℕ))). (cell_of_group g).devices) (map (map (named_device nets)) gs)
shapes_by_names nets [] = refl
shapes_by_names nets (g ∷ gs) = ap (λ l. group_shape nets g ∷ l) (shapes_by_names nets gs)

calls_by_names : (nets : List (List ℕ)) (shapes : List (List Device)) (k : ℕ) (gs : List (List Device))
    → flat_map (call_line nets shapes) (enumerate_from k gs) ≡ calls_from shapes k (map (map (named_device nets)) gs)
calls_by_names nets shapes k [] = refl
calls_by_names nets shapes k (g ∷ gs) = ap (λ l. call_line nets shapes (k, g) ++ l) (calls_by_names nets shapes (k + 1) gs)

module _ (name : List ℕ) (phases : List Phase) (clocks : ℕ) (pins outs : List (List ℕ)) (groups : List (List (NamedDevice (List ℕ))))
    (few_clocks : clocks ≤ 4) (pins_are : All IsPin pins) (outs_are : All IsOutput outs) where
  abbrev bare : CircuitData
  bare = new_circuit name phases clocks pins outs

  abbrev devices : List (NamedDevice (List ℕ))
  devices = flat_map (λ group. group) groups

  abbrev full : CircuitData
  full = with_devices bare devices

  abbrev cut : List (List Device)
  cut = groups_from 0 (ends_from 0 groups) full.devices

  cut_is : map (map (named_device full.nets)) cut ≡ groups
  cut_is =
      groups_back (named_device full.nets) 0 groups full.devices
      (ap (map (named_device full.nets)) (with_devices-devices bare devices)
      ∙ named_back full.nets devices (with_devices-numbered bare devices))

  shapes_are : shapes_of full.nets cut ≡ shapes_of_groups groups
  shapes_are =
      ap (insert_all same_cell_shape []) (shapes_by_names full.nets cut
      ∙ ap (map (λ (g : List (NamedDevice (List ℕ))). (cell_of_group g).devices)) cut_is)

  calls_are : call_lines full.nets cut ≡ calls_of_groups groups
  calls_are =
      calls_by_names full.nets (shapes_of full.nets cut) 0 cut ∙ ap₂ (λ s g. calls_from s 0 g) shapes_are cut_is

  -- the text of the circuit by its cells
  pub grouped_by_names : 1 ≤ clocks → IsWrittenByCells full (ends_from 0 groups) (grouped_deck_text name phases clocks pins outs groups)
  grouped_by_names some =
      let grew = with_devices-grew bare devices in
      let before : List ℕ = cells_head phases (shapes_of_groups groups) in
      let middle : List ℕ = before ++ subckt_with name (leading_ports clocks) (pins ∷ outs ∷ []) in
      let ports = port_groups name phases clocks pins outs devices few_clocks pins_are outs_are some in
      let part : IsSubckt before full.name (take full.ports full.nets) middle =
      subst (λ (n : List ℕ). IsSubckt before n (take full.ports full.nets) middle) (sym grew.name)
      (subckt-cut before name middle (take full.ports full.nets) (leading_ports clocks) pins outs ports refl) in
      let head : before ≡ codes "* domsyn deck 2" ++ 10 ∷ [] ++ flat_map phase_line full.phases ++ flat_map cell_lines (enumerate_from 0 (shapes_of full.nets cut)) =
      (λ i. cells_head (sym grew.phases i) (sym shapes_are i)) in
      cells-whole full (ends_from 0 groups) before middle (grouped_deck_text name phases clocks pins outs groups) head part
      (λ i. middle ++ sym calls_are i ++ deck_line (codes ".ends") (sym grew.name i ∷ []))
