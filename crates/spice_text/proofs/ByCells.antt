-- The text by cells of a circuit, from what is numbered and appended.
use Rattle.std.proofs.Common.{◌≡◌, ℕ, ◌≤◌, List, [], ◌∷◌, ◌++◌, codes, length, take, All, ap, sym, ◌∙◌, subst, arith, append_assoc}
use Rattle.std.proofs.Common.{append-nil}
use Rattle.std.specs.List.{AllByRecursion, flat_map, enumerate_from}
use Rattle.std.proofs.lemmas.List.Elements.{recursion_from_All}
use Rattle.indexmap.specs.IndexSet.{insert_all}
use Rattle.deck.specs.CircuitData.{CircuitData}
use Rattle.deck.specs.Limits.{most_devices}
use Rattle.deck.specs.Nets.{IsCircuit, IsInRange}
use Rattle.deck.specs.declared.device.Device.{Device}
use Rattle.deck.specs.declared.phase.Phase.{Phase}
use Rattle.deck.proofs.DeviceNumbers.{IsCircuit-in_range}
use Rattle.spice_text.specs.Cells.{HasCells, IsWrittenByCells, PlacesRise, call_lines, cell_lines, groups_from, same_cell_shape, shapes_of}
use Rattle.spice_text.specs.GroupNets.{placed_calls, placed_shapes}
use Rattle.spice_text.specs.Parts.{IsSubckt}
use Rattle.spice_text.specs.Text.{deck_line, phase_line}
use Rattle.spice_text.proofs.CellTexts.{cells-whole}
use Rattle.spice_text.proofs.GroupCells.{calls_same, groups_in_range, shapes_same, two_nets}

-- the devices over so many nets, and the places at which their groups end, as they can be numbered
pub record AreReady (count : ℕ) (devices : List Device) (places : List ℕ) : Type 0 where
  pub supplies : 2 ≤ count
  pub within : All (IsInRange count) devices
  pub few : length devices ≤ most_devices
  pub rise : PlacesRise 0 places (length devices)

pub are_ready : (c : CircuitData) (places : List ℕ) → IsCircuit c.ports c.nets c.devices → HasCells c places
    → (count : ℕ) (devices : List Device) → count ≡ length c.nets → devices ≡ c.devices → AreReady count devices places
are_ready c places is has count devices same_count same_devices = record {
  supplies = subst (λ (n : ℕ). 2 ≤ n) (sym same_count) (two_nets c.nets has.supplies_first);
  within = subst (λ (n : ℕ). All (IsInRange n) devices) (sym same_count)
      (subst (λ (l : List Device). All (IsInRange (length c.nets)) l) (sym same_devices) (IsCircuit-in_range c.ports c.nets c.devices is));
  few = omega (arith, ap length same_devices, is.few_devices);
  rise = subst (λ (l : List Device). PlacesRise 0 places (length l)) (sym same_devices) has.rises;
}

-- the lines before that of `.subckt`, appended part by part
pub front_parts : (phases : List Phase) (keys : List (List Device)) (a b text : List ℕ) → a ≡ codes "* domsyn deck 2" ++ 10 ∷ []
    → b ≡ a ++ flat_map phase_line phases → text ≡ b ++ flat_map cell_lines (enumerate_from 0 keys)
    → text ≡ codes "* domsyn deck 2" ++ 10 ∷ [] ++ flat_map phase_line phases ++ flat_map cell_lines (enumerate_from 0 keys)
front_parts phases keys a b text ea eb et =
    let lines : List ℕ = flat_map cell_lines (enumerate_from 0 keys) in
    et ∙ ap (λ (l : List ℕ). l ++ lines) (eb ∙ ap (λ (l : List ℕ). l ++ flat_map phase_line phases) ea)
    ∙ append_assoc (codes "* domsyn deck 2" ++ 10 ∷ []) (flat_map phase_line phases) lines

five_texts : (middle calls end name last : List ℕ)
    → (((middle ++ calls) ++ end) ++ name) ++ last ≡ middle ++ calls ++ (end ++ (name ++ []) ++ last)
five_texts middle calls end name last = simp (append_assoc, append-nil)

-- the lines behind those of ports, appended part by part
pub back_parts : (middle calls name a b d text : List ℕ) → a ≡ middle ++ calls → b ≡ a ++ codes ".ends" → d ≡ b ++ 32 ∷ name
    → text ≡ d ++ 10 ∷ [] → text ≡ middle ++ calls ++ deck_line (codes ".ends") (name ∷ [])
back_parts middle calls name a b d text ea eb ed et =
    et ∙ ap (λ (l : List ℕ). l ++ 10 ∷ []) (ed ∙ ap (λ (l : List ℕ). l ++ 32 ∷ name) (eb ∙ ap (λ (l : List ℕ). l ++ codes ".ends") ea))
    ∙ five_texts middle calls (codes ".ends") (32 ∷ name) (10 ∷ [])

pub written_by_cells : (c : CircuitData) (places : List ℕ) → IsCircuit c.ports c.nets c.devices → HasCells c places
    → (keys : List (List Device)) (before middle text : List ℕ) → keys ≡ placed_shapes (groups_from 0 places c.devices)
    → before ≡ codes "* domsyn deck 2" ++ 10 ∷ [] ++ flat_map phase_line c.phases ++ flat_map cell_lines (enumerate_from 0 keys)
    → IsSubckt before c.name (take c.ports c.nets) middle
    → text
    ≡ middle ++ placed_calls c.nets (placed_shapes (groups_from 0 places c.devices)) 0 (groups_from 0 places c.devices)
    ++ deck_line (codes ".ends") (c.name ∷ [])
    → IsWrittenByCells c places text
written_by_cells c places is has keys before middle text ek eb part et =
    let groups : List (List Device) = groups_from 0 places c.devices in
    let within = recursion_from_All (IsInRange (length c.nets)) c.devices (IsCircuit-in_range c.ports c.nets c.devices is) in
    let low : AllByRecursion (AllByRecursion (IsInRange (length c.nets))) groups =
    groups_in_range (length c.nets) 0 places c.devices within in
    let shapes_are : placed_shapes groups ≡ shapes_of c.nets groups =
    ap (insert_all same_cell_shape []) (sym (shapes_same c.nets is.distinct has.supplies_first groups low)) in
    let keys_are : keys ≡ shapes_of c.nets groups = ek ∙ shapes_are in
    let calls : placed_calls c.nets (placed_shapes groups) 0 groups ≡ call_lines c.nets groups =
    ap (λ (k : List (List Device)). placed_calls c.nets k 0 groups) shapes_are
    ∙ calls_same c.nets is.distinct has.supplies_first (shapes_of c.nets groups) 0 groups low in
    let head : List ℕ = codes "* domsyn deck 2" ++ 10 ∷ [] ++ flat_map phase_line c.phases in
    cells-whole c places before middle text
    (eb ∙ ap (λ (k : List (List Device)). head ++ flat_map cell_lines (enumerate_from 0 k)) keys_are)
    part
    (et ∙ ap (λ (l : List ℕ). middle ++ l ++ deck_line (codes ".ends") (c.name ∷ [])) calls)
