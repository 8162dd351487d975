-- The subcircuits of a circuit's cells and of the circuit itself, and the names of their nets.
use Rattle.std.proofs.Common.{◌≡◌, ℕ, ◌<◌, ◌≤◌, ◌≢◌, ◌+◌, ◌^◌, Bool, true, false, if◌then◌else◌, nat_eq, List, [], ◌∷◌, ◌++◌, map, length, take, max, fold, codes, refl, ap, sym, ◌∙◌, subst, arith}
use Rattle.std.specs.List.{AllByRecursion, flat_map, enumerate_from, list_any, starts_with}
use Rattle.std.specs.Cmp.Lexicographic.{pointwise}
use Rattle.std.proofs.lemmas.List.{length-map, length-append, length-take-le}
use Rattle.std.proofs.lemmas.List.Elements.{All-cons, All-from_recursion, recursion_from_All}
use Rattle.indexmap.specs.IndexSet.{insert_key, insert_all}
use Rattle.dom_base.proofs.Lists.{AllByRecursion-append, AllByRecursion-groups, AllByRecursion-weaker, AllByRecursion-reverse}
use Rattle.deck.specs.declared.device.Device.{Device}
use Rattle.deck.specs.CircuitData.{CircuitData}
use Rattle.deck.specs.DeckText.{bare_circuit, HasNoEquals, IsCallOver, AreSubckts}
use Rattle.deck.specs.Limits.{most_devices, most_ports}
use Rattle.deck.specs.NamedDevices.{named_device, with_devices}
use Rattle.deck.specs.Nets.{net_name, with_net, IsCircuit, IsInRange}
use Rattle.deck.specs.Pushes.{pushed}
use Rattle.deck.proofs.DeviceNumbers.{IsCircuit-ports, devices_in_range}
use Rattle.deck.proofs.NetNumbers.{IsDistinct-take}
use Rattle.deck.specs.Subckts.{Subckt, expansion, expansions, size, sizes, part_devices, part_depth}
use Rattle.spice_text.specs.Cells.{supplies, groups_from, group_cell, group_shape, same_cell_shape, shapes_of, cell_name, HasCells}
use Rattle.deck_calls.proofs.CellCalls.{calls_of, IsCalled, is_cell, calls_expand, calls_over, calls_shallow, groups_called}
use Rattle.deck_calls.proofs.CellSubckts.{cell_subckt, cells_expand, cells_sized}
use Rattle.deck.proofs.Counts.{size_counts}
use Rattle.spice_text.proofs.Groups.{groups_all, groups_count, groups_short, rises_far}
use Rattle.deck_calls.proofs.NumberedShapes.{numbered_back, numbers_few, numbers_fall, cells_over, IsCellShape}
use Rattle.subckt_expand.proofs.MoreClosed.{all_index}
use Rattle.spice_text.proofs.Shapes.{all_inserted, all_stand, shape_own}

-- the groups of a circuit, and their shapes
abbrev pub groups_in : CircuitData → List ℕ → List (List Device)
groups_in c places = groups_from 0 places c.devices

abbrev pub shapes_in : CircuitData → List ℕ → List (List Device)
shapes_in c places = shapes_of c.nets (groups_in c places)

-- the subcircuit of the circuit itself: a call for each group
abbrev pub main_subckt : CircuitData → List ℕ → Subckt
main_subckt c places = record { name = c.name; ports = take c.ports c.nets; parts = calls_of c.nets (shapes_in c places) 0 (groups_in c places) }

-- the subcircuits above it, the nearest first
abbrev pub cells_above : CircuitData → List ℕ → List Subckt
cells_above c places = map cell_subckt (numbered_back (shapes_in c places))

pub key_length : {X : Type 0} (eq : X → X → Bool) (ks : List X) (x : X) → length (insert_key eq ks x) ≤ length ks + 1
key_length {X} eq ks x = by (list_any (eq x) ks)
  where
    by : (b : Bool) → length (if b then ks else ks ++ x ∷ []) ≤ length ks + 1
    by true = omega arith
    by false = omega (arith, length-append ks (x ∷ []))

inserted_length : {X : Type 0} (eq : X → X → Bool) (ks xs : List X) → length (insert_all eq ks xs) ≤ length ks + length xs
inserted_length eq ks [] = omega arith
inserted_length eq ks (x ∷ xs) = omega (arith, inserted_length eq (insert_key eq ks x) xs, key_length eq ks x)

pub all_numbered : {X : Type 0} (P : X → Type 0) (k : ℕ) (xs : List X) → AllByRecursion P xs → AllByRecursion (λ (p : ℕ × X). P p.1) (enumerate_from k xs)
all_numbered P k [] h = tt
all_numbered P k (x ∷ xs) h = (h.0, all_numbered P (k + 1) xs h.1)

shape_is : (nets : List (List ℕ)) (groups : List (List Device)) → AllByRecursion (λ (group : List Device). length group ≤ most_devices) groups
    → AllByRecursion (λ group. length (group_cell nets group).nets ≤ most_ports) groups → AllByRecursion IsCellShape (map (group_shape nets) groups)
shape_is nets [] few ports = tt
shape_is nets (group ∷ groups) few ports =
    let cell = is_cell nets group few.0 in
    (record { few_devices = omega (arith, cell.as_long, few.0); few_nets = omega (arith, cell.count, ports.0) }, shape_is nets groups few.1 ports.1)

-- what is known of the groups and shapes of a circuit
pub record AreCells (c : CircuitData) (places : List ℕ) : Type 0 where
  pub all : flat_map (λ group. group) (groups_in c places) ≡ c.devices
  pub few_groups : length (groups_in c places) ≤ most_devices
  pub few_shapes : length (shapes_in c places) < 2 ^ 64
  pub called : AllByRecursion (IsCalled c.nets (shapes_in c places)) (groups_in c places)
  pub shapes_are : AllByRecursion (λ (p : ℕ × List Device). IsCellShape p.1) (numbered_back (shapes_in c places))
  pub low : AllByRecursion (AllByRecursion (IsInRange (length c.nets))) (groups_in c places)

pub are_cells : (c : CircuitData) (places : List ℕ) → IsCircuit c.ports c.nets c.devices → HasCells c places → AreCells c places
are_cells c places is has =
    let groups = groups_in c places in
    let shapes = shapes_in c places in
    let all : flat_map (λ group. group) groups ≡ c.devices = groups_all 0 places (length c.devices) c.devices has.rises (omega arith) in
    let count : length groups ≤ most_devices = omega (arith, groups_count 0 places c.devices, rises_far 0 places (length c.devices) has.rises, is.few_devices) in
    let short : AllByRecursion (λ (group : List Device). length group ≤ most_devices) groups
    = AllByRecursion-weaker (λ (group : List Device). length group ≤ length c.devices) (λ (group : List Device). length group ≤ most_devices) (λ group le. omega (arith, is.few_devices)) groups (groups_short 0 places c.devices) in
    let ports : AllByRecursion (λ group. length (group_cell c.nets group).nets ≤ most_ports) groups = recursion_from_All (λ group. length (group_cell c.nets group).nets ≤ most_ports) groups has.few_nets in
    let low : AllByRecursion (IsInRange (length c.nets)) c.devices = devices_in_range (length c.nets) c.ports c.devices (omega (arith, is.all_used)) in
    record {
      all = all;
      few_groups = count;
      few_shapes = omega (arith, inserted_length same_cell_shape [] (map (group_shape c.nets) groups), length-map groups (group_shape c.nets), count);
      called = groups_called c.nets shapes groups short ports (all_stand same_cell_shape shape_own [] (map (group_shape c.nets) groups));
      shapes_are = AllByRecursion-reverse (λ (p : ℕ × List Device). IsCellShape p.1) (enumerate_from 0 shapes)
          (all_numbered IsCellShape 0 shapes (all_inserted same_cell_shape IsCellShape [] (map (group_shape c.nets) groups) tt (shape_is c.nets groups short ports)));
      low = AllByRecursion-groups (IsInRange (length c.nets)) groups (subst (AllByRecursion (IsInRange (length c.nets))) (sym all) low);
    }

-- the devices that the circuit's subcircuit stands for
pub main_expands : (c : CircuitData) (places : List ℕ) → AreCells c places → (expansion (expansions (cells_above c places)) (main_subckt c places)).devices ≡ map (named_device c.nets) c.devices
main_expands c places are =
    ap (λ l. flat_map (part_devices l) (calls_of c.nets (shapes_in c places) 0 (groups_in c places))) (cells_expand (numbered_back (shapes_in c places)))
    ∙ calls_expand c.nets (shapes_in c places) 0 (groups_in c places) are.few_shapes are.called
    ∙ ap (map (named_device c.nets)) are.all

-- a name that doesn't begin with `cell-` is that of no cell
other_than_cells : (name : List ℕ) (ps : List (ℕ × List Device)) → starts_with nat_eq name (codes "cell-") ≡ false → AllByRecursion (λ (t : Subckt). t.name ≢ name) (map cell_subckt ps)
other_than_cells name [] h = tt
other_than_cells name (p ∷ ps) h =
    ((λ e. let begins : starts_with nat_eq (cell_name p.0) (codes "cell-") ≡ true = refl in let never : true ≡ false = sym begins ∙ ap (λ n. starts_with nat_eq n (codes "cell-")) e ∙ h in cc), other_than_cells name ps h)

-- the subcircuits of a circuit that is written by its cells are sound
pub are_subckts : (c : CircuitData) (places : List ℕ) → IsCircuit c.ports c.nets c.devices → HasCells c places → AreCells c places → AreSubckts (main_subckt c places ∷ cells_above c places)
are_subckts c places is has are =
    let ps = numbered_back (shapes_in c places) in
    let within : c.ports ≤ length c.nets = IsCircuit-ports c.ports c.nets c.devices is in
    let count : length (take c.ports c.nets) ≡ c.ports = length-take-le c.ports c.nets within in
    let sized = cells_sized ps in
    let devices : length (expansion (expansions (cells_above c places)) (main_subckt c places)).devices ≡ length c.devices = ap length (main_expands c places are) ∙ length-map c.devices (named_device c.nets) in
    let over : AllByRecursion (IsCallOver (sizes (cells_above c places))) (calls_of c.nets (shapes_in c places) 0 (groups_in c places))
    = subst (λ l. AllByRecursion (IsCallOver l) (calls_of c.nets (shapes_in c places) 0 (groups_in c places))) (sym sized) (calls_over c.nets (shapes_in c places) 0 (groups_in c places) are.few_shapes are.called) in
    let deep : (size (sizes (cells_above c places)) (main_subckt c places)).depth ≤ 1
    = subst (λ l. fold max 0 (map (part_depth l) (calls_of c.nets (shapes_in c places) 0 (groups_in c places))) ≤ 1) (sym sized) (calls_shallow c.nets (shapes_in c places) (groups_in c places) are.few_shapes are.called) in (
      record {
        new_name = All-from_recursion (λ (t : Subckt). t.name ≢ c.name) (cells_above c places) (other_than_cells c.name ps has.other_name);
        no_equals = All-cons HasNoEquals c.name (take c.ports c.nets) has.good.name_good has.good.ports_good;
        ports_differ = IsDistinct-take c.ports c.nets is.distinct;
        few_ports = omega (arith, count, is.few_ports);
        calls = All-from_recursion (IsCallOver (sizes (cells_above c places))) (calls_of c.nets (shapes_in c places) 0 (groups_in c places)) over;
        few_devices = omega (arith, size_counts (cells_above c places) (main_subckt c places), devices, is.few_devices);
        shallow = omega (arith, deep);
      },
      cells_over ps (numbers_few (shapes_in c places) are.few_shapes) are.shapes_are (numbers_fall 0 (shapes_in c places)),
    )

-- a property of names that those of a circuit's nets have, its devices' nets too
pub with_net-all : (P : List ℕ → Type 0) (nets : List (List ℕ)) (name : List ℕ) → AllByRecursion P nets → P name → AllByRecursion P (with_net nets name)
with_net-all P nets name h n = by (list_any (pointwise nat_eq name) nets)
  where
    by : (t : Bool) → AllByRecursion P (if t then nets else nets ++ name ∷ [])
    by true = h
    by false = AllByRecursion-append P nets (name ∷ []) h (n, tt)

with_devices-all : (P : List ℕ → Type 0) (nets : List (List ℕ)) (c : CircuitData) (group : List Device) → AllByRecursion P nets → AllByRecursion P c.nets → AllByRecursion (IsInRange (length nets)) group
    → AllByRecursion P (with_devices c (map (named_device nets) group)).nets
with_devices-all P nets c [] all h low = h
with_devices-all P nets c (d ∷ ds) all h low =
    let drain = all_index P nets d.drain [] all low.0.drain in
    let gate = all_index P nets d.gate [] all low.0.gate in
    let source = all_index P nets d.source [] all low.0.source in
    with_devices-all P nets (pushed c d.kind (net_name nets d.drain) (net_name nets d.gate) (net_name nets d.source)) ds all
    (with_net-all P _ (net_name nets d.source) (with_net-all P _ (net_name nets d.gate) (with_net-all P c.nets (net_name nets d.drain) h drain) gate) source) low.1

-- the nets that are passed to the cell of a group
pub cell_nets_all : (P : List ℕ → Type 0) (nets : List (List ℕ)) (group : List Device) → P (codes "vdd") → P (codes "vss") → AllByRecursion P nets → AllByRecursion (IsInRange (length nets)) group
    → AllByRecursion P (group_cell nets group).nets
cell_nets_all P nets group high low all in_range = with_devices-all P nets (bare_circuit [] [] supplies) group all (high, (low, tt)) in_range
