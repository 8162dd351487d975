-- The calls of the cells of a circuit: they stand for the circuit's devices.
use Rattle.std.proofs.Common.{◌≡◌, ℕ, ◌<◌, ◌≤◌, ◌+◌, ◌^◌, max, true, nat_eq, List, [], ◌∷◌, ◌++◌, map, length, find, fold, Some, slice_get, IsSomeAnd, codes, refl, ap, sym, ◌∙◌, subst, arith}
use Rattle.std.specs.List.{AllByRecursion, IsDistinct, flat_map, enumerate_from, list_any}
use Rattle.std.specs.Cmp.Lexicographic.{pointwise}
use Rattle.std.specs.Fmt.{decimal}
use Rattle.std.proofs.lemmas.List.{length-map, map-append}
use Rattle.deck.specs.declared.device.Device.{Device}
use Rattle.deck.specs.DeckText.{bare_circuit, IsCallOver}
use Rattle.deck.specs.Limits.{most_devices, most_ports}
use Rattle.deck.specs.NamedDevices.{named_device, map_device}
use Rattle.deck.specs.Nets.{ends, numbers_used, IsCircuit}
use Rattle.deck.specs.NumberedDevices.{IsNumberedDevice, numbered_device}
use Rattle.deck.proofs.CircuitGrowth.{with_devices-grew, with_devices-devices, with_devices-numbered}
use Rattle.deck.proofs.DeviceNumbers.{IsCircuit-with_devices}
use Rattle.deck.specs.Subckts.{Call, SubcktPart, Called, Expansion, Size, passed_net, call_devices, part_devices, size_named, part_depth, depth_over}
use Rattle.spice_text.specs.Cells.{supplies, group_cell, group_shape, same_cell_shape, shape_number, cell_name, cell_ports}
use Rattle.deck_calls.proofs.CellNames.{ports_apart}
use Rattle.deck_calls.proofs.CellSubckts.{cell_expansion, cell_size, found_by_name}
use Rattle.deck_calls.proofs.NumberedShapes.{numbered_back, is_found_by, numbers_few, port_count}
use Rattle.std.proofs.lemmas.Option.{slice_get_within}
use Rattle.deck_calls.proofs.PassedNets.{passed_devices}
use Rattle.spice_text.proofs.Shapes.{stands_at, shape_same}

-- the call of a group's cell
abbrev pub call_of : List (List ℕ) → List (List Device) → ℕ × List Device → Call
call_of nets shapes p = record { name = codes "x" ++ decimal p.0; nets = (group_cell nets p.1).nets; unit = cell_name (shape_number nets shapes p.1) }

-- the calls of all groups
abbrev pub calls_of : List (List ℕ) → List (List Device) → ℕ → List (List Device) → List SubcktPart
calls_of nets shapes k groups = map (λ p. Called (call_of nets shapes p)) (enumerate_from k groups)

-- what is known of the cell of a group
pub record IsCell (nets : List (List ℕ)) (group : List Device) : Type 0 where
  pub count : length (group_cell nets group).nets ≡ numbers_used 2 (ends (group_shape nets group))
  pub devices : group_shape nets group ≡ map (numbered_device (group_cell nets group).nets) (map (named_device nets) group)
  pub numbered : AllByRecursion (IsNumberedDevice (group_cell nets group).nets) (map (named_device nets) group)
  pub as_long : length (group_shape nets group) ≡ length group

supplies_circuit : IsCircuit 2 supplies []
unfolding IsDistinct
supplies_circuit = record { few_ports = omega arith; few_devices = omega arith; distinct = ((refl, tt), (tt, tt)); in_order = tt; all_used = refl }

pub is_cell : (nets : List (List ℕ)) (group : List Device) → length group ≤ most_devices → IsCell nets group
is_cell nets group few =
    let bare = bare_circuit [] [] supplies in
    let named = map (named_device nets) group in
    let long : length named ≡ length group = length-map group (named_device nets) in
    let is = IsCircuit-with_devices bare named supplies_circuit (omega (arith, long)) in
    let grew = with_devices-grew bare named in
    let devices : group_shape nets group ≡ map (numbered_device (group_cell nets group).nets) named = with_devices-devices bare named in
    record {
      count = is.all_used ∙ ap (λ (n : ℕ). numbers_used n (ends (group_shape nets group))) grew.ports;
      devices = devices;
      numbered = with_devices-numbered bare named;
      as_long = ap length devices ∙ length-map named (numbered_device (group_cell nets group).nets) ∙ long;
    }

-- what is known of a group among all groups
pub record IsCalled (nets : List (List ℕ)) (shapes : List (List Device)) (group : List Device) : Type 0 where
  pub cell : IsCell nets group
  pub few_nets : numbers_used 2 (ends (group_shape nets group)) ≤ most_ports
  pub stands : slice_get shapes (shape_number nets shapes group) ≡ Some (group_shape nets group)

-- the number of a group's shape
pub number_low : (nets : List (List ℕ)) (shapes : List (List Device)) (group : List Device) → length shapes < 2 ^ 64 → IsCalled nets shapes group → shape_number nets shapes group < 2 ^ 64
number_low nets shapes group few is = omega (arith, few, slice_get_within shapes (shape_number nets shapes group) (group_shape nets group) is.stands)

-- what stands for the cell of a group is found by its name
found : {T : Type 0} (name_of : T → List ℕ) (f : ℕ × List Device → T) → ((p : ℕ × List Device) → name_of (f p) ≡ cell_name p.0)
    → (nets : List (List ℕ)) (shapes : List (List Device)) (group : List Device) → length shapes < 2 ^ 64 → IsCalled nets shapes group
    → find (λ t. pointwise nat_eq (cell_name (shape_number nets shapes group)) (name_of t)) (map f (numbered_back shapes)) ≡ Some (f (shape_number nets shapes group, group_shape nets group))
found name_of f named nets shapes group few is =
    let by = is_found_by shapes (shape_number nets shapes group) (group_shape nets group) is.stands in
    found_by_name name_of f named (shape_number nets shapes group) (group_shape nets group) (numbered_back shapes) (number_low nets shapes group few is) (numbers_few shapes few) by.one by.some

-- a call stands for its group
call_expands : (nets : List (List ℕ)) (shapes : List (List Device)) (k : ℕ) (group : List Device) → length shapes < 2 ^ 64 → IsCalled nets shapes group
    → part_devices (map cell_expansion (numbered_back shapes)) (Called (call_of nets shapes (k, group))) ≡ map (named_device nets) group
call_expands nets shapes k group few is =
    let shape = group_shape nets group in
    let inner = (group_cell nets group).nets in
    let here = found (λ (e : Expansion). e.name) cell_expansion (λ p. refl) nets shapes group few is in
    let apart : IsDistinct (pointwise nat_eq) (cell_ports shape) = ports_apart _ (omega (arith, is.few_nets)) in
    let same : length (cell_ports shape) ≡ length inner = port_count shape ∙ sym is.cell.count in
    ap (call_devices (call_of nets shapes (k, group))) here
    ∙ ap (λ l. map (map_device (passed_net (codes "x" ++ decimal k) (cell_ports shape) inner)) (map (named_device (cell_ports shape)) l)) is.cell.devices
    ∙ passed_devices (codes "x" ++ decimal k) (cell_ports shape) inner (map (named_device nets) group) apart same is.cell.numbered

-- the calls stand for all groups, one behind the other
pub calls_expand : (nets : List (List ℕ)) (shapes : List (List Device)) (k : ℕ) (groups : List (List Device)) → length shapes < 2 ^ 64 → AllByRecursion (IsCalled nets shapes) groups
    → flat_map (part_devices (map cell_expansion (numbered_back shapes))) (calls_of nets shapes k groups) ≡ map (named_device nets) (flat_map (λ group. group) groups)
calls_expand nets shapes k [] few is = refl
calls_expand nets shapes k (group ∷ groups) few is =
    let first = call_expands nets shapes k group few is.0 in
    let rest = calls_expand nets shapes (k + 1) groups few is.1 in
    ap (λ l. l ++ flat_map (part_devices (map cell_expansion (numbered_back shapes))) (calls_of nets shapes (k + 1) groups)) first
    ∙ ap (λ l. map (named_device nets) group ++ l) rest
    ∙ sym (map-append (named_device nets) group (flat_map (λ group. group) groups))

call_sized : (nets : List (List ℕ)) (shapes : List (List Device)) (group : List Device) → length shapes < 2 ^ 64 → IsCalled nets shapes group
    → size_named (cell_name (shape_number nets shapes group)) (map cell_size (numbered_back shapes)) ≡ Some (cell_size (shape_number nets shapes group, group_shape nets group))
call_sized nets shapes group few is = found (λ (s : Size). s.name) cell_size (λ p. refl) nets shapes group few is

-- each call names a cell, with as many nets as it has ports
pub calls_over : (nets : List (List ℕ)) (shapes : List (List Device)) (k : ℕ) (groups : List (List Device)) → length shapes < 2 ^ 64 → AllByRecursion (IsCalled nets shapes) groups
    → AllByRecursion (IsCallOver (map cell_size (numbered_back shapes))) (calls_of nets shapes k groups)
calls_over nets shapes k [] few is = tt
calls_over nets shapes k (group ∷ groups) few is = (
  subst (λ o. IsSomeAnd o (λ s. s.ports ≡ length (group_cell nets group).nets)) (sym (call_sized nets shapes group few is.0)) (port_count (group_shape nets group) ∙ sym is.0.cell.count),
  calls_over nets shapes (k + 1) groups few is.1,
)

-- and gives a depth of 1
calls_deep : (nets : List (List ℕ)) (shapes : List (List Device)) (k : ℕ) (groups : List (List Device)) → length shapes < 2 ^ 64 → AllByRecursion (IsCalled nets shapes) groups
    → AllByRecursion (λ part. part_depth (map cell_size (numbered_back shapes)) part ≤ 1) (calls_of nets shapes k groups)
calls_deep nets shapes k [] few is = tt
calls_deep nets shapes k (group ∷ groups) few is = (
  subst (λ o. depth_over o ≤ 1) (sym (call_sized nets shapes group few is.0)) (omega arith),
  calls_deep nets shapes (k + 1) groups few is.1,
)

fold_low : {X : Type 0} (f : X → ℕ) (n a : ℕ) (xs : List X) → a ≤ n → AllByRecursion (λ x. f x ≤ n) xs → fold max a (map f xs) ≤ n
fold_low f n a [] le h = le
fold_low f n a (x ∷ xs) le h = fold_low f n (max a (f x)) xs (omega (arith, h.0)) h.1

pub calls_shallow : (nets : List (List ℕ)) (shapes : List (List Device)) (groups : List (List Device)) → length shapes < 2 ^ 64 → AllByRecursion (IsCalled nets shapes) groups
    → fold max 0 (map (part_depth (map cell_size (numbered_back shapes))) (calls_of nets shapes 0 groups)) ≤ 1
calls_shallow nets shapes groups few is = fold_low (part_depth (map cell_size (numbered_back shapes))) 1 0 (calls_of nets shapes 0 groups) (omega arith) (calls_deep nets shapes 0 groups few is)

-- each of the groups that give the shapes is called
pub groups_called : (nets : List (List ℕ)) (shapes : List (List Device)) (groups : List (List Device))
    → AllByRecursion (λ (group : List Device). length group ≤ most_devices) groups
    → AllByRecursion (λ group. length (group_cell nets group).nets ≤ most_ports) groups
    → AllByRecursion (λ shape. list_any (same_cell_shape shape) shapes ≡ true) (map (group_shape nets) groups)
    → AllByRecursion (IsCalled nets shapes) groups
groups_called nets shapes [] few ports stand = tt
groups_called nets shapes (group ∷ groups) few ports stand =
    let cell = is_cell nets group few.0 in (
      record { cell = cell; few_nets = omega (arith, cell.count, ports.0); stands = stands_at same_cell_shape shape_same (group_shape nets group) shapes stand.0 },
      groups_called nets shapes groups few.1 ports.1 stand.1,
    )
