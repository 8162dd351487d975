-- Groups that end one after another are written as all of them are.
use Rattle.std.proofs.Common.{◌≡◌, ℕ, ◌+◌, List, [], ◌∷◌, ◌++◌, length, map, refl, sym, ap, ◌∙◌, arith, append_assoc, append-nil}
use Rattle.std.specs.Prelude.{codes}
use Rattle.std.specs.Fmt.{decimal}
use Rattle.std.specs.List.{position_or_len}
use Rattle.indexmap.specs.IndexSet.{insert_all, insert_key}
use Rattle.deck.specs.CircuitData.{CircuitData}
use Rattle.deck.specs.NamedDevices.{NamedDevice}
use Rattle.deck.specs.declared.device.Device.{Device}
use Rattle.spice_text.specs.Cells.{cell_name, same_cell_shape}
use Rattle.spice_text.specs.Text.{deck_line}
use Rattle.spice_text.proofs.GroupLoops.{keeps_place}
use Rattle.spice_text.proofs.Shapes.{shape_own}
use Rattle.plan_text.specs.CalledTexts.{GroupTextData, bare_cell, calls_from, calls_of_groups, cell_call, cell_of_group, no_groups, shapes_of_groups}
use Rattle.plan_text.specs.DeviceTexts.{with_groups}
use Rattle.plan_text.specs.declared.device_text.DeviceText.{DeviceText}
use Rattle.plan_text.specs.declared.device_text.DeviceText.TheVariants.{Groups}

abbrev shape_of : List (NamedDevice (List ℕ)) → List Device
shape_of group = (cell_of_group group).devices

abbrev all_shapes : List (List Device) → List (List (NamedDevice (List ℕ))) → List (List Device)
all_shapes shapes groups = insert_all same_cell_shape shapes (map shape_of groups)

-- what groups add behind those that ended
groups_from_start : (shapes : List (List Device)) (calls : List ℕ) (count : ℕ) (groups : List (List (NamedDevice (List ℕ))))
    → with_groups (Groups (record { cell = bare_cell; shapes = shapes; calls = calls; count = count })) groups
    ≡ Groups (record { cell = bare_cell; shapes = all_shapes shapes groups; calls = calls ++ calls_from (all_shapes shapes groups) count groups; count = count + length groups })
groups_from_start shapes calls count [] =
    let none : calls ≡ calls ++ [] = sym (append-nil calls) in
    let same : count ≡ count + 0 = omega arith in
    λ i. Groups (record { cell = bare_cell; shapes = shapes; calls = none i; count = same i })
groups_from_start shapes calls count (group ∷ groups) =
    let cell = cell_of_group group in
    let next = insert_key same_cell_shape shapes cell.devices in
    let all = all_shapes next groups in
    let place : position_or_len (same_cell_shape cell.devices) all ≡ position_or_len (same_cell_shape cell.devices) shapes =
    keeps_place same_cell_shape shapes (map shape_of groups) cell.devices (shape_own cell.devices) in
    let line : cell_call count cell shapes ≡ cell_call count cell all =
    ap (λ n. deck_line (codes "x" ++ decimal count) (cell.nets ++ cell_name n ∷ [])) (sym place) in
    let rest : List ℕ = calls_from all (count + 1) groups in
    let text : (calls ++ cell_call count cell shapes) ++ rest ≡ calls ++ (cell_call count cell all ++ rest) =
    append_assoc calls (cell_call count cell shapes) rest ∙ ap (λ l. calls ++ (l ++ rest)) line in
    let total : (count + 1) + length groups ≡ count + length (group ∷ groups) = omega arith in
    groups_from_start next (calls ++ cell_call count cell shapes) (count + 1) groups
    ∙ (λ i. Groups (record { cell = bare_cell; shapes = all; calls = text i; count = total i }))

-- the text of groups
pub text_of_groups : (groups : List (List (NamedDevice (List ℕ))))
    → with_groups (Groups no_groups) groups
    ≡ Groups (record { cell = bare_cell; shapes = shapes_of_groups groups; calls = calls_of_groups groups; count = 0 + length groups })
text_of_groups groups = groups_from_start [] [] 0 groups
