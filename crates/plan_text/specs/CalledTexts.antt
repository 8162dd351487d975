-- Devices in groups, where devices name their nets, as calls of cells: a subcircuit for each shape of a group.
use Rattle.std.specs.Prelude.{ℕ, ◌+◌, List, [], ◌∷◌, ◌++◌, codes, map}
use Rattle.std.specs.List.{enumerate_from, flat_map, position_or_len}
use Rattle.std.specs.Fmt.{decimal}
use Rattle.indexmap.specs.IndexSet.{insert_all, insert_key}
use Rattle.deck.specs.CircuitData.{CircuitData}
use Rattle.deck.specs.DeckText.{bare_circuit}
use Rattle.deck.specs.NamedDevices.{NamedDevice, with_devices}
use Rattle.deck.specs.declared.device.Device.{Device}
use Rattle.spice_text.specs.Cells.{cell_name, same_cell_shape, supplies}
use Rattle.spice_text.specs.Text.{deck_line}

-- the cell of a group without devices: its ports are the supplies
abbrev pub bare_cell : CircuitData
bare_cell = bare_circuit [] [] supplies

-- the cell of a group: its nets are the supplies and the others in order of first appearance
abbrev pub cell_of_group : List (NamedDevice (List ℕ)) → CircuitData
cell_of_group group = with_devices bare_cell group

-- the shapes of groups, each once, in the order of their first groups
abbrev pub shapes_of_groups : List (List (NamedDevice (List ℕ))) → List (List Device)
shapes_of_groups groups = insert_all same_cell_shape [] (map (λ (group : List (NamedDevice (List ℕ))). (cell_of_group group).devices) groups)

-- the call of a cell, by the number of its group, where these are the shapes
abbrev pub cell_call : ℕ → CircuitData → List (List Device) → List ℕ
cell_call index cell shapes =
    deck_line (codes "x" ++ decimal index) (cell.nets ++ cell_name (position_or_len (same_cell_shape cell.devices) shapes) ∷ [])

-- the calls of the cells of groups, the first of which has this number, where these are the shapes
abbrev pub calls_from : List (List Device) → ℕ → List (List (NamedDevice (List ℕ))) → List ℕ
calls_from shapes first groups =
    flat_map (λ (p : ℕ × List (NamedDevice (List ℕ))). cell_call p.0 (cell_of_group p.1) shapes) (enumerate_from first groups)

-- the calls of all groups
abbrev pub calls_of_groups : List (List (NamedDevice (List ℕ))) → List ℕ
calls_of_groups groups = calls_from (shapes_of_groups groups) 0 groups

-- the cell of the group that is made, and the shapes and the calls of the groups before it, which are so many
pub record GroupTextData : Type 0 where
  pub cell : CircuitData
  pub shapes : List (List Device)
  pub calls : List ℕ
  pub count : ℕ

-- no groups
abbrev pub no_groups : GroupTextData
no_groups = record { cell = bare_cell; shapes = []; calls = []; count = 0 }

-- with these devices in the group
abbrev pub with_group_devices : GroupTextData → List (NamedDevice (List ℕ)) → GroupTextData
with_group_devices g devices = record g { cell = with_devices g.cell devices }

-- where the group has ended
abbrev pub with_group_end : GroupTextData → GroupTextData
with_group_end g = record {
  cell = bare_cell;
  shapes = insert_key same_cell_shape g.shapes g.cell.devices;
  calls = g.calls ++ cell_call g.count g.cell g.shapes;
  count = g.count + 1;
}
