use Rattle.std.proofs.Common.{◌≡◌, ◌++◌, take}
use Rattle.std.specs.List.{enumerate_from, flat_map}
use Rattle.spice_text.specs.Cells.{cell_lines}
use Rattle.spice_text.specs.GroupNets.{ArePorts}
use Rattle.spice_text.proofs.cells.put_shapes.Given as goal

abbrev pub invariant-loop-number : goal.invariant-loop-number
invariant-loop-number l = record {
  ports : ArePorts l.ports.items;
  text : l.text.items ≡ l.fn.text.items ++ flat_map cell_lines (enumerate_from 0 (take l.number l.shapes.keys));
}
