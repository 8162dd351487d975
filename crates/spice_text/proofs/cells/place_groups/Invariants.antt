use Rattle.std.proofs.Common.{◌≡◌, drop, length}
use Rattle.spice_text.specs.Cells.{groups_from}
use Rattle.spice_text.proofs.GroupLoops.{AreLeft, ArePlaced}
use Rattle.spice_text.proofs.cells.place_groups.Given as goal

abbrev pub invariant-groups : goal.invariant-groups
invariant-groups l = record {
  left : AreLeft (length l.names) l.start l.rest (drop l.index l.ends);
  count : l.nets.count ≡ length l.names;
  placed : ArePlaced l.names (groups_from 0 l.ends l.devices) (groups_from l.start (drop l.index l.ends) l.rest) l.index l.shapes.keys
      l.calls.items;
}
