use Rattle.std.proofs.Common.{◌≡◌, map, take}
use Rattle.spice_read.specs.FlatSubckts.{own_part}
use Rattle.spice_read.proofs.subckt.flat_definition.Given as goal

abbrev pub invariant-loop-device : goal.invariant-loop-device
invariant-loop-device l = l.parts.items ≡ map own_part (take l.device-index l.device-items)
