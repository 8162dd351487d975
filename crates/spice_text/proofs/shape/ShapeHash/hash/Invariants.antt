use Rattle.std.proofs.Common.{◌≡◌, fold, take}
use Rattle.std.specs.List.{flat_map}
use Rattle.spice_text.specs.Shapes.{device_writes}
use Rattle.spice_text.proofs.shape.ShapeHash.hash.Given as goal

abbrev pub invariant-loop-device : goal.invariant-loop-device
invariant-loop-device g l = l.state ≡ fold g.H.Hasher.write l.fn.state (flat_map device_writes (take l.device-index l.device-items))
