use Rattle.std.proofs.Common.{rules, take_all}
use Rattle.std.proofs.hash.Loops.{each_more}
use Rattle.spice_text.specs.Shapes.{device_writes}
use Rattle.spice_text.proofs.shape.ShapeHash.hash.Goals as goal

pub loop-device-preserved : goal.loop-device-preserved
loop-device-preserved g c = search (rules, each_more g.H.Hasher.write device_writes c.args.state.now c.args.self.now)

pub returns : goal.returns
returns g c = search (rules, take_all)
