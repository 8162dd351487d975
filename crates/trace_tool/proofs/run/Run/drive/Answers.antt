use Rattle.trace_tool.specs.Moves.{set_bits}
use Rattle.trace_tool.proofs.MoveRuns.{runs-set}
use Rattle.trace_tool.proofs.run.Run.drive.Goals as goal

pub returns : goal.returns
returns g c =
    runs-set (λ pick step count place. g.F.Fn.post pick (step, (count, tt)) place) c.args.self.now c.set.new.self c.settle.new.self
    (set_bits c.args.port c.args.bits.now) c.settle.result c.set.ensures c.settle.ensures
