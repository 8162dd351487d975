use Rattle.trace_tool.proofs.CycleRuns.{cycle-halted}
use Rattle.trace_tool.proofs.TraceRuns.{if_ok-both}
use Rattle.trace_tool.proofs.run.Run.cycle.Goals as goal

pub returns-in-Err : goal.returns-in-Err
returns-in-Err g c =
    if_ok-both c.print_halt.result
    (λ settled off halted. cycle-halted (λ pick step count place. g.F.Fn.post pick (step, (count, tt)) place) c.args.self.now c.settled_cycle.new.self c.print_halt.new.self c.args.number c.args.pins.now c.in-Err.halt settled c.in-Err.ensures halted off)
    c.print_halt.ensures.settled c.print_halt.ensures.halted
