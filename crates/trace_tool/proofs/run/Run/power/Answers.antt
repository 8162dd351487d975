use Rattle.trace_tool.proofs.CycleRuns.{power-halted, power-settled}
use Rattle.trace_tool.proofs.TraceRuns.{if_ok-both}
use Rattle.trace_tool.proofs.run.Run.power.Goals as goal

pub returns-in_ok-print_power-in-Ok : goal.returns-in_ok-print_power-in-Ok
returns-in_ok-print_power-in-Ok g c =
    power-settled (λ pick step count place. g.F.Fn.post pick (step, (count, tt)) place) c.args.self.now c.power_up.new.self c.print_power.new.self c.in-Ok.events c.in-Ok.ensures c.in_ok-print_power-in-Ok.ensures

pub returns-in-Err : goal.returns-in-Err
returns-in-Err g c =
    if_ok-both c.print_halt.result
    (λ settled off halted. power-halted (λ pick step count place. g.F.Fn.post pick (step, (count, tt)) place) c.args.self.now c.power_up.new.self c.print_halt.new.self c.in-Err.halt settled c.in-Err.ensures halted off)
    c.print_halt.ensures.settled c.print_halt.ensures.halted
