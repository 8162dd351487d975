use Rattle.trace_tool.proofs.TraceRuns.{traced-halted, traced-through}
use Rattle.trace_tool.proofs.cycles.traced.Goals as goal

pub returns-in_ok-settled : goal.returns-in_ok-settled
returns-in_ok-settled g c = λ order follows.
    traced-through (λ pick step count place. g.F.Fn.post pick (step, (count, tt)) place) order c.args.chooser.pick c.args.setup c.in_ok-run.run' c.power.new.self c.cycles.new.self c.args.cycles.now
    c.in_ok-power.field-0 c.in_ok-settled.settled c.trace.result follows c.in_ok-run.ensures.power c.in_ok-run.ensures.few
    c.in_ok-power.ensures c.if-branch.true c.in_ok-settled.ensures c.trace.ensures

pub returns-else-branch : goal.returns-else-branch
returns-else-branch g c = λ order follows.
    traced-halted (λ pick step count place. g.F.Fn.post pick (step, (count, tt)) place) order c.args.chooser.pick c.args.setup c.in_ok-run.run' c.power.new.self c.args.cycles.now
    c.in_ok-power.field-0 c.trace-else-branch.result follows c.in_ok-run.ensures.power c.in_ok-run.ensures.few
    c.in_ok-power.ensures c.if-branch.false c.trace-else-branch.ensures
