use Rattle.std.proofs.Common.{Ok}
use Rattle.trace_tool.specs.RunData.{Runs, raised}
use Rattle.trace_tool.proofs.run.Run.raise_clocks.Given as goal

abbrev pub invariant-loop-clock : goal.invariant-loop-clock
invariant-loop-clock g l = Runs (λ pick step count place. g.F.Fn.post pick (step, (count, tt)) place)
    (raised l.fn.self.setup.clocking 0 l.clock) l.fn.self (Ok l.events) l.self
