use Rattle.std.proofs.Common.{arith}
use Rattle.dom_base.proofs.Lists.{drop_next}
use Rattle.trace_tool.proofs.TraceRuns.{cycles-halted, cycles-settled, drop_none, prefix-more}
use Rattle.trace_tool.proofs.run.Run.cycles.Goals as goal

pub cycles-preserved : goal.cycles-preserved
cycles-preserved g c = record {
  prefix = prefix-more (λ pick step count place. g.F.Fn.post pick (step, (count, tt)) place) c.args.self.now c.cycles.self c.cycle.new.self c.args.cycles.now c.cycles.number c.cycle-pins.result.now c.in_ok-cycle.field-0
      c.cycles.invariant.prefix (drop_next c.args.cycles.now c.cycles.number c.cycle-pins.result.now c.cycle-pins.ensures) c.in_ok-cycle.ensures c.if-branch.true;
  within = omega (arith, c.cycles-test.true);
}

pub returns-else-branch : goal.returns-else-branch
returns-else-branch g c =
    cycles-halted (λ pick step count place. g.F.Fn.post pick (step, (count, tt)) place) c.args.self.now c.cycles.self c.cycle.new.self c.args.cycles.now c.cycles.number c.cycle-pins.result.now c.in_ok-cycle.field-0
    c.cycles.invariant.prefix (drop_next c.args.cycles.now c.cycles.number c.cycle-pins.result.now c.cycle-pins.ensures) c.in_ok-cycle.ensures c.if-branch.false

pub returns : goal.returns
returns g c =
    cycles-settled (λ pick step count place. g.F.Fn.post pick (step, (count, tt)) place) c.args.self.now c.cycles.self c.args.cycles.now c.cycles.number
    c.cycles.invariant.prefix (drop_none c.cycles.number c.args.cycles.now (omega (arith, c.cycles-test.false)))
