use Rattle.std.proofs.Common.{Option, subst, arith}
use Rattle.dom_base.proofs.Lists.{drop_next}
use Rattle.trace_tool.specs.Comparisons.{ComparesCycle}
use Rattle.trace_tool.specs.declared.verdict.Verdict.{Verdict}
use Rattle.trace_tool.proofs.ComparedRuns.{compared_decided, compared_more}
use Rattle.trace_tool.proofs.run.Run.compare_cycles.Goals as goal

pub returns-in-Some : goal.returns-in-Some
returns-in-Some g c =
    let split = drop_next c.args.cycles.now c.cycles.number c.cycle-pins.result.now c.cycle-pins.ensures in
    compared_decided (λ pick step count place. g.F.Fn.post pick (step, (count, tt)) place) c.args.self.now c.cycles.self c.compare_cycle.new.self c.args.runner.now c.cycles.runner c.compare_cycle.new.runner
    c.args.cycles.now c.cycles.number c.cycle-pins.result.now c.in-Some.verdict c.cycles.invariant.compared split
    (subst
    (λ (v : Option Verdict). ComparesCycle (λ (pick : g.row.F.Denot) step count place. g.F.Fn.post pick (step, (count, tt)) place) c.cycles.number c.cycle-pins.result.now c.cycles.self c.cycles.runner v
    c.compare_cycle.new.self c.compare_cycle.new.runner)
    c.in-Some.is c.in_ok-verdict.ensures)

pub cycles-preserved : goal.cycles-preserved
cycles-preserved g c =
    let split = drop_next c.args.cycles.now c.cycles.number c.cycle-pins.result.now c.cycle-pins.ensures in
    record {
      compared = compared_more (λ pick step count place. g.F.Fn.post pick (step, (count, tt)) place) c.args.self.now c.cycles.self c.compare_cycle.new.self c.args.runner.now c.cycles.runner c.compare_cycle.new.runner
          c.args.cycles.now c.cycles.number c.cycle-pins.result.now c.cycles.invariant.compared split
          (subst
          (λ (v : Option Verdict). ComparesCycle (λ (pick : g.row.F.Denot) step count place. g.F.Fn.post pick (step, (count, tt)) place) c.cycles.number c.cycle-pins.result.now c.cycles.self c.cycles.runner v
          c.compare_cycle.new.self c.compare_cycle.new.runner)
          c.in_default.is c.in_ok-verdict.ensures);
      within = omega (arith, c.cycles-test.true);
    }
