use Rattle.std.proofs.Common.{ℕ, Bool, subst, arith}
use Rattle.trace_tool.specs.RunData.{StepsOnce}
use Rattle.trace_tool.proofs.SettlingRuns.{run-more, settles-rest, settles-unrest}
use Rattle.dom_base.proofs.Bools.{never}
use Rattle.trace_tool.proofs.run.Run.settle.Goals as goal

pub events-preserved : goal.events-preserved
events-preserved g c =
    record {
      run = run-more (λ pick step count place. g.F.Fn.post pick (step, (count, tt)) place) c.args.self.now c.events.self c.step.new.self c.events.count c.events.invariant.run
          (subst (λ (b : Bool). StepsOnce (λ (pick : g.row.F.Denot) (step count place : ℕ). g.F.Fn.post pick (step, (count, tt)) place) c.events.self b c.step.new.self) c.if-branch.true c.in_ok-step.ensures);
      within = omega (arith, c.events-test.true);
    }

pub returns-else-branch : goal.returns-else-branch
returns-else-branch g c =
    let rests = subst (λ (b : Bool). StepsOnce (λ (pick : g.row.F.Denot) (step count place : ℕ). g.F.Fn.post pick (step, (count, tt)) place) c.events.self b c.step.new.self) c.if-branch.false c.in_ok-step.ensures in
    settles-rest (λ pick step count place. g.F.Fn.post pick (step, (count, tt)) place) c.args.self.now c.events.self c.step.new.self c.events.count c.most_events-most.result c.events.invariant.run
    c.most_events-most.ensures.most c.most_events-most.ensures.few c.events.invariant.within rests.0 rests.1

pub returns-then-at_rest : goal.returns-then-at_rest
returns-then-at_rest g c =
    settles-rest (λ pick step count place. g.F.Fn.post pick (step, (count, tt)) place) c.args.self.now c.events.self c.at_rest.new.self c.events.count c.most_events-most.result c.events.invariant.run
    c.most_events-most.ensures.most c.most_events-most.ensures.few c.events.invariant.within (c.at_rest.ensures.rest.0 c.if-at_rest.true) c.at_rest.ensures.same

pub returns-else-at_rest : goal.returns-else-at_rest
returns-else-at_rest g c =
    settles-unrest (λ pick step count place. g.F.Fn.post pick (step, (count, tt)) place) c.args.self.now c.events.self c.at_rest.new.self c.events.count c.most_events-most.result c.events.invariant.run
    c.most_events-most.ensures.most (omega (arith, c.events.invariant.within, c.events-test.false))
    (λ rest. never (c.at_rest.ensures.rest.1 rest) c.if-at_rest.false) c.at_rest.ensures.same
