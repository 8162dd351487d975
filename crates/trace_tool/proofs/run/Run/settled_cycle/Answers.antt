use Rattle.std.proofs.Common.{◌≡◌, ◌+◌, Some, arith, rules}
use Rattle.trace_tool.specs.Traces.{outputs}
use Rattle.trace_tool.proofs.CycleRuns.{cycle-read, cycle-settled, cycle-unread, ended-by}
use Rattle.trace_tool.proofs.run.Run.settled_cycle.Goals as goal

pub returns-in_err-evaluated : goal.returns-in_err-evaluated
returns-in_err-evaluated g c =
    ended-by (λ pick step count place. g.F.Fn.post pick (step, (count, tt)) place) c.args.self.now c.evaluate.new.self c.args.number c.args.pins.now c.in_err-evaluated.field-0.0 c.from_residual.result c.from_residual.ensures.1
    (cycle-unread (λ pick step count place. g.F.Fn.post pick (step, (count, tt)) place) c.args.self.now c.evaluate.new.self c.args.pins.now c.in_err-evaluated.field-0.0
    c.in_err-evaluated.ensures.runs)

pub returns-in_err-latched : goal.returns-in_err-latched
returns-in_err-latched g c =
    ended-by (λ pick step count place. g.F.Fn.post pick (step, (count, tt)) place) c.args.self.now c.latch.new.self c.args.number c.args.pins.now c.in_err-latched.field-0.0 c.from_residual-in_err-latched.result c.from_residual-in_err-latched.ensures.1
    (cycle-read (λ pick step count place. g.F.Fn.post pick (step, (count, tt)) place) c.args.self.now c.evaluate.new.self c.latch.new.self c.args.pins.now c.in_ok-evaluated.evaluated c.in_err-latched.field-0.0
    c.in_ok-evaluated.ensures.runs c.in_err-latched.ensures)

pub overflow_add-row : goal.overflow_add-row
overflow_add-row g c = omega (arith, c.in_ok-evaluated.ensures.few, c.in_ok-latched.ensures.3)

pub returns : goal.returns
returns g c =
    let cloned : c.in_ok-to_vec.field-0.items ≡ c.args.pins.now = search rules in
    let outs : c.in_ok-outs.outs.items ≡ outputs c.evaluate.new.self.setup.roles c.evaluate.new.self.state.values = c.in_ok-outs.ensures in
    cycle-settled (λ pick step count place. g.F.Fn.post pick (step, (count, tt)) place) c.args.self.now c.evaluate.new.self c.latch.new.self c.print_cycle.new.self c.args.number c.args.pins.now _ c.in_ok-evaluated.evaluated c.in_ok-latched.latched
    c.in_ok-evaluated.ensures.runs
    c.in_ok-latched.ensures c.in_ok-print_cycle.ensures
    (λ i. record {
      cycle = c.args.number;
      pins = cloned i;
      outs = outs i;
      events = Some (c.in_ok-evaluated.evaluated + c.in_ok-latched.latched);
    })
