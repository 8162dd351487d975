use Rattle.std.proofs.Common.{◌≡◌, ◌++◌, ◌+◌, ◌-◌, sym, ap, ◌∙◌, arith, rules, Ok}
use Rattle.trace_tool.specs.RunData.{clock_moves, raised}
use Rattle.trace_tool.specs.SetupData.{SetupData}
use Rattle.trace_tool.proofs.MoveRuns.{halts-before, runs-after, runs-all, runs-are}
use Rattle.trace_tool.proofs.RaisedClocks.{few_moves, few_raised, raised-one, raised-through}
use Rattle.trace_tool.proofs.run.Run.raise_clocks.Goals as goal

pub returns-in_err-events : goal.returns-in_err-events
returns-in_err-events g c =
    let setup = c.args.self.now.setup in
    let clock = c.loop-clock.clock in
    let same = ap (λ (x : SetupData). clock_moves x.clocking clock) c.loop-clock.invariant.1.same_setup in
    halts-before (λ pick step count place. g.F.Fn.post pick (step, (count, tt)) place) c.args.self.now c.raise_clock.new.self
    (raised setup.clocking 0 clock ++ clock_moves c.loop-clock.self.setup.clocking clock)
    (raised setup.clocking (clock + 1) (setup.roles.clocks - (clock + 1))) (raised setup.clocking 0 setup.roles.clocks)
    c.in_err-events.field-0.0 c.from_residual.result
    (ap (λ l. (raised setup.clocking 0 clock ++ l) ++ raised setup.clocking (clock + 1) (setup.roles.clocks - (clock + 1))) same
    ∙ raised-through setup.clocking clock setup.roles.clocks (search rules)) c.from_residual.ensures.1
    (runs-after (λ pick step count place. g.F.Fn.post pick (step, (count, tt)) place) c.args.self.now c.loop-clock.self
    c.raise_clock.new.self
    (raised setup.clocking 0 clock)
    (clock_moves c.loop-clock.self.setup.clocking clock) c.loop-clock.events c.in_err-events.field-0.0 c.loop-clock.invariant
    c.in_err-events.ensures)

pub overflow_add-events : goal.overflow_add-events
overflow_add-events g c =
    omega (
      arith,
      c.loop-clock.invariant.3,
      c.in_ok-events.ensures.3,
      few_raised c.args.self.now.setup.clocking 0 c.loop-clock.clock,
      few_moves c.loop-clock.self.setup.clocking c.loop-clock.clock,
      c.roles-roles.ensures.few,
      c.loop-clock-test.true,
    )

pub loop-clock-preserved : goal.loop-clock-preserved
loop-clock-preserved g c =
    let setup = c.args.self.now.setup in
    let clock = c.loop-clock.clock in
    let same = ap (λ (x : SetupData). clock_moves x.clocking clock) c.loop-clock.invariant.1.same_setup in
    runs-all (λ pick step count place. g.F.Fn.post pick (step, (count, tt)) place) c.args.self.now c.loop-clock.self
    c.raise_clock.new.self
    (raised setup.clocking 0 clock) (clock_moves c.loop-clock.self.setup.clocking clock)
    (raised setup.clocking 0 (clock + 1)) c.loop-clock.events c.in_ok-events.field-0
    (ap (λ l. raised setup.clocking 0 clock ++ l) same ∙ sym (raised-one setup.clocking clock)) c.loop-clock.invariant
    c.in_ok-events.ensures

pub returns : goal.returns
returns g c =
    let setup = c.args.self.now.setup in
    runs-are (λ pick step count place. g.F.Fn.post pick (step, (count, tt)) place) c.args.self.now c.loop-clock.self
    (raised setup.clocking 0 c.loop-clock.clock) (raised setup.clocking 0 setup.roles.clocks) (Ok c.loop-clock.events)
    (ap (raised setup.clocking 0) (search rules)) c.loop-clock.invariant
