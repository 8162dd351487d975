use Rattle.std.proofs.Common.{◌≡◌, All, Bool, List, length, sym, ap, subst, ◌∙◌}
use Rattle.dom_base.proofs.Options.{if_ok-weaker}
use Rattle.trace_tool.specs.Moves.{power_moves}
use Rattle.trace_tool.specs.RunData.{RunData}
use Rattle.trace_tool.specs.SetupData.{SetupData}
use Rattle.trace_tool.proofs.MoveRuns.{runs-setup}
use Rattle.trace_tool.proofs.VerdictsBy.{compared-stopped, compared-through}
use Rattle.trace_tool.proofs.comparison.compared.Goals as goal

pub compare_cycles-requires-clause-widths : goal.compare_cycles-requires-clause-widths
compare_cycles-requires-clause-widths g c =
    let setup : c.power_up.new.self.setup ≡ c.args.setup =
    runs-setup (λ pick step count place. g.F.Fn.post pick (step, (count, tt)) place) c.in_ok-run.run' c.power_up.new.self
    (power_moves c.in_ok-run.run'.setup.roles) c.in-Ok.field-0 c.in-Ok.ensures
    ∙ ap (λ (r : RunData g.row.F.Denot). r.setup) c.in_ok-run.ensures.power in
    subst (λ (s : SetupData). All (λ (pins : List Bool). length pins ≡ s.roles.pins) c.args.cycles.now) (sym setup) c.requires.widths

pub returns-in-Ok : goal.returns-in-Ok
returns-in-Ok g c =
    if_ok-weaker c.compare_cycles.result
    (λ verdict all order wanted follows run.
    compared-through (λ pick step count place. g.F.Fn.post pick (step, (count, tt)) place) order c.args.chooser.pick c.args.setup c.in_ok-run.run' c.power_up.new.self c.args.network.now c.in_ok-runner.runner
    c.args.cycles.now wanted c.in-Ok.field-0 verdict follows c.in_ok-run.ensures.power c.in_ok-run.ensures.few c.in_ok-runner.ensures.network c.in_ok-runner.ensures.start run c.in-Ok.ensures all)
    c.compare_cycles.ensures

pub returns : goal.returns
returns g c =
    if_ok-weaker c.stopped.result
    (λ verdict stopped order wanted follows run.
    compared-stopped (λ pick step count place. g.F.Fn.post pick (step, (count, tt)) place) order c.args.chooser.pick c.args.setup c.in_ok-run.run' c.power_up.new.self
    c.args.cycles.now wanted c.in-Err.halt verdict follows c.in_ok-run.ensures.power c.in_ok-run.ensures.few c.in-Err.ensures stopped)
    c.stopped.ensures
