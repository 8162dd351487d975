use Rattle.std.proofs.Common.{[], ◌∷◌, refl}
use Rattle.trace_tool.specs.Moves.{close_pair, open_pair}
use Rattle.trace_tool.proofs.MoveRuns.{halts-after, halts-before, runs-all}
use Rattle.trace_tool.proofs.run.Run.open_and_close.Goals as goal

pub returns-in_err-opened : goal.returns-in_err-opened
returns-in_err-opened g c =
    halts-before (λ pick step count place. g.F.Fn.post pick (step, (count, tt)) place) c.args.self.now c.drive.new.self
    (open_pair c.args.pair ∷ []) (close_pair c.args.pair ∷ []) _ c.in_err-opened.field-0.0 c.from_residual.result refl c.from_residual.ensures.1 c.in_err-opened.ensures

pub returns-in_err-closed : goal.returns-in_err-closed
returns-in_err-closed g c =
    halts-after (λ pick step count place. g.F.Fn.post pick (step, (count, tt)) place) c.args.self.now c.drive.new.self c.drive-2.new.self
    (open_pair c.args.pair ∷ []) (close_pair c.args.pair ∷ []) _ c.in_ok-opened.opened c.in_err-closed.field-0.0 c.from_residual-in_err-closed.result
    refl c.from_residual-in_err-closed.ensures.1 c.in_ok-opened.ensures c.in_err-closed.ensures

pub returns : goal.returns
returns g c =
    runs-all (λ pick step count place. g.F.Fn.post pick (step, (count, tt)) place) c.args.self.now c.drive.new.self c.drive-2.new.self
    (open_pair c.args.pair ∷ []) (close_pair c.args.pair ∷ []) _ c.in_ok-opened.opened c.in_ok-closed.closed refl c.in_ok-opened.ensures c.in_ok-closed.ensures
