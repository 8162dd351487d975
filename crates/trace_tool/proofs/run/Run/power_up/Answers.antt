use Rattle.std.proofs.Common.{◌≡◌, [], ◌∷◌, refl, ap, ◌∙◌, Ok, Err}
use Rattle.deck.specs.PortLayout.{reset_pair}
use Rattle.deck.specs.declared.role.Roles.{Roles}
use Rattle.trace_tool.specs.Moves.{close_pair, power_moves}
use Rattle.trace_tool.specs.RunData.{RunData}
use Rattle.trace_tool.proofs.MoveLists.{power_are}
use Rattle.trace_tool.proofs.MoveRuns.{halts-after, halts-before, runs-all, runs-one}
use Rattle.trace_tool.proofs.run.Run.power_up.Goals as goal

pub returns-in_err-held : goal.returns-in_err-held
returns-in_err-held g c =
    halts-before (λ pick step count place. g.F.Fn.post pick (step, (count, tt)) place) c.args.self.now c.settle.new.self
    ([] ∷ []) _ (power_moves c.args.self.now.setup.roles) c.in_err-held.field-0.0 c.from_residual.result (power_are c.args.self.now.setup.roles _ refl)
    c.from_residual.ensures.1 (runs-one (λ pick step count place. g.F.Fn.post pick (step, (count, tt)) place) c.args.self.now c.settle.new.self [] (Err c.in_err-held.field-0.0) c.in_err-held.ensures)

pub returns-in_err-released : goal.returns-in_err-released
returns-in_err-released g c =
    let port : c.reset_pair.result ≡ reset_pair c.args.self.now.setup.roles =
    c.reset_pair.ensures ∙ ap (λ (r : Roles). reset_pair r) (c.roles.ensures.roles ∙ ap (λ (r : RunData g.row.F.Denot). r.setup.roles) c.in_ok-held.ensures.2) in
    halts-after (λ pick step count place. g.F.Fn.post pick (step, (count, tt)) place) c.args.self.now c.settle.new.self c.drive.new.self
    ([] ∷ []) (close_pair c.reset_pair.result ∷ []) (power_moves c.args.self.now.setup.roles) c.in_ok-held.held c.in_err-released.field-0.0 c.from_residual-in_err-released.result
    (power_are c.args.self.now.setup.roles c.reset_pair.result port) c.from_residual-in_err-released.ensures.1
    (runs-one (λ pick step count place. g.F.Fn.post pick (step, (count, tt)) place) c.args.self.now c.settle.new.self [] (Ok c.in_ok-held.held) c.in_ok-held.ensures) c.in_err-released.ensures

pub returns : goal.returns
returns g c =
    let port : c.reset_pair.result ≡ reset_pair c.args.self.now.setup.roles =
    c.reset_pair.ensures ∙ ap (λ (r : Roles). reset_pair r) (c.roles.ensures.roles ∙ ap (λ (r : RunData g.row.F.Denot). r.setup.roles) c.in_ok-held.ensures.2) in
    runs-all (λ pick step count place. g.F.Fn.post pick (step, (count, tt)) place) c.args.self.now c.settle.new.self c.drive.new.self
    ([] ∷ []) (close_pair c.reset_pair.result ∷ []) (power_moves c.args.self.now.setup.roles) c.in_ok-held.held c.in_ok-released.released
    (power_are c.args.self.now.setup.roles c.reset_pair.result port)
    (runs-one (λ pick step count place. g.F.Fn.post pick (step, (count, tt)) place) c.args.self.now c.settle.new.self [] (Ok c.in_ok-held.held) c.in_ok-held.ensures) c.in_ok-released.ensures
