use Rattle.std.proofs.Common.{◌∙◌, sym, subst, []}
use Rattle.dom_base.proofs.Lists.{Contains-first}
use Rattle.switch_model.specs.LinksData.{is_first}
use Rattle.switch_model.specs.Targets.{IsTarget}
use Rattle.switch_model.proofs.Targets.{target_unique}
use Rattle.switch_model.proofs.refresh.refresh_single.Goals as goal

pub returns-clause-here : goal.returns-clause-here
returns-clause-here g c =
    let devices = c.args.wires.now in
    let free = is_first c.args.sources in
    let values = c.args.values.now in
    let net = c.args.net in
    let swept = c.single_target-target.ensures.target in (
      λ h. (c.single_target-target.result, (c.requires.closed.free net (Contains-first net []), swept, λ z. c.keep.ensures.here.0 h (sym z))),
      λ p. c.keep.ensures.here.1 (λ z. p.1.2 (sym z ∙ target_unique devices free values net _ p.0 swept p.1.1)),
    )

pub returns-clause-target : goal.returns-clause-target
returns-clause-target g c = subst (IsTarget c.args.wires.now (is_first c.args.sources) c.args.values.now c.args.net) (sym c.keep.ensures.target) c.single_target-target.ensures.target
