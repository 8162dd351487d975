use Rattle.std.proofs.Common.{sym, ap, ◌∙◌}
use Rattle.switch_model.specs.LinksData.{links_of}
use Rattle.event_sim.proofs.StepFacts.{resting_moved}
use Rattle.trace_tool.specs.RunData.{RunData}
use Rattle.trace_tool.proofs.run.Run.at_rest.Goals as goal

pub returns-clause-rest : goal.returns-clause-rest
returns-clause-rest g c =
    let links = c.self.invariant.links_are ∙ ap (λ (r : RunData g.row.F.Denot). links_of r.setup.circuit r.setup.roles) c.self.view_is in
    let values = ap (λ (r : RunData g.row.F.Denot). r.state.values) c.self.view_is in (
      λ yes. resting_moved links values (c.at_rest.ensures.rest.0 yes),
      λ rest. c.at_rest.ensures.rest.1 (resting_moved (sym links) (sym values) rest),
    )
