use Rattle.std.proofs.Common.{refl, ap, ◌∙◌}
use Rattle.switch_model.specs.LinksData.{links_of}
use Rattle.event_sim.specs.SimData.{SimData}
use Rattle.event_sim.proofs.StepFacts.{resting_moved}
use Rattle.trace_tool.specs.RunData.{RunData}
use Rattle.trace_tool.proofs.run.Run.step.Goals as goal

pub returns-in-None : goal.returns-in-None
returns-in-None g c =
    let links = c.self.invariant.links_are ∙ ap (λ (r : RunData g.row.F.Denot). links_of r.setup.circuit r.setup.roles) c.self.view_is in
    let values = ap (λ (r : RunData g.row.F.Denot). r.state.values) c.self.view_is in
    let view : SimData g.row.F.Denot → RunData g.row.F.Denot =
    λ x. record { setup = c.self.inside.setup; pick = x.pick; state = record { values = x.values; step = x.step }; text = c.self.inside.text.items } in (
      resting_moved links values (c.in-None.ensures.rest.0 refl),
      ap view (c.in-None.ensures.stays refl) ∙ c.self.view_is,
    )
