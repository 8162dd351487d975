use Rattle.std.proofs.Common.{◌≡◌, subst, length}
use Rattle.trace_tool.specs.RunData.{RunData}
use Rattle.trace_tool.specs.Traces.{outputs}
use Rattle.trace_tool.proofs.PortCounts.{outputs_count}
use Rattle.trace_tool.proofs.run.Run.output_count.Goals as goal

pub returns-clause-values : goal.returns-clause-values
returns-clause-values g c =
    subst (λ (r : RunData g.row.F.Denot). length (outputs r.setup.roles r.state.values) ≡ r.setup.roles.outs) c.self.view_is
    (outputs_count c.self.inside.setup.circuit c.self.inside.setup.roles c.self.inside.sim.values c.self.invariant.are_roles c.self.invariant.whole)
