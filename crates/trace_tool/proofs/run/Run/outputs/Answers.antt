use Rattle.std.proofs.Common.{ap, arith}
use Rattle.deck.specs.PortLayout.{first_output}
use Rattle.deck.specs.declared.role.Roles.{Roles}
use Rattle.event_sim.proofs.PowerState.{sources_within}
use Rattle.trace_tool.proofs.SetupNets.{outputs_within}
use Rattle.trace_tool.proofs.run.Run.outputs.Goals as goal

pub first_output-requires : goal.first_output-requires
first_output-requires g c =
    omega (
      arith,
      ap (λ (r : Roles). first_output r) c.roles-roles.ensures,
      c.self.invariant.whole,
      c.self.invariant.few,
      sources_within c.self.inside.setup.circuit c.self.inside.setup.roles c.self.invariant.are_roles,
    )

pub read_ports-requires-clause-within : goal.read_ports-requires-clause-within
read_ports-requires-clause-within g c =
    omega (
      arith,
      c.first_output.ensures,
      ap (λ (r : Roles). first_output r) c.roles-roles.ensures,
      ap (λ (r : Roles). r.outs) c.roles-roles.ensures,
      c.self.invariant.whole,
      outputs_within c.self.inside.setup.circuit c.self.inside.setup.roles c.self.invariant.are_roles,
    )

pub read_ports-requires-clause-few : goal.read_ports-requires-clause-few
read_ports-requires-clause-few g c =
    omega (
      arith,
      c.first_output.ensures,
      ap (λ (r : Roles). first_output r) c.roles-roles.ensures,
      ap (λ (r : Roles). r.outs) c.roles-roles.ensures,
      c.self.invariant.whole,
      c.self.invariant.few,
      outputs_within c.self.inside.setup.circuit c.self.inside.setup.roles c.self.invariant.are_roles,
    )
