use Rattle.std.proofs.Common.{◌≡◌, ℕ, ◌+◌, Some, slice_get, slice_index_or, ap, subst, sym, ◌∙◌, arith}
use Rattle.dom_base.specs.declared.tri.Tri.TheVariants.{Unknown}
use Rattle.deck.specs.PortLayout.{first_output}
use Rattle.deck.specs.declared.role.Roles.{Roles}
use Rattle.event_sim.proofs.PowerState.{sources_within}
use Rattle.trace_tool.specs.RunData.{RunData}
use Rattle.trace_tool.specs.Traces.{outputs}
use Rattle.trace_tool.proofs.OutputPorts.{value_at_output}
use Rattle.trace_tool.proofs.SetupNets.{outputs_within}
use Rattle.trace_tool.proofs.run.Run.output.Goals as goal

pub first_output-requires : goal.first_output-requires
first_output-requires g c =
    omega (
      arith,
      ap (λ (r : Roles). first_output r) c.roles-roles.ensures,
      c.self.invariant.whole,
      c.self.invariant.few,
      sources_within c.self.inside.setup.circuit c.self.inside.setup.roles c.self.invariant.are_roles,
    )

pub overflow_cast-index : goal.overflow_cast-index
overflow_cast-index g c =
    omega (
      arith,
      c.requires,
      ap (λ (r : RunData g.row.F.Denot). r.setup.roles.outs) c.self.view_is,
      c.self.invariant.whole,
      c.self.invariant.few,
      outputs_within c.self.inside.setup.circuit c.self.inside.setup.roles c.self.invariant.are_roles,
    )

pub overflow_add-first_output : goal.overflow_add-first_output
overflow_add-first_output g c =
    omega (
      arith,
      c.requires,
      ap (λ (r : RunData g.row.F.Denot). r.setup.roles.outs) c.self.view_is,
      c.first_output.ensures,
      ap (λ (r : Roles). first_output r) c.roles-roles.ensures,
      c.self.invariant.whole,
      c.self.invariant.few,
      outputs_within c.self.inside.setup.circuit c.self.inside.setup.roles c.self.invariant.are_roles,
    )

pub value-requires : goal.value-requires
value-requires g c =
    omega (
      arith,
      c.requires,
      ap (λ (r : RunData g.row.F.Denot). r.setup.roles.outs) c.self.view_is,
      c.first_output.ensures,
      ap (λ (r : Roles). first_output r) c.roles-roles.ensures,
      c.self.invariant.whole,
      outputs_within c.self.inside.setup.circuit c.self.inside.setup.roles c.self.invariant.are_roles,
    )

pub returns : goal.returns
returns g c =
    let values = c.self.inside.sim.values in
    let roles = c.self.inside.setup.roles in
    let first : c.first_output.result ≡ first_output roles = c.first_output.ensures ∙ ap (λ (r : Roles). first_output r) c.roles-roles.ensures in
    subst (λ (r : RunData g.row.F.Denot). slice_get (outputs r.setup.roles r.state.values) c.args.index ≡ Some c.value.result) c.self.view_is
    (value_at_output values (first_output roles) roles.outs c.args.index
    (omega (arith, c.requires, ap (λ (r : RunData g.row.F.Denot). r.setup.roles.outs) c.self.view_is))
    (omega (arith, c.self.invariant.whole, outputs_within c.self.inside.setup.circuit roles c.self.invariant.are_roles))
    ∙ ap Some (ap (λ (n : ℕ). slice_index_or values (n + c.args.index) Unknown) (sym first) ∙ sym c.value.ensures))
