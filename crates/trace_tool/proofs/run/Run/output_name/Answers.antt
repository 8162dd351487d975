use Rattle.std.proofs.Common.{◌≡◌, ℕ, ◌+◌, [], Some, drop, slice_get, slice_index_or, ap, subst, ◌∙◌, arith}
use Rattle.dom_base.proofs.Options.{if_ok-weaker}
use Rattle.deck.specs.PortLayout.{first_output}
use Rattle.deck.specs.Roles.{ports_of}
use Rattle.deck.specs.declared.role.Roles.{Roles}
use Rattle.event_sim.proofs.PowerState.{sources_within}
use Rattle.trace_tool.specs.RunData.{RunData}
use Rattle.trace_tool.proofs.OutputPorts.{name_at_output}
use Rattle.trace_tool.proofs.PortCounts.{ports_count}
use Rattle.trace_tool.proofs.SetupNets.{outputs_within}
use Rattle.trace_tool.proofs.run.Run.output_name.Goals as goal

pub first_output-requires : goal.first_output-requires
first_output-requires g c =
    omega (
      arith,
      ap (λ (r : Roles). first_output r) c.roles-roles.ensures,
      c.self.invariant.whole,
      c.self.invariant.few,
      sources_within c.self.inside.setup.circuit c.self.inside.setup.roles c.self.invariant.are_roles,
    )

pub overflow_add-net : goal.overflow_add-net
overflow_add-net g c =
    omega (
      arith,
      c.requires,
      ap (λ (r : RunData g.row.F.Denot). r.setup.roles.outs) c.self.view_is,
      c.first_output.ensures,
      ap (λ (r : Roles). first_output r) c.roles-roles.ensures,
      c.self.invariant.whole,
      c.self.invariant.few,
      outputs_within c.self.inside.setup.circuit c.self.inside.setup.roles c.self.invariant.are_roles,
    )

pub net_name-requires : goal.net_name-requires
net_name-requires g c =
    omega (
      arith,
      c.requires,
      ap (λ (r : RunData g.row.F.Denot). r.setup.roles.outs) c.self.view_is,
      c.first_output.ensures,
      ap (λ (r : Roles). first_output r) c.roles-roles.ensures,
      outputs_within c.self.inside.setup.circuit c.self.inside.setup.roles c.self.invariant.are_roles,
    )

pub returns : goal.returns
returns g c =
    let nets = c.self.inside.setup.circuit.nets in
    let ports = c.self.inside.setup.circuit.ports in
    let roles = c.self.inside.setup.roles in
    let first : c.first_output.result ≡ first_output roles = c.first_output.ensures ∙ ap (λ (r : Roles). first_output r) c.roles-roles.ensures in
    if_ok-weaker c.copied.result
    (λ copy same.
    subst (λ (r : RunData g.row.F.Denot). slice_get (drop (first_output r.setup.roles) (ports_of r.setup.circuit)) c.args.index ≡ Some copy) c.self.view_is
    (name_at_output nets ports (first_output roles) c.args.index copy
    (omega (arith, c.requires, ap (λ (r : RunData g.row.F.Denot). r.setup.roles.outs) c.self.view_is, ports_count c.self.inside.setup.circuit roles c.self.invariant.are_roles))
    (same ∙ c.net_name.ensures ∙ ap (λ (n : ℕ). slice_index_or nets (n + c.args.index) []) first)))
    c.copied.ensures
