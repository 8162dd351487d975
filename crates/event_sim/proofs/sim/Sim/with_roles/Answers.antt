use Rattle.std.proofs.Common.{◌≡◌, ℕ, ◌-◌, ◌≤◌, ◌++◌, List, length, replicate, arith, rules, ap, sym, subst, ◌∙◌}
use Rattle.dom_base.specs.declared.tri.Tri.{Tri}
use Rattle.dom_base.specs.declared.tri.Tri.TheVariants.{Unknown}
use Rattle.deck.specs.CircuitData.{CircuitData}
use Rattle.deck.specs.Nets.{IsCircuit}
use Rattle.deck.specs.Roles.{AreRoles, ports_of}
use Rattle.deck.specs.PortLayout.{source_count}
use Rattle.switch_model.specs.LinksData.{LinksData, links_of}
use Rattle.switch_model.specs.Power.{source_values}
use Rattle.event_sim.proofs.StepFacts.{kept_moved, pending_moved}
use Rattle.event_sim.proofs.PowerState.{few_nets, power-length, sources_within}
use Rattle.event_sim.proofs.sim.Sim.with_roles.Goals as goal

pub power_values-requires : goal.power_values-requires
power_values-requires g c =
    let nets : c.len-nets.result ≡ length c.args.circuit.now.nets = search rules in
    omega (arith, nets, sources_within c.args.circuit.now c.args.roles c.requires)

pub pending-requires : goal.pending-requires
pending-requires g c =
    let circuit = c.args.circuit.now in
    let roles = c.args.roles in
    let within : source_count roles ≤ length circuit.nets = sources_within circuit roles c.requires in
    let nets : c.len-nets.result ≡ length circuit.nets = search rules in
    let values : c.in_ok-values.values.items ≡ source_values roles ++ replicate (c.len-nets.result - source_count roles) Unknown = c.in_ok-values.ensures in
    ap (λ (v : List Tri). length v) c.as_slice.ensures.value ∙ ap (λ (v : List Tri). length v) values ∙ power-length roles c.len-nets.result (omega (arith, within, nets)) ∙ nets
    ∙ sym (ap (λ (l : LinksData). l.nets) c.in_ok-links.ensures)

pub invariant_of-result : goal.invariant_of-result
invariant_of-result g c =
    let circuit = c.args.circuit.now in
    let roles = c.args.roles in
    let links : c.pending.new.self ≡ links_of circuit roles = c.in_ok-pending.ensures.same ∙ c.in_ok-links.ensures in
    let are : AreRoles (ports_of circuit) roles = c.requires in
    let is : IsCircuit circuit.ports circuit.nets circuit.devices = subst (λ (v : CircuitData). IsCircuit v.ports v.nets v.devices) c.circuit.view_is c.circuit.invariant in
    let within : source_count roles ≤ length circuit.nets = sources_within circuit roles are in
    let nets : c.len-nets.result ≡ length circuit.nets = search rules in
    let values : c.in_ok-values.values.items ≡ source_values roles ++ replicate (c.len-nets.result - source_count roles) Unknown = c.in_ok-values.ensures in
    let linked : c.pending.new.self.nets ≡ length circuit.nets = ap (λ (l : LinksData). l.nets) links in
    record {
      within = omega (arith, within, linked, ap (λ (l : LinksData). l.sources) links);
      whole = ap (λ (v : List Tri). length v) values ∙ power-length roles c.len-nets.result (omega (arith, within, nets)) ∙ nets ∙ sym linked;
      few = omega (arith, few_nets circuit is, linked);
      nets = c.in_ok-pending.ensures.nets ∙ ap (λ (l : LinksData). l.nets) (sym c.in_ok-pending.ensures.same);
      right = pending_moved (sym c.in_ok-pending.ensures.same) c.as_slice.ensures.value c.in_ok-pending.ensures.right;
      targets = kept_moved c.in_ok-pending.pending.targets (sym c.in_ok-pending.ensures.same) c.as_slice.ensures.value c.in_ok-pending.ensures.targets;
    }

pub returns-clause-whole : goal.returns-clause-whole
returns-clause-whole g c =
    let circuit = c.args.circuit.now in
    let roles = c.args.roles in
    let links : c.pending.new.self ≡ links_of circuit roles = c.in_ok-pending.ensures.same ∙ c.in_ok-links.ensures in
    let within : source_count roles ≤ length circuit.nets = sources_within circuit roles c.requires in
    let nets : c.len-nets.result ≡ length circuit.nets = search rules in
    let values : c.in_ok-values.values.items ≡ source_values roles ++ replicate (c.len-nets.result - source_count roles) Unknown = c.in_ok-values.ensures in
    let linked : c.pending.new.self.nets ≡ length circuit.nets = ap (λ (l : LinksData). l.nets) links in
    let whole = ap (λ (v : List Tri). length v) values ∙ power-length roles c.len-nets.result (omega (arith, within, nets)) ∙ nets in
    (whole, whole ∙ sym linked)

pub returns-clause-power : goal.returns-clause-power
returns-clause-power g c =
    let links : c.pending.new.self ≡ links_of c.args.circuit.now c.args.roles = c.in_ok-pending.ensures.same ∙ c.in_ok-links.ensures in
    let nets : c.len-nets.result ≡ length c.args.circuit.now.nets = search rules in
    let values : c.in_ok-values.values.items ≡ source_values c.args.roles ++ replicate (c.len-nets.result - source_count c.args.roles) Unknown = c.in_ok-values.ensures in
    let all = values ∙ ap (λ (n : ℕ). source_values c.args.roles ++ replicate (n - source_count c.args.roles) Unknown) nets in
    (λ i. record { pick = c.args.chooser.pick; links = links i; values = all i; step = 0 })

pub returns-clause-few : goal.returns-clause-few
returns-clause-few g c =
    let circuit = c.args.circuit.now in
    let is : IsCircuit circuit.ports circuit.nets circuit.devices = subst (λ (v : CircuitData). IsCircuit v.ports v.nets v.devices) c.circuit.view_is c.circuit.invariant in
    omega (arith, few_nets circuit is, (returns-clause-whole g c).0)
