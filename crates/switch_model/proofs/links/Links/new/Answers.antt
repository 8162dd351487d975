use Rattle.std.proofs.Common.{◌≡◌, ◌-◌, ℕ, All, List, length, ap, sym, subst, ◌∙◌, arith}
use Rattle.deck.specs.CircuitData.{CircuitData}
use Rattle.deck.specs.Nets.{IsCircuit, IsInRange}
use Rattle.deck.specs.PortLayout.{source_count}
use Rattle.deck.specs.declared.device.Device.{Device}
use Rattle.deck.proofs.DeviceNumbers.{IsCircuit-in_range}
use Rattle.deck.proofs.PortLayout.{ports-count}
use Rattle.switch_model.specs.ComponentLists.{AreComponentLists}
use Rattle.switch_model.specs.LinksData.{LinksData, is_first}
use Rattle.switch_model.specs.Sweeps.{AreRooms}
use Rattle.switch_model.proofs.Searches.{few-nets}
use Rattle.switch_model.proofs.links.Links.new.Goals as goal

abbrev made : ℕ → ℕ → List Device → LinksData
made nets sources devices = record { nets = nets; sources = sources; devices = devices }

pub overflow_sub-sources : goal.overflow_sub-sources
overflow_sub-sources c =
    let whole = subst (λ (d : CircuitData). IsCircuit d.ports d.nets d.devices) c.circuit.view_is c.circuit.invariant in
    omega (arith, ap (λ (d : CircuitData). d.ports) c.circuit.view_is, ports-count c.args.circuit.now c.args.roles whole c.requires)

pub overflow_cast-nets : goal.overflow_cast-nets
overflow_cast-nets c = omega (arith, c.len-nets.ensures.len, few-nets c.circuit.inside.ports c.circuit.inside.nets.keys c.circuit.inside.devices.items c.circuit.invariant)

pub new-requires-clause-in_range : goal.new-requires-clause-in_range
new-requires-clause-in_range c =
    let devices : c.as_slice.result.now ≡ c.circuit.inside.devices.items = c.as_slice.ensures.value in
    subst (λ (l : List Device). All (IsInRange c.len-nets.result) l) (sym devices)
    (subst (λ (n : ℕ). All (IsInRange n) c.circuit.inside.devices.items) (sym c.len-nets.ensures.len)
    (IsCircuit-in_range c.circuit.inside.ports c.circuit.inside.nets.keys c.circuit.inside.devices.items c.circuit.invariant))

pub invariant_of-result : goal.invariant_of-result
invariant_of-result c =
    let devices : c.as_slice.result.now ≡ c.circuit.inside.devices.items = c.as_slice.ensures.value in
    let wires : c.as_slice.result.now ≡ c.new-3.result = devices ∙ sym (c.new-3.ensures ∙ c.in_ok-devices.ensures.items ∙ c.as_slice-2.ensures.value) in
    let comps = c.in_ok-components.components in
    let free = is_first (c.circuit.inside.ports - c.args.roles.outs) in
    let long : c.len-nets.result ≡ length comps.nets = sym c.in_ok-components.ensures.nets_long in
    let range : All (IsInRange c.len-nets.result) c.as_slice.result.now =
    subst (λ (l : List Device). All (IsInRange c.len-nets.result) l) (sym devices)
    (subst (λ (n : ℕ). All (IsInRange n) c.circuit.inside.devices.items) (sym c.len-nets.ensures.len)
    (IsCircuit-in_range c.circuit.inside.ports c.circuit.inside.nets.keys c.circuit.inside.devices.items c.circuit.invariant)) in
    record {
      few = omega (arith, long, c.len-nets.ensures.len, few-nets c.circuit.inside.ports c.circuit.inside.nets.keys c.circuit.inside.devices.items c.circuit.invariant);
      in_range = subst (λ (l : List Device). All (IsInRange (length comps.nets)) l) wires (subst (λ (n : ℕ). All (IsInRange n) c.as_slice.result.now) long range);
      components_are = subst (λ (l : List Device). AreComponentLists l free (length comps.nets) comps) wires
          (subst (λ (n : ℕ). AreComponentLists c.as_slice.result.now free n comps) long c.in_ok-components.ensures);
      rooms_are = subst (λ (n : ℕ). AreRooms n c.in_ok-rooms.rooms) long c.in_ok-rooms.ensures;
    }

pub returns : goal.returns
returns c =
    let whole = subst (λ (d : CircuitData). IsCircuit d.ports d.nets d.devices) c.circuit.view_is c.circuit.invariant in
    let sources : c.circuit.inside.ports - c.args.roles.outs ≡ source_count c.args.roles =
    omega (arith, ap (λ (d : CircuitData). d.ports) c.circuit.view_is, ports-count c.args.circuit.now c.args.roles whole c.requires) in
    let nets : length c.in_ok-components.components.nets ≡ length c.args.circuit.now.nets =
    c.in_ok-components.ensures.nets_long ∙ c.len-nets.ensures.len ∙ ap (λ (d : CircuitData). length d.nets) c.circuit.view_is in
    let devices : c.new-3.result ≡ c.args.circuit.now.devices =
    c.new-3.ensures ∙ c.in_ok-devices.ensures.items ∙ c.as_slice-2.ensures.value ∙ ap (λ (d : CircuitData). d.devices) c.circuit.view_is in
    ap (λ (n : ℕ). made n (c.circuit.inside.ports - c.args.roles.outs) c.new-3.result) nets
    ∙ ap (λ (n : ℕ). made (length c.args.circuit.now.nets) n c.new-3.result) sources
    ∙ ap (made (length c.args.circuit.now.nets) (source_count c.args.roles)) devices
