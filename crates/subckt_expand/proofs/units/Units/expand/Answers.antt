use Rattle.std.proofs.Common.{rules, ◌≡◌, ◌<◌, ◌≤◌, ◌∙◌, length, nat_eq, refl, ap, sym, subst, arith}
use Rattle.std.specs.List.{IsDistinct}
use Rattle.std.specs.Cmp.Lexicographic.{pointwise}
use Rattle.std.proofs.lemmas.List.{length-map}
use Rattle.deck.specs.Limits.{most_devices}
use Rattle.deck.specs.Nets.{IsCircuit}
use Rattle.subckt_expand.specs.Definitions.{DefinitionData, port_names}
use Rattle.subckt_expand.specs.Units.{AreClosed, UnitData, definition_at, expansion_at}
use Rattle.subckt_expand.proofs.MoreUnits.{definition_read}
use Rattle.subckt_expand.proofs.WholeCircuit.{made_circuit, made_with, ports_of}
use Rattle.subckt_expand.proofs.units.Units.expand.Goals as goal

pub set_of-requires : goal.set_of-requires
set_of-requires c =
    let all = c.args.self.now in
    let unit = c.args.unit in
    let closed = (subst AreClosed c.self.view_is (c.self.invariant.0).closed).each unit c.requires in
    let units = c.self.inside.closed.items in
    let count = ap length c.self.view_is in
    let low : unit < length units = omega (arith, c.requires, count, length-map units (λ (u : UnitData). u.definition)) in
    let definition = ap (λ (u : UnitData). u.definition) c.last.view_is ∙ definition_read units units unit c.index-last.result.now refl low c.index-last.ensures ∙ ap (λ l. definition_at l unit) c.self.view_is in
    let names = c.port_names-names.ensures ∙ ap port_names definition in
    let ports = ports_of all unit (definition_at all unit) closed in
    subst (IsDistinct (pointwise nat_eq)) (sym names) ports.apart

pub invariant_of-result : goal.invariant_of-result
invariant_of-result c =
    let all = c.args.self.now in
    let unit = c.args.unit in
    let closed = (subst AreClosed c.self.view_is (c.self.invariant.0).closed).each unit c.requires in
    let units = c.self.inside.closed.items in
    let count = ap length c.self.view_is in
    let low : unit < length units = omega (arith, c.requires, count, length-map units (λ (u : UnitData). u.definition)) in
    let definition = ap (λ (u : UnitData). u.definition) c.last.view_is ∙ definition_read units units unit c.index-last.result.now refl low c.index-last.ensures ∙ ap (λ l. definition_at l unit) c.self.view_is in
    let names = c.port_names-names.ensures ∙ ap port_names definition in
    let ports = ports_of all unit (definition_at all unit) closed in
    let few : length (expansion_at all unit).devices ≤ most_devices = omega (arith, closed.counted, closed.few_devices) in
    subst (λ l. IsCircuit (length l) c.in_ok-nets.nets.keys c.in_ok-nets.devices.items) (sym names)
    (made_circuit (port_names (definition_at all unit)) (expansion_at all unit).devices _ _ c.in_ok-nets.ensures ports.apart ports.few few)

pub returns : goal.returns
returns c =
    let all = c.args.self.now in
    let unit = c.args.unit in
    let closed = (subst AreClosed c.self.view_is (c.self.invariant.0).closed).each unit c.requires in
    let units = c.self.inside.closed.items in
    let count = ap length c.self.view_is in
    let low : unit < length units = omega (arith, c.requires, count, length-map units (λ (u : UnitData). u.definition)) in
    let definition = ap (λ (u : UnitData). u.definition) c.last.view_is ∙ definition_read units units unit c.index-last.result.now refl low c.index-last.ensures ∙ ap (λ l. definition_at l unit) c.self.view_is in
    let names = c.port_names-names.ensures ∙ ap port_names definition in
    let ports = ports_of all unit (definition_at all unit) closed in
    let copied : c.in_ok-clone.field-0 ≡ c.definition.inside.name = search rules in
    let name = copied ∙ ap (λ (d : DefinitionData). d.name) (c.definition.view_is ∙ definition) in
    (λ i. record { name = name i; phases = c.args.phases.items; ports = length (names i); nets = c.in_ok-nets.nets.keys; devices = c.in_ok-nets.devices.items })
    ∙ made_with (definition_at all unit).name c.args.phases.items (port_names (definition_at all unit)) (expansion_at all unit).devices _ _ c.in_ok-nets.ensures
