use Rattle.std.proofs.Common.{◌≡◌, ◌<◌, ◌∙◌, IfSome, length, ap, subst, arith}
use Rattle.std.proofs.lemmas.List.{get_or_read}
use Rattle.subckt_expand.specs.declared.units.Unit.TheInside.{Inside}
use Rattle.subckt_expand.specs.Definitions.{DefinitionData}
use Rattle.subckt_expand.specs.Units.{UnitData, no_unit, unit_at}
use Rattle.subckt_expand.specs.Frames.{ExpandingData, IsExpanding, end_name, slot_name, unit_of}
use Rattle.subckt_expand.proofs.Kept.{definition_there, slot_is, slot_read, slots_there, unit_there}
use Rattle.subckt_expand.proofs.expand.Expanding.slot.Goals as goal

pub returns : goal.returns
returns c =
    let e = c.args.self.now in
    let level = c.args.level in
    let is = subst IsExpanding c.self.view_is c.self.invariant in
    let units = ap (λ (v : ExpandingData). v.units) c.self.view_is in
    let count = ap length units in
    let low : c.unit-place.result < length c.self.inside.units.now = omega (arith, unit_there e is level c.requires.level, c.unit-place.ensures, count) in
    let here : c.index-units-place.result ≡ unit_at e.units (unit_of e.main e.calls level) =
    get_or_read c.self.inside.units.now c.unit-place.result c.index-units-place.result low c.index-units-place.is no_unit ∙ (λ i. unit_at (units i) (c.unit-place.ensures i)) in
    let items = ap (λ (s : Inside). s.slots.of_net) c.here-inside.view_is ∙ ap (λ (u : UnitData). u.slots.of_net) (c.here.view_is ∙ here) in
    let there = slots_there e is level c.requires.level in
    let nets = ap (λ (d : DefinitionData). length d.nets) (definition_there e is level c.requires.level) in
    let read = slot_is e is level c.args.net c.index.result.now c.requires.level (slot_read _ _ c.args.net c.index.result.now items (omega (arith, c.requires.net, there.1, nets)) c.index.ensures) in
    subst (λ o. IfSome o (λ slot. slot_name e level slot ≡ end_name e level c.args.net)) c.in_ok-slot.was read
