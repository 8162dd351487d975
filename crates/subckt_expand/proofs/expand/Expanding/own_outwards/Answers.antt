use Rattle.std.proofs.Common.{◌∙◌, inl, inr, ap, subst, arith}
use Rattle.subckt_expand.specs.declared.units.Unit.TheInside.{Inside}
use Rattle.subckt_expand.specs.Definitions.{DefinitionData}
use Rattle.subckt_expand.specs.Units.{UnitData}
use Rattle.subckt_expand.specs.Frames.{ExpandingData, IsExpanding}
use Rattle.subckt_expand.proofs.Kept.{definition_here, unit_read}
use Rattle.subckt_expand.proofs.Outwards.{own_port}
use Rattle.subckt_expand.proofs.expand.Expanding.own_outwards.Goals as goal
use Rattle.subckt_expand.proofs.expand.Expanding.own_outwards.Goals.{else-net-here, then-net-here}

pub outwards-requires-clause-port : goal.outwards-requires-clause-port
outwards-requires-clause-port c =
    let e = c.args.self.now in
    let is = subst IsExpanding c.self.view_is c.self.invariant in
    let level = c.args.level in
    let units = ap (λ (v : ExpandingData). v.units) c.self.view_is in
    let read = unit_read e is level c.requires.level c.self.inside.units.now c.unit-place.result c.index-units-place.result units c.unit-place.ensures c.index-units-place.is in
    let here = ap (λ (s : Inside). s.definition) c.here-inside.view_is ∙ ap (λ (u : UnitData). u.definition) c.here.view_is ∙ definition_here e is level c.requires.level _ read in
    let nets = c.as_slice.ensures.keys ∙ ap (λ (d : DefinitionData). d.nets) here in
    let ports = ap (λ (d : DefinitionData). d.ports) here in
    own_port e is level c.requires.level c.as_slice.result.now c.args.net c.index-as_slice-net.result c.if-net-here.port nets c.index-as_slice-net.is c.requires.net (elim c.if-net-here.branch [
      | then-net-here w ↦ inl (w.port-is, omega (arith, w.if-net-here.true, ports))
      | else-net-here w ↦ inr (w.port-is, omega (arith, w.if-net-here.false, ports))
    ])
