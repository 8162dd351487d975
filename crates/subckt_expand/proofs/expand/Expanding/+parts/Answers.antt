use Rattle.std.proofs.Common.{◌≡◌, ◌+◌, ◌*◌, ◌∙◌, length, slice_get, slice_index_or, ap, sym, subst, arith}
use Rattle.std.proofs.lemmas.List.{get_or_read, length-map}
use Rattle.subckt_expand.specs.Definitions.{DefinitionData, no_call}
use Rattle.subckt_expand.specs.Units.{UnitData}
use Rattle.subckt_expand.specs.Frames.{ExpandingData, IsExpanding}
use Rattle.subckt_expand.proofs.Kept.{unit_there}
use Rattle.subckt_expand.proofs.MoreUnits.{definition_read}
use Rattle.subckt_expand.proofs.PartsReached.{IsPlace, IsReached, at_item, call_below, call_entered, call_next, call_room, called_there, own_next, own_room}
use Rattle.subckt_expand.proofs.expand.Expanding.+parts.Goals as goal
use Rattle.subckt_expand.proofs.expand.Expanding.+parts.Goals.{push_parts-in-Own+in_ok-push_device-in-Own, push_parts-in-Called+in_ok-push_call-in-Called}

pub push_parts-push_device-requires-clause-room : goal.push_parts-push_device-requires-clause-room
push_parts-push_device-requires-clause-room t c =
    let e = c.args.self.now in
    let unit = c.args.unit in
    let is = subst IsExpanding c.self.view_is c.self.invariant in
    let there = unit_there e is (length e.calls) (omega arith) in
    let place : IsPlace e unit = record { is = is; here = c.requires.here; there = omega (arith, there, c.requires.here, length-map e.units (λ (u : UnitData). u.definition)) } in
    let units = ap (λ (v : ExpandingData). v.units) c.self.view_is in
    let definition = c.definition.view_is ∙ ap (λ (u : UnitData). u.definition) c.here.view_is
    ∙ definition_read e.units c.self.inside.units.now unit c.index-units-unit.result units (omega (arith, there, c.requires.here)) c.index-units-unit.is in
    let parts = c.as_slice-part-items.ensures.value ∙ ap (λ (d : DefinitionData). d.parts) definition in
    let at = ap (λ l. slice_get l c.loop-part.part-index) (sym parts) ∙ at_item _ _ _ _ c.loop-part-test.true c.in-Own.is in
    own_room e unit c.loop-part.part-index c.loop-part.self c.in-Own.device at place c.loop-part.invariant c.requires.room

pub push_parts-push_call-requires : goal.push_parts-push_call-requires
push_parts-push_call-requires t c =
    let e = c.args.self.now in
    let unit = c.args.unit in
    let is = subst IsExpanding c.self.view_is c.self.invariant in
    let there = unit_there e is (length e.calls) (omega arith) in
    let place : IsPlace e unit = record { is = is; here = c.requires.here; there = omega (arith, there, c.requires.here, length-map e.units (λ (u : UnitData). u.definition)) } in
    let units = ap (λ (v : ExpandingData). v.units) c.self.view_is in
    let definition = c.definition.view_is ∙ ap (λ (u : UnitData). u.definition) c.here.view_is
    ∙ definition_read e.units c.self.inside.units.now unit c.index-units-unit.result units (omega (arith, there, c.requires.here)) c.index-units-unit.is in
    let parts = c.as_slice-part-items.ensures.value ∙ ap (λ (d : DefinitionData). d.parts) definition in
    let at = ap (λ l. slice_get l c.loop-part.part-index) (sym parts) ∙ at_item _ _ _ _ c.loop-part-test.true c.in-Called.is in
    let low = called_there e unit c.loop-part.part-index c.in-Called.index at place in
    let calls = ap (λ (d : DefinitionData). d.calls) definition in
    let call = sym (get_or_read c.definition.inside.calls.items c.in-Called.index c.index.result.now (omega (arith, low, ap length calls)) c.index.ensures no_call ∙ ap (λ l. slice_index_or l c.in-Called.index no_call) calls) in
    let less = call_below e unit c.loop-part.part-index c.loop-part.self c.in-Called.index c.index.result.now at call place c.loop-part.invariant in
    let most : 2 * unit + 1 ≡ t = c.decreases in (
      omega (arith, less, most),
      (
        call_entered e unit c.loop-part.part-index c.loop-part.self c.in-Called.index c.index.result.now at call place c.loop-part.invariant,
        call_room e unit c.loop-part.part-index c.loop-part.self c.in-Called.index c.index.result.now at call place c.loop-part.invariant c.requires.room,
      ),
    )

pub push_parts-loop-part-preserved : goal.push_parts-loop-part-preserved
push_parts-loop-part-preserved t c =
    let e = c.args.self.now in
    let unit = c.args.unit in
    let is = subst IsExpanding c.self.view_is c.self.invariant in
    let there = unit_there e is (length e.calls) (omega arith) in
    let place : IsPlace e unit = record { is = is; here = c.requires.here; there = omega (arith, there, c.requires.here, length-map e.units (λ (u : UnitData). u.definition)) } in
    let units = ap (λ (v : ExpandingData). v.units) c.self.view_is in
    let definition = c.definition.view_is ∙ ap (λ (u : UnitData). u.definition) c.here.view_is
    ∙ definition_read e.units c.self.inside.units.now unit c.index-units-unit.result units (omega (arith, there, c.requires.here)) c.index-units-unit.is in
    let parts = c.as_slice-part-items.ensures.value ∙ ap (λ (d : DefinitionData). d.parts) definition in
    elim c.match-part.branch [
      | push_parts-in-Own+in_ok-push_device-in-Own w ↦ (
          let at = ap (λ l. slice_get l c.loop-part.part-index) (sym parts) ∙ at_item _ _ _ _ c.loop-part-test.true w.in-Own.is in
          subst (IsReached e unit (c.loop-part.part-index + 1)) (sym w.self-is)
          (own_next e unit c.loop-part.part-index c.loop-part.self w.in-Own.device at place c.loop-part.invariant w.push_device.new.self w.in_ok-push_device-in-Own.ensures.place w.in_ok-push_device-in-Own.ensures.made))
      | push_parts-in-Called+in_ok-push_call-in-Called w ↦ (
          let at = ap (λ l. slice_get l c.loop-part.part-index) (sym parts) ∙ at_item _ _ _ _ c.loop-part-test.true w.in-Called.is in
          let low = called_there e unit c.loop-part.part-index w.in-Called.index at place in
          let calls = ap (λ (d : DefinitionData). d.calls) definition in
          let call = sym (get_or_read c.definition.inside.calls.items w.in-Called.index w.index.result.now (omega (arith, low, ap length calls)) w.index.ensures no_call ∙ ap (λ l. slice_index_or l w.in-Called.index no_call) calls) in
          subst (IsReached e unit (c.loop-part.part-index + 1)) (sym w.self-is)
          (call_next e unit c.loop-part.part-index c.loop-part.self w.in-Called.index w.index.result.now at call place c.loop-part.invariant w.push_call.new.self w.in_ok-push_call-in-Called.ensures.place w.in_ok-push_call-in-Called.ensures.made))
    ]
