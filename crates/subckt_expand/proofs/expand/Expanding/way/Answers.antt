use Rattle.std.proofs.Common.{◌≡◌, ◌<◌, ◌++◌, ◌∷◌, ◌∙◌, ◌-◌, false, refl, length, slice_index_or, ap, subst, arith}
use Rattle.subckt_expand.specs.Definitions.{CallData}
use Rattle.subckt_expand.specs.Frames.{ExpandingData, IsExpanding, unit_of}
use Rattle.subckt_expand.proofs.Kept.{undotted, unit_read}
use Rattle.subckt_expand.proofs.Outwards.{way_joined}
use Rattle.subckt_expand.proofs.expand.Expanding.way.Goals as goal

pub returns-then-as_bytes-lt-MOST_JOINED : goal.returns-then-as_bytes-lt-MOST_JOINED
returns-then-as_bytes-lt-MOST_JOINED c =
    let e = c.args.self.now in
    let is = subst IsExpanding c.self.view_is c.self.invariant in
    let level = c.depth-level.result in
    let last = c.depth-level.ensures in
    let units = ap (λ (v : ExpandingData). v.units) c.self.view_is in
    let place = c.unit-place.ensures ∙ ap (unit_of e.main e.calls) last in
    let here = c.here.view_is ∙ unit_read e is (length e.calls) (omega arith) c.self.inside.units.now c.unit-place.result c.index-units-place.result units place c.index-units-place.is in
    let none : c.here.inside.dotted ≡ false = c.if-not-here.true in
    let inside : 0 < length e.calls = omega (arith, c.if-level-gt0.true, last) in
    let way : c.index-before.result.now ≡ slice_index_or e.ways (length e.calls - 1) c.index-before.result.now =
    c.index-before.ensures ∙ (λ i. slice_index_or (c.self.view_is i).ways (last i - 1) c.index-before.result.now) in
    way_joined e is c.args.call.now c.index-before.result.now _ _ inside way (undotted e is (length e.calls) (omega arith) _ here none) refl
    (c.in_ok-name.ensures ∙ ap (λ (d : CallData). c.index-before.result.now.name ++ 46 ∷ d.name) c.call.view_is)
