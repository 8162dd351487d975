use Rattle.std.proofs.Common.{rules, ◌≡◌, ◌∙◌, ◌-◌, length, vec_len, slice_index_or, ap, subst, arith}
use Rattle.subckt_expand.specs.Definitions.{CallData, DefinitionData}
use Rattle.subckt_expand.specs.Frames.{ExpandingData, IsExpanding, IsPortAt}
use Rattle.subckt_expand.proofs.Outwards.{call_read, called_at, outer_named, outer_net, ports_passed}
use Rattle.subckt_expand.proofs.expand.Expanding.outwards.Goals as goal

pub index-requires : goal.index-requires
index-requires c =
    let e = c.args.self.now in
    let is = subst IsExpanding c.self.view_is c.self.invariant in
    let level = c.args.level in
    let calls = ap (λ (v : ExpandingData). v.calls) c.self.view_is in
    let call = c.call.view_is ∙ call_read e is level c.requires.inside c.requires.level c.self.inside.calls.items c.index-call.result.now calls c.index-call.ensures in
    let port = subst (IsPortAt e level c.args.name.now) c.in-Some.is c.requires.port in
    let passed = ports_passed e is level c.requires.inside c.requires.level in
    let ports = ap (λ (d : DefinitionData). d.ports) (called_at e is level c.requires.inside c.requires.level) in
    let nets = ap (λ (d : CallData). length d.nets) call in
    let count : vec_len c.call.inside.nets ≡ length c.call.inside.nets.items = search rules in
    omega (arith, passed, ports, nets, count, port.1)

pub returns-in-Some : goal.returns-in-Some
returns-in-Some c =
    let e = c.args.self.now in
    let is = subst IsExpanding c.self.view_is c.self.invariant in
    let level = c.args.level in
    let calls = ap (λ (v : ExpandingData). v.calls) c.self.view_is in
    let call = c.call.view_is ∙ call_read e is level c.requires.inside c.requires.level c.self.inside.calls.items c.index-call.result.now calls c.index-call.ensures in
    let port = subst (IsPortAt e level c.args.name.now) c.in-Some.is c.requires.port in
    outer_net e is level c.requires.inside c.requires.level _ c.args.name.now c.in-Some.port c.index.result.now call port.0 port.1 c.index.ensures

pub returns-in_ok-name-in-None : goal.returns-in_ok-name-in-None
returns-in_ok-name-in-None c =
    let e = c.args.self.now in
    let is = subst IsExpanding c.self.view_is c.self.invariant in
    let level = c.args.level in
    let none = subst (IsPortAt e level c.args.name.now) c.in-None.is c.requires.port in
    let way : c.index-way.result.now ≡ slice_index_or e.ways (level - 1) c.index-way.result.now =
    c.index-way.ensures ∙ ap (λ (v : ExpandingData). slice_index_or v.ways (level - 1) c.index-way.result.now) c.self.view_is in
    outer_named e is level c.requires.inside c.requires.level c.index-way.result.now c.args.name.now _ way none c.in_ok-name-in-None.ensures
