use Rattle.std.proofs.Common.{subst}
use Rattle.std.specs.Option.{IfSome}
use Rattle.numbered_calls.specs.BoundFormals.{HavePortMarks, HavePortTwice}
use Rattle.numbered_calls.proofs.Accepting.{accepted}
use Rattle.numbered_calls.proofs.Refusing.{bad_binding, none_of, port_twice}
use Rattle.numbered_calls.proofs.accepted_calls.calls.Goals as goal

pub order_calls-requires-clause-accepted : goal.order_calls-requires-clause-accepted
order_calls-requires-clause-accepted c =
    let d = c.args.file.now in
    let l = c.args.names.now in
    let ports = subst (λ f. IfSome f (λ marks. HavePortMarks d l 3 marks.items)) c.in-Some.is c.in_ok-marks.ensures.marks in
    accepted d l c.requires.names c.args.places.now c.requires.places c.args.units.now c.requires.units (c.in_ok-all_bound.ensures.bound c.if-not-all_bound.false) 3 c.in-Some.marks.items ports
    c.in_ok-nodes.nodes.items c.in_ok-nodes.ensures

pub returns-in_default-clause-refused : goal.returns-in_default-clause-refused
returns-in_default-clause-refused c = port_twice c.args.file.now c.args.names.now c.requires.names (none_of (HavePortTwice c.args.file.now c.args.names.now) c.in_ok-marks.field-0 c.in_default.not-Some c.in_ok-marks.ensures.twice)

pub returns-then-not-all_bound-clause-refused : goal.returns-then-not-all_bound-clause-refused
returns-then-not-all_bound-clause-refused c =
    bad_binding c.args.file.now c.args.names.now c.requires.names c.args.places.now c.requires.places c.args.units.now c.requires.units (c.in_ok-all_bound.ensures.bad c.if-not-all_bound.true)
