use Rattle.std.proofs.Common.{◌<◌, [], arith, length, ◌∙◌}
use Rattle.std.proofs.lemmas.List.{get_or_read}
use Rattle.deck.proofs.CircuitGrowth.{Grew-then}
use Rattle.deck.proofs.NetsAt.{StandsAt-grew}
use Rattle.domino_cell.specs.HeldNames.{held_nets}
use Rattle.domino_cell.proofs.InnerPrecharges.{grown, next_precharge, room_for_next}
use Rattle.domino_cell.proofs.precharge.push_inner_precharges.Goals as goal

pub push_held-requires-clause-room : goal.push_held-requires-clause-room
push_held-requires-clause-room c =
    room_for_next c.args.circuit.now c.inners.circuit (held_nets c.args.nets.now) c.inners.number c.inners.invariant (length c.args.inner.now) (omega arith) c.requires.room

pub push_held-requires-clause-gate : goal.push_held-requires-clause-gate
push_held-requires-clause-gate c =
    StandsAt-grew c.args.circuit.now c.inners.circuit c.args.clock.number c.args.clock.name.now
    (grown c.args.circuit.now c.inners.circuit (held_nets c.args.nets.now) c.inners.number c.inners.invariant) c.requires.clock

pub push_held-requires-clause-source : goal.push_held-requires-clause-source
push_held-requires-clause-source c =
    StandsAt-grew c.args.circuit.now c.inners.circuit c.args.vdd.number c.args.vdd.name.now
    (grown c.args.circuit.now c.inners.circuit (held_nets c.args.nets.now) c.inners.number c.inners.invariant) c.requires.vdd

pub returns-in_err-push_held-clause-grew : goal.returns-in_err-push_held-clause-grew
returns-in_err-push_held-clause-grew c =
    Grew-then (grown c.args.circuit.now c.inners.circuit (held_nets c.args.nets.now) c.inners.number c.inners.invariant) c.push_held.ensures.grew

pub inners-preserved : goal.inners-preserved
inners-preserved c =
    let names = c.args.inner.now in
    let k = c.inners.number in
    let low : k < length names = omega arith in
    let read = get_or_read names k c.index-inner-number.result low c.index-inner-number.is [] in
    let named = c.named-net.ensures.name ∙ read ∙ c.requires.inner k low in
    next_precharge c.args.circuit.now c.inners.circuit (held_nets c.args.nets.now) c.inners.number c.inners.invariant c.push_held.new.circuit _ c.args.clock.name.now c.args.vdd.name.now
    named c.requires.clock_is c.requires.vdd_is c.in_ok-push_held.ensures.ok

pub returns-clause-grew : goal.returns-clause-grew
returns-clause-grew c = grown c.args.circuit.now c.inners.circuit (held_nets c.args.nets.now) c.inners.number c.inners.invariant
