use Rattle.std.proofs.Common.{arith, map}
use Rattle.std.proofs.lemmas.List.{length-map}
use Rattle.std.proofs.lemmas.List.Elements.{recursion_from_All}
use Rattle.network.specs.declared.network.NetLatch.{NetLatch}
use Rattle.synth_flow.specs.MadeDecks.{IsBeforeLatch}
use Rattle.synth_flow.proofs.LatchNets.{next_latch, room_for_next, start_at}
use Rattle.synth_flow.proofs.latches.push_latches.Goals as goal

pub push_held_latch-requires-clause-nets : goal.push_held_latch-requires-clause-nets
push_held_latch-requires-clause-nets c =
    let starts = map (λ (l : NetLatch). l.init) c.args.latches.now in
    let count = length-map c.args.latches.now (λ (l : NetLatch). l.init) in
    (room_for_next c.args.circuit.now c.latches.circuit starts c.latches.j (omega (arith, count, c.requires.few)) (omega arith)
    (recursion_from_All (IsBeforeLatch 0) c.args.circuit.now.nets c.requires.nets) c.latches.invariant).0

pub push_held_latch-requires-clause-room : goal.push_held_latch-requires-clause-room
push_held_latch-requires-clause-room c =
    let starts = map (λ (l : NetLatch). l.init) c.args.latches.now in
    let count = length-map c.args.latches.now (λ (l : NetLatch). l.init) in
    let room = (room_for_next c.args.circuit.now c.latches.circuit starts c.latches.j (omega (arith, count, c.requires.few)) (omega arith)
    (recursion_from_All (IsBeforeLatch 0) c.args.circuit.now.nets c.requires.nets) c.latches.invariant).1 in
    omega (arith, room, count, c.requires.room)

pub latches-preserved : goal.latches-preserved
latches-preserved c =
    next_latch c.args.circuit.now c.latches.circuit c.push_held_latch.new.circuit (map (λ (l : NetLatch). l.init) c.args.latches.now) c.latches.j _
    (start_at c.args.latches.now _ c.latches.j (omega arith))
    c.latches.invariant c.in_ok-push_held_latch.ensures.devices
