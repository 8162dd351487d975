use Rattle.std.proofs.Common.{arith, subst, sym}
use Rattle.deck.specs.CircuitData.{CircuitData}
use Rattle.latch_bind.specs.Sinks.{HasRoomForSink}
use Rattle.synth_flow.proofs.InverterRows.{next_inverter, room_for_more, room_for_next}
use Rattle.synth_flow.proofs.LoopItems.{item_at}
use Rattle.synth_flow.proofs.inverters.push_inverters.Goals as goal

pub push_sink-requires-clause-nets : goal.push_sink-requires-clause-nets
push_sink-requires-clause-nets c =
    let out = c.index-outs-k.result in
    subst (λ (d : CircuitData). HasRoomForSink d out) (sym c.sinks.invariant)
    (room_for_next c.args.circuit.now c.args.gates.now c.args.outs.now c.sinks.k out c.requires.nets (item_at c.args.outs.now c.sinks.k out (omega arith) c.index-outs-k.is))

pub push_sink-requires-clause-room : goal.push_sink-requires-clause-room
push_sink-requires-clause-room c =
    omega (arith, c.requires.room, room_for_more c.args.circuit.now c.sinks.circuit c.args.gates.now c.args.outs.now c.sinks.k c.requires.one_each (omega arith) c.sinks.invariant)

pub sinks-preserved : goal.sinks-preserved
sinks-preserved c =
    next_inverter c.args.circuit.now c.sinks.circuit c.push_sink.new.circuit c.args.gates.now c.args.outs.now c.sinks.k c.index-gates-k.result c.index-outs-k.result
    (omega arith) (omega arith) c.index-gates-k.is c.index-outs-k.is c.sinks.invariant c.in_ok-push_sink.ensures.devices
