use Rattle.std.proofs.Common.{◌≡◌, ◌∙◌, ap, arith, length, map, option_map, subst, take}
use Rattle.std.proofs.lemmas.List.{length-map, take_all}
use Rattle.std.proofs.lemmas.Option.{slice_get-get_or, slice_get-map}
use Rattle.dom_base.proofs.Lists.{All-at}
use Rattle.deck.specs.NamedDevices.{with_devices}
use Rattle.dual_rail.specs.Uses.{IsEndThere}
use Rattle.synth_flow.specs.SinkParts.{end_in}
use Rattle.synth_flow.proofs.LoopItems.{item_at}
use Rattle.compound_flow.specs.MadeCells.{plain_cells}
use Rattle.compound_flow.specs.MadeSinks.{sink_gates}
use Rattle.compound_flow.proofs.SinkLoop.{next_sink, room_for_four, room_for_next}
use Rattle.compound_flow.proofs.sinks.push_sinks.Goals as goal

pub push_end-requires-clause-there : goal.push_end-requires-clause-there
push_end-requires-clause-there c =
    All-at (IsEndThere (length c.args.cells.now)) c.args.ends.now c.sinks.k _ c.requires.there
    (slice_get-get_or c.args.ends.now c.sinks.k _ (omega (arith, c.requires.one_each)))

pub push_end-requires-clause-nets : goal.push_end-requires-clause-nets
push_end-requires-clause-nets c =
    let out = c.index-outs-k.result in
    room_for_next c.args.circuit.now c.sinks.circuit c.args.pins.now (plain_cells c.args.plans.now) c.args.outs.now (map (end_in c.args.cells.now) c.args.ends.now) c.sinks.k out
    c.requires.nets (item_at c.args.outs.now c.sinks.k out (omega arith) c.index-outs-k.is) c.sinks.invariant

pub push_end-requires-clause-room : goal.push_end-requires-clause-room
push_end-requires-clause-room c =
    omega (
      arith,
      c.requires.room,
      room_for_four c.args.circuit.now c.sinks.circuit c.args.pins.now (plain_cells c.args.plans.now) c.args.outs.now (map (end_in c.args.cells.now) c.args.ends.now)
          c.sinks.k (omega arith) c.sinks.invariant,
    )

pub sinks-preserved : goal.sinks-preserved
sinks-preserved c =
    let out = c.index-outs-k.result in
    let ends = c.args.ends.now in
    next_sink c.args.circuit.now c.sinks.circuit c.push_end.new.circuit c.args.pins.now (plain_cells c.args.plans.now) c.args.outs.now (map (end_in c.args.cells.now) ends)
    c.sinks.k out _ (item_at c.args.outs.now c.sinks.k out (omega arith) c.index-outs-k.is)
    (slice_get-map (end_in c.args.cells.now) ends c.sinks.k
    ∙ ap (option_map (end_in c.args.cells.now)) (slice_get-get_or ends c.sinks.k _ (omega (arith, c.requires.one_each))))
    c.sinks.invariant c.in_ok-push_end.ensures

pub returns : goal.returns
returns c =
    let outs = c.args.outs.now in
    let ends = map (end_in c.args.cells.now) c.args.ends.now in
    let count = length-map c.args.ends.now (end_in c.args.cells.now) in
    let all_outs = take_all c.sinks.k outs (omega (arith, c.sinks-test.false)) in
    let all_ends = take_all c.sinks.k ends (omega (arith, count, c.requires.one_each, c.sinks-test.false)) in
    subst (λ l. c.sinks.circuit ≡ with_devices c.args.circuit.now (sink_gates c.args.pins.now (plain_cells c.args.plans.now) outs l)) all_ends
    (subst (λ l. c.sinks.circuit ≡ with_devices c.args.circuit.now (sink_gates c.args.pins.now (plain_cells c.args.plans.now) l (take c.sinks.k ends))) all_outs c.sinks.invariant)
