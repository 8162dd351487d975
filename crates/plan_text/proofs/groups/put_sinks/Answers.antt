use Rattle.std.proofs.Common.{◌≡◌, ◌<◌, [], false, length, map, take, zip, ap, sym, ◌∙◌, arith}
use Rattle.std.proofs.lemmas.List.{take_all}
use Rattle.deck_form.specs.ChosenDecks.{end_at_cell}
use Rattle.deck_form.specs.DeckNets.{Fixed, named_sink, sink_nets}
use Rattle.domino_cell.specs.Cell.{inverter}
use Rattle.plan_text.specs.DeviceTexts.{with_groups, with_put}
use Rattle.plan_text.proofs.Loops.{next_group}
use Rattle.plan_text.proofs.SinkLoops.{end_at, end_total}
use Rattle.plan_text.proofs.groups.put_sinks.Goals as goal

pub sinks-preserved : goal.sinks-preserved
sinks-preserved c = λ kept starts same total.
    let outs = c.args.outs.now in
    let ends = c.args.ends.now in
    let sinks = zip (sink_nets outs starts) (map (end_at_cell kept) ends) in
    let lt : c.sinks.k < length sinks = omega (arith, c.sinks-test.true, end_total outs starts kept ends total) in
    next_group (named_sink c.args.pins.now) sinks c.sinks.k ([], Fixed false) lt c.args.cards.now c.sinks.cards c.put_inverter.new.self c.end_group.new.self
    (c.sinks.invariant kept starts same total)
    (c.in_ok-put_inverter.ensures
    ∙ (λ i. with_put c.sinks.cards (inverter (c.named.ensures i) (c.named-in-sinks.ensures i) (c.sink_gate-gate.ensures kept same i) (c.sink_net-out.ensures i)))
    ∙ ap (λ p. with_put c.sinks.cards (named_sink c.args.pins.now p)) (sym (end_at outs starts kept ends c.sinks.k _ total c.sinks-test.true))) c.in_ok-end_group.ensures

pub returns : goal.returns
returns c = λ kept starts same total.
    let sinks = zip (sink_nets c.args.outs.now starts) (map (end_at_cell kept) c.args.ends.now) in
    let all : take c.sinks.k sinks ≡ sinks = take_all c.sinks.k sinks (omega (arith, end_total c.args.outs.now starts kept c.args.ends.now total, c.sinks-test.false)) in
    c.sinks.invariant kept starts same total ∙ ap (λ l. with_groups c.args.cards.now (map (named_sink c.args.pins.now) l)) all
