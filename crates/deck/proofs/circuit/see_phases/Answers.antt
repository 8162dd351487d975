use Rattle.std.proofs.Common.{◌<◌, sym, [], true, length, arith, subst}
use Rattle.std.proofs.lemmas.List.{get_or_read, take_all}
use Rattle.std.proofs.lemmas.List.Elements.{All-more, All-same}
use Rattle.dom_base.specs.Names.{IsNetName}
use Rattle.deck.specs.declared.phase.Phase.{Phase}
use Rattle.deck.proofs.circuit.see_phases.Goals as goal

IsNamed : Phase → Type 0
IsNamed phase = IsNetName phase.net

pub loop-phase-preserved : goal.loop-phase-preserved
unfolding IsNamed
loop-phase-preserved c =
    let lt : c.loop-phase.phase-index < length c.args.phases.now = omega arith in
    let none : Phase = record { net = []; plus = true } in
    let read = get_or_read c.args.phases.now c.loop-phase.phase-index c.phase-item.result lt c.phase-item.is none in
    All-more IsNamed c.args.phases.now c.loop-phase.phase-index none lt c.loop-phase.invariant (subst IsNamed read c.as_bytes.ensures.good)

pub returns : goal.returns
unfolding IsNamed
returns c = All-same IsNamed _ _ (sym (take_all c.loop-phase.phase-index c.args.phases.now (omega arith))) c.loop-phase.invariant
