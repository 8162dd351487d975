use Rattle.std.proofs.Common.{◌≡◌, ◌||◌, List, nat_eq, slice_index_or, slice_set, take, refl, sym, ◌∙◌, subst, arith}
use Rattle.std.specs.Cmp.Lexicographic.{pointwise}
use Rattle.std.specs.List.{IsDistinct}
use Rattle.std.proofs.lemmas.List.{get_or_default, take_all}
use Rattle.std.proofs.lemmas.Option.{slice_get_within}
use Rattle.deck.specs.CircuitData.{CircuitData}
use Rattle.trace_tool.specs.AskedEdges.{hits, unasked}
use Rattle.trace_tool.specs.Probes.{AreNets, has_edge}
use Rattle.trace_tool.specs.Refusals.{IsUnnamed}
use Rattle.trace_tool.specs.declared.asked.Asked.{Asked}
use Rattle.trace_tool.specs.declared.fault.TraceFault.TheVariants.{NoNet}
use Rattle.trace_tool.specs.declared.options.ProbeWord.{ProbeWord}
use Rattle.trace_tool.proofs.AskedNets.{IsAskedTo, asked_more, first_unnamed, words_more}
use Rattle.trace_tool.proofs.asked.asked_edges.Goals as goal

pub returns-in-None-clause-no_net : goal.returns-in-None-clause-no_net
returns-in-None-clause-no_net c why is =
    let same : NoNet c.in_ok-name-in-None.name ≡ why = cc in
    subst (IsUnnamed c.args.circuit.now.nets c.args.probes.now) same
    (first_unnamed c.args.circuit.now.nets c.args.probes.now c.loop-word.asked.items c.loop-word.word-index c.word-item.result c.in_ok-name-in-None.name c.loop-word.invariant
    c.loop-word-test.true c.word-item.is c.in-None.ensures c.in_ok-name-in-None.ensures)

pub loop-word-preserved : goal.loop-word-preserved
loop-word-preserved c =
    let apart = subst (λ (x : CircuitData). IsDistinct (pointwise nat_eq) x.nets) c.circuit.view_is c.circuit.invariant.distinct in
    let read : c.index.result.now ≡ slice_index_or c.loop-word.asked.items c.in-Some.net unasked = c.index.ensures
    ∙ get_or_default c.loop-word.asked.items c.in-Some.net c.index.result.now unasked
    (omega (arith, c.loop-word.invariant.many, slice_get_within c.args.circuit.now.nets c.in-Some.net c.word-item.result.name c.in-Some.ensures)) in
    subst (λ (words : List ProbeWord). IsAskedTo c.args.circuit.now.nets words (slice_set c.loop-word.asked.items c.in-Some.net c.with.result)) (sym (words_more c.args.probes.now c.loop-word.word-index c.word-item.result c.loop-word-test.true c.word-item.is))
    (asked_more c.args.circuit.now.nets (take c.loop-word.word-index c.args.probes.now) c.loop-word.asked.items (slice_set c.loop-word.asked.items c.in-Some.net c.with.result) c.word-item.result c.in-Some.net c.with.result apart c.loop-word.invariant c.in-Some.ensures
    (λ before after. subst (λ (x : Asked). hits c.with.result before after ≡ (hits x before after || has_edge c.word-item.result.edge before after)) read (c.with.ensures before after)) refl)

pub returns-clause-nets : goal.returns-clause-nets
returns-clause-nets c =
    subst (AreNets c.args.circuit.now.nets) (take_all c.loop-word.word-index c.args.probes.now (omega (arith, c.loop-word-test.false))) c.loop-word.invariant.are_nets
