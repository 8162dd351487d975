use Rattle.std.proofs.Common.{◌≡◌, length, map, ap, ◌∙◌, subst, sym, arith, rules}
use Rattle.std.specs.Prelude.{slice_index_or}
use Rattle.std.proofs.lemmas.List.{take_all}
use Rattle.numbered_file.specs.Numbered.{models_in}
use Rattle.numbered_file.proofs.Places.{length-models_in}
use Rattle.card_places.specs.CardPlaces.{places_at}
use Rattle.dom_base.proofs.Lists.{slice_get-there}
use Rattle.model_calls.proofs.CallNumbers.{calls_next}
use Rattle.model_calls.specs.CallNumbers.{AreCallees, AreCalls, names_of_models}
use Rattle.numbered_calls.proofs.Accepting.{callees_are}
use Rattle.numbered_calls.proofs.accepted_calls.call_graph.Goals as goal

pub loop-model-preserved : goal.loop-model-preserved
loop-model-preserved c =
    let d = c.args.file.now in
    let models = models_in d in
    let m = c.loop-model.model in
    let node = c.in_ok-callees.field-0 in
    let number : c.in-Ok.number ≡ m = search rules in
    let there = slice_get-there models m (omega (arith, c.loop-model-test.true, length-models_in d, ap length c.models-count.ensures, c.loop-model.auto.model-end)) in
    let node_is = c.in_ok-callees.ensures ∙ ap (map (λ k. slice_index_or c.args.units.now k 0)) (c.instances.ensures ∙ ap (places_at c.args.places.now.instances) number) in
    calls_next (names_of_models models) models m there.0 there.1 c.loop-model.nodes.items c.push.new.self.items node c.loop-model.invariant
    (subst (AreCallees (names_of_models models) there.0.instances) (sym node_is) (callees_are d c.args.places.now c.requires.places c.args.units.now c.requires.units m there.0 there.1))
    c.in_ok-push.ensures.items

pub returns : goal.returns
returns c =
    let models = models_in c.args.file.now in
    subst (λ l. AreCalls (names_of_models models) l c.loop-model.nodes.items)
    (take_all c.loop-model.model models (omega (arith, c.loop-model-test.false, length-models_in c.args.file.now, ap length c.models-count.ensures, c.loop-model.auto.model-end))) c.loop-model.invariant
