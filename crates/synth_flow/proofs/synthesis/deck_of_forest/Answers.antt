use Rattle.std.proofs.Common.{◌≡◌, ◌≤◌, All, length, ap, refl, subst, sym, ◌∙◌}
use Rattle.dual_rail.specs.ForestData.{ForestData}
use Rattle.dual_rail.specs.ForestOrder.{IsForest}
use Rattle.dual_rail.specs.Uses.{IsEndThere}
use Rattle.gate_decompose.specs.Sinks.{leaf_count}
use Rattle.sp_network.specs.declared.plan.GatePlan.{GatePlan}
use Rattle.synth_flow.specs.BareDecks.{ArePlans}
use Rattle.synth_flow.specs.MadeCircuits.{made_deck}
use Rattle.synth_flow.proofs.ClockedCovers.{NetworkCover, are_plans, clocks_are_few, ends_there, is_deck_in, made_is_in}
use Rattle.synth_flow.proofs.synthesis.deck_of_forest.Goals as goal

pub deck_of-requires-clause-plans : goal.deck_of-requires-clause-plans
deck_of-requires-clause-plans c =
    let network = c.args.network.now in
    let signs = c.args.signs.now in
    let forest = c.args.forest.now in
    let phases = c.args.options.phases in
    let cells = c.in_ok-kept.field-0.cells.items in
    let plans = c.in_ok-kept.field-0.plans.items in
    let m : NetworkCover network signs forest c.args.options.bounds.w c.args.options.bounds.h phases c.in_ok-kept.field-0.kept.items cells
    plans = record {
      gates = c.requires.forest.0;
      are_gates = c.requires.forest.1;
      is_forest = c.requires.forest.2;
      whole = subst IsForest c.forest.view_is c.forest.invariant;
      some_phase = c.requires.some_phase;
      few_phases = c.requires.few_phases;
      cover = c.in_ok-kept.ensures;
    } in
    subst (ArePlans c.args.options.style (leaf_count network)) (sym c.as_slice.ensures.value) (are_plans m c.args.options.style)

pub deck_of-requires-clause-clocks_are : goal.deck_of-requires-clause-clocks_are
deck_of-requires-clause-clocks_are c =
    let network = c.args.network.now in
    let signs = c.args.signs.now in
    let forest = c.args.forest.now in
    let phases = c.args.options.phases in
    let cells = c.in_ok-kept.field-0.cells.items in
    let plans = c.in_ok-kept.field-0.plans.items in
    let m : NetworkCover network signs forest c.args.options.bounds.w c.args.options.bounds.h phases c.in_ok-kept.field-0.kept.items cells
    plans = record {
      gates = c.requires.forest.0;
      are_gates = c.requires.forest.1;
      is_forest = c.requires.forest.2;
      whole = subst IsForest c.forest.view_is c.forest.invariant;
      some_phase = c.requires.some_phase;
      few_phases = c.requires.few_phases;
      cover = c.in_ok-kept.ensures;
    } in
    subst (All (λ (p : GatePlan). (1 ≤ p.clock) × (p.clock ≤ phases))) (sym c.as_slice.ensures.value) (clocks_are_few m)

pub deck_of-requires-clause-ends : goal.deck_of-requires-clause-ends
deck_of-requires-clause-ends c =
    let network = c.args.network.now in
    let signs = c.args.signs.now in
    let forest = c.args.forest.now in
    let phases = c.args.options.phases in
    let cells = c.in_ok-kept.field-0.cells.items in
    let plans = c.in_ok-kept.field-0.plans.items in
    let m : NetworkCover network signs forest c.args.options.bounds.w c.args.options.bounds.h phases c.in_ok-kept.field-0.kept.items cells
    plans = record {
      gates = c.requires.forest.0;
      are_gates = c.requires.forest.1;
      is_forest = c.requires.forest.2;
      whole = subst IsForest c.forest.view_is c.forest.invariant;
      some_phase = c.requires.some_phase;
      few_phases = c.requires.few_phases;
      cover = c.in_ok-kept.ensures;
    } in
    let all_ends : c.as_slice-2.result.now ≡ forest.ends = c.as_slice-2.ensures.value ∙ ap (λ (f : ForestData). f.ends) c.forest.view_is in
    subst (λ l. All (IsEndThere (length l)) c.as_slice-2.result.now) (sym c.as_slice-3.ensures.value)
    (subst (All (IsEndThere (length cells))) (sym all_ends) (ends_there m))

pub returns : goal.returns
returns c = λ gates are of.
    let network = c.args.network.now in
    let signs = c.args.signs.now in
    let forest = c.args.forest.now in
    let phases = c.args.options.phases in
    let cells = c.in_ok-kept.field-0.cells.items in
    let plans = c.in_ok-kept.field-0.plans.items in
    let m : NetworkCover network signs forest c.args.options.bounds.w c.args.options.bounds.h phases c.in_ok-kept.field-0.kept.items cells
    plans = record {
      gates = gates;
      are_gates = are;
      is_forest = of;
      whole = subst IsForest c.forest.view_is c.forest.invariant;
      some_phase = c.requires.some_phase;
      few_phases = c.requires.few_phases;
      cover = c.in_ok-kept.ensures;
    } in
    let all_ends : c.as_slice-2.result.now ≡ forest.ends = c.as_slice-2.ensures.value ∙ ap (λ (f : ForestData). f.ends) c.forest.view_is in
    let some_plans = c.as_slice.ensures.value in
    let numbers = c.as_slice-3.ensures.value in
    let same = c.in_ok-circuit.ensures ∙ (λ i. made_deck c.args.options.style network phases signs (some_plans i) (all_ends i) (numbers i))
    ∙ made_is_in m c.args.options.style in
    (is_deck_in m c.args.options.style c.in_ok-circuit.circuit same, refl, refl)
