use Rattle.std.proofs.Common.{◌≡◌, ◌≤◌, ◌∙◌, ◌||◌, ℕ, List, All, ap, arith, filter, length, refl, subst, sym}
use Rattle.std.specs.List.{list_any, range_with_len}
use Rattle.std.proofs.lemmas.List.FromFn.{length-range_with_len}
use Rattle.plan_text.proofs.CellLoops.{few_places}
use Rattle.gate_decompose.specs.Sinks.{leaf_count}
use Rattle.dual_rail.specs.ForestData.{ForestData}
use Rattle.dual_rail.specs.ForestOrder.{IsForest}
use Rattle.clock_phase.specs.Levels.{AreLevels}
use Rattle.clock_phase.proofs.LevelsUpTo.{levels_from_one}
use Rattle.synth_flow.specs.CellCounts.{is_read_in}
use Rattle.synth_flow.specs.NamedComplements.{is_plus_end}
use Rattle.synth_flow.specs.Summaries.{IsSummaryOf, both_nodes}
use Rattle.synth_flow.specs.SummaryParts.{cost_of_plan, figures_by}
use Rattle.tree_map.specs.Plans.{IsTreeOf, roots}
use Rattle.deck_form.proofs.DeckForms.{all_zip_length}
use Rattle.synth_flow.proofs.PlanCosts.{cost_is}
use Rattle.synth_flow.proofs.DeckFigures.{figures_are}
use Rattle.synth_flow.proofs.PushedDecks.{few_filtered}
use Rattle.synth_flow.proofs.SynthFacts.{few_trees}
use Rattle.synth_flow.proofs.summaries.figures_of_forest.Goals as goal

pub figures_of-requires-clause-few_cells : goal.figures_of-requires-clause-few_cells
figures_of-requires-clause-few_cells c =
    let bounds = c.args.options.bounds in
    let is = subst IsForest c.forest.view_is c.forest.invariant in
    let counted = c.in_ok-kept.ensures in
    omega (arith, ap length c.as_slice-2.ensures.value, counted.levels_are.one_each, few_trees c.args.forest.now c.in_ok-kept.field-0.kept.items bounds.w bounds.h counted.trees counted.chosen.plan is)

pub figures_of-requires-clause-from_one : goal.figures_of-requires-clause-from_one
figures_of-requires-clause-from_one c =
    let counted = c.in_ok-kept.ensures in
    subst (λ (l : List ℕ). All (λ level. 1 ≤ level) l) (sym c.as_slice-2.ensures.value)
    (levels_from_one c.args.forest.now.leaves counted.trees c.in_ok-kept.field-0.levels.items counted.levels_are)

pub figures_of-requires-clause-cells : goal.figures_of-requires-clause-cells
figures_of-requires-clause-cells c =
    let kept = c.in_ok-kept.field-0.kept.items in
    let counted = c.in_ok-kept.ensures in
    let same = all_zip_length (IsTreeOf c.args.forest.now kept) (roots kept) counted.trees counted.chosen.plan.trees_are in
    omega (arith, ap length c.as_slice-2.ensures.value, counted.levels_are.one_each, same, few_places kept (roots kept) refl, counted.chosen.plan.one_each)

pub figures_of-requires-clause-few_pairs : goal.figures_of-requires-clause-few_pairs
figures_of-requires-clause-few_pairs c = (subst IsForest c.forest.view_is c.forest.invariant).few_pairs

pub figures_of-requires-clause-few_named : goal.figures_of-requires-clause-few_named
figures_of-requires-clause-few_named c =
    let forest = c.args.forest.now in
    let is = subst IsForest c.forest.view_is c.forest.invariant in
    let counted = c.in_ok-kept.ensures in
    let test = λ (leaf : ℕ). is_read_in counted.trees leaf || list_any (is_plus_end leaf) forest.ends in
    omega (arith, ap length c.as_slice-3.ensures.value, ap length counted.complements_are, few_filtered test (range_with_len 0 forest.leaves), length-range_with_len 0 forest.leaves, is.few_leaves)

pub returns : goal.returns
returns c =
    let w = c.args.options.bounds.w in
    let h = c.args.options.bounds.h in
    let forest = c.args.forest.now in
    let is = subst IsForest c.forest.view_is c.forest.invariant in
    let counted = c.in_ok-kept.ensures in
    let kept = c.in_ok-kept.field-0.kept.items in
    let levels = c.in_ok-kept.field-0.levels.items in
    let trees = counted.trees in
    let plan = counted.chosen.plan in
    let network = c.args.network.now in
    let phases = c.args.options.phases in
    let style = c.args.options.style in
    let chosen = c.requires.chosen.0 in
    let gates = chosen.gates in
    let signs = c.args.signs.now in
    let both = c.in_ok-both.both in
    let leaf_total : forest.leaves ≡ leaf_count network = chosen.is_forest.leaves_are ∙ chosen.are_gates.leaves_are in
    -- nodes in both signs
    let origin : c.as_slice.result.now ≡ forest.origin = c.as_slice.ensures.value ∙ ap (λ (f : ForestData). f.origin) c.forest.view_is in
    let both_is = c.in_ok-both.ensures ∙ (λ i. length (both_nodes (origin i) (c.requires.chosen.1 i))) in
    -- leaves whose complements are named
    let test = λ (leaf : ℕ). is_read_in trees leaf || list_any (is_plus_end leaf) forest.ends in
    let named = c.as_slice-3.ensures.value ∙ counted.complements_are ∙ ap (λ n. filter test (range_with_len 0 n)) leaf_total in
    let count : length levels ≡ length (roots kept) = counted.levels_are.one_each ∙ sym (all_zip_length (IsTreeOf forest kept) (roots kept) trees plan.trees_are) in
    let cost_now = ap (cost_of_plan style forest.pairs) count ∙ cost_is forest kept w h trees plan is.in_place.in_order style in
    let levels_now = c.as_slice-2.ensures.value in
    let sum = c.in_ok-figures.ensures
    ∙ (λ i. figures_by network phases signs forest (levels_now i) (cost_of_plan style forest.pairs (length (levels_now i))) c.as_slice-3.result.now both)
    ∙ ap (λ n. figures_by network phases signs forest levels n c.as_slice-3.result.now both) cost_now in
    subst (IsSummaryOf network c.args.options) (sym sum)
    (figures_are network c.args.options gates signs forest kept trees levels c.as_slice-3.result.now both chosen.are_gates chosen.are_chosen chosen.is_forest counted.chosen
    (subst (λ n. AreLevels n trees levels) leaf_total counted.levels_are) named both_is)
