use Rattle.std.proofs.Common.{rules, ◌≡◌, ◌≤◌, ◌<◌, ◌^◌, ℕ, List, All, length, ap, sym, ◌∙◌, subst, arith}
use Rattle.std.specs.List.{AllByRecursion}
use Rattle.std.proofs.lemmas.List.{length-map}
use Rattle.std.proofs.lemmas.List.Elements.{All-from_recursion, recursion_from_All}
use Rattle.deck.specs.CircuitData.{CircuitData}
use Rattle.dual_rail.specs.ForestData.{ForestData}
use Rattle.dual_rail.specs.ForestOrder.{IsForest}
use Rattle.sp_network.specs.Tree.{Tree, leaves}
use Rattle.sp_network.specs.TypedTree.{tree_of}
use Rattle.sp_network.specs.declared.plan.GatePlan.{GatePlan}
use Rattle.tree_map.specs.MappedCover.{plan_trees}
use Rattle.deck_form.specs.AskedOptions.{deck_options}
use Rattle.deck_form.specs.ChosenDecks.{IsChosenDeck, planned}
use Rattle.deck_form.specs.DeckGroups.{group_places}
use Rattle.deck_form.proofs.SmallTrees.{trees_are_small}
use Rattle.synth_flow.specs.GroupEnds.{deck_sizes, ends_of}
use Rattle.synth_flow.proofs.GroupEnds.{small_plans}
use Rattle.synth_flow.proofs.GroupedDecks.{places_low, same_places}
use Rattle.synth_flow.proofs.SynthFacts.{few_trees}
use Rattle.synth_flow.proofs.grouped.synth_grouped.Goals as goal

pub deck_places-requires-clause-small : goal.deck_places-requires-clause-small
deck_places-requires-clause-small c =
    let network = c.args.network.now in
    let options = c.args.options in
    let made = c.in_ok-circuit.field-0 in
    let is : IsChosenDeck network (deck_options options) made.circuit = c.in_ok-circuit.ensures.0 in
    let same : is.trees ≡ plan_trees made.plans.items = c.in_ok-circuit.ensures.2 in
    let plans : c.as_slice.result.now ≡ made.plans.items = c.as_slice.ensures.value in
    let bounds = options.bounds in
    let trees : All (λ (tree : Tree ℕ). leaves tree ≤ 48) is.trees =
    trees_are_small bounds.w bounds.h is.trees c.requires.few_wide c.requires.few_high is.is_chosen_plan.plan.within in
    let small : AllByRecursion (λ (tree : Tree ℕ). leaves tree ≤ 48) (plan_trees made.plans.items) =
    subst (λ (l : List (Tree ℕ)). AllByRecursion (λ (tree : Tree ℕ). leaves tree ≤ 48) l) same
    (recursion_from_All (λ (tree : Tree ℕ). leaves tree ≤ 48) is.trees trees) in
    subst (λ (l : List GatePlan). All (λ (p : GatePlan). leaves (tree_of p.tree) ≤ 48) l) (sym plans)
    (All-from_recursion (λ (p : GatePlan). leaves (tree_of p.tree) ≤ 48) made.plans.items (small_plans made.plans.items small))

pub deck_places-requires-clause-few_plans : goal.deck_places-requires-clause-few_plans
deck_places-requires-clause-few_plans c =
    let network = c.args.network.now in
    let options = c.args.options in
    let made = c.in_ok-circuit.field-0 in
    let is : IsChosenDeck network (deck_options options) made.circuit = c.in_ok-circuit.ensures.0 in
    let same : is.trees ≡ plan_trees made.plans.items = c.in_ok-circuit.ensures.2 in
    let plans : c.as_slice.result.now ≡ made.plans.items = c.as_slice.ensures.value in
    let forest : record {
      leaves = c.forest.inside.leaves;
      pairs = c.forest.inside.pairs.items;
      origin = c.forest.inside.origin.items;
      uses = c.forest.inside.uses.items;
      ends = c.forest.inside.ends.items;
    } ≡ is.forest =
    c.forest.view_is ∙ sym c.in_ok-circuit.ensures.1 in
    let bounds = options.bounds in
    let few = few_trees is.forest is.kept bounds.w bounds.h is.trees is.is_chosen_plan.plan (subst IsForest forest c.forest.invariant) in
    omega (arith, few, ap length same, ap length plans, length-map made.plans.items (λ (p : GatePlan). tree_of p.tree))

pub deck_places-requires-clause-fit : goal.deck_places-requires-clause-fit
deck_places-requires-clause-fit c =
    let network = c.args.network.now in
    let options = c.args.options in
    let made = c.in_ok-circuit.field-0 in
    let is : IsChosenDeck network (deck_options options) made.circuit = c.in_ok-circuit.ensures.0 in
    let same : is.trees ≡ plan_trees made.plans.items = c.in_ok-circuit.ensures.2 in
    let plans : c.as_slice.result.now ≡ made.plans.items = c.as_slice.ensures.value in
    let forest : record {
      leaves = c.forest.inside.leaves;
      pairs = c.forest.inside.pairs.items;
      origin = c.forest.inside.origin.items;
      uses = c.forest.inside.uses.items;
      ends = c.forest.inside.ends.items;
    } ≡ is.forest =
    c.forest.view_is ∙ sym c.in_ok-circuit.ensures.1 in
    let latches : c.len.result ≡ length network.latches = search rules in
    let places : ends_of 0 (deck_sizes options.style c.as_slice.result.now c.as_slice-2.result.now c.forest.inside.leaves c.len.result)
    ≡ group_places (planned is) =
    same_places network options made.circuit is made.plans.items c.as_slice.result.now c.as_slice-2.result.now c.forest.inside.leaves
    c.len.result same plans
    (c.as_slice-2.ensures.value ∙ ap (λ (f : ForestData). f.ends) forest) (ap (λ (f : ForestData). f.leaves) forest) latches in
    let few : length made.circuit.devices < 2 ^ 32 =
    omega (arith, c.whole.ensures.whole.numbered.few_devices, ap (λ (v : CircuitData). length v.devices) c.in_ok-circuit.circuit-is) in
    subst (λ (l : List ℕ). All (λ place. place < 2 ^ 32) l) (sym places)
    (All-from_recursion (λ place. place < 2 ^ 32) (group_places (planned is)) (places_low network options made.circuit is few))

pub returns : goal.returns
returns c =
    let network = c.args.network.now in
    let options = c.args.options in
    let made = c.in_ok-circuit.field-0 in
    let is : IsChosenDeck network (deck_options options) made.circuit = c.in_ok-circuit.ensures.0 in
    let same : is.trees ≡ plan_trees made.plans.items = c.in_ok-circuit.ensures.2 in
    let plans : c.as_slice.result.now ≡ made.plans.items = c.as_slice.ensures.value in
    let forest : record {
      leaves = c.forest.inside.leaves;
      pairs = c.forest.inside.pairs.items;
      origin = c.forest.inside.origin.items;
      uses = c.forest.inside.uses.items;
      ends = c.forest.inside.ends.items;
    } ≡ is.forest =
    c.forest.view_is ∙ sym c.in_ok-circuit.ensures.1 in
    let latches : c.len.result ≡ length network.latches = search rules in
    let places : ends_of 0 (deck_sizes options.style c.as_slice.result.now c.as_slice-2.result.now c.forest.inside.leaves c.len.result)
    ≡ group_places (planned is) =
    same_places network options made.circuit is made.plans.items c.as_slice.result.now c.as_slice-2.result.now c.forest.inside.leaves
    c.len.result same plans
    (c.as_slice-2.ensures.value ∙ ap (λ (f : ForestData). f.ends) forest) (ap (λ (f : ForestData). f.leaves) forest) latches in
    (is, c.in_ok-ends.ensures ∙ places)
