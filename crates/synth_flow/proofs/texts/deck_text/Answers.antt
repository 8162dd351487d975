use Rattle.std.proofs.Common.{ℕ, ◌+◌, ◌≤◌, List, All, length, map, ap, ap₂, arith, subst, sym, ◌∙◌}
use Rattle.std.proofs.lemmas.List.{length-map}
use Rattle.clock_phase.proofs.LevelsUpTo.{levels_from_one}
use Rattle.deck_form.specs.ChosenDecks.{end_at_cell}
use Rattle.deck_form.specs.DeckGroups.{card_groups}
use Rattle.deck_form.specs.DeckNets.{named_devices}
use Rattle.deck_form.specs.DominoDecks.{cells_of}
use Rattle.deck_form.proofs.DeckForms.{all_zip_length}
use Rattle.deck_form.proofs.SmallTrees.{trees_are_small}
use Rattle.dom_base.specs.Names.{IsNetName}
use Rattle.dual_rail.specs.ForestOrder.{IsForest}
use Rattle.network.specs.Networks.{IsNetwork}
use Rattle.network.specs.declared.network.NetLatch.{NetLatch}
use Rattle.plan_text.specs.DeckTexts.{grouped_deck_text, named_deck_text}
use Rattle.plan_text.specs.PutCells.{AreRootTrees}
use Rattle.plan_text.specs.PutGroups.{signed_phases}
use Rattle.tree_map.specs.Plans.{IsTreeOf, roots}
use Rattle.synth_flow.specs.WholeTexts.{IsChosenCellText, IsChosenText}
use Rattle.synth_flow.proofs.NetworkDecks.{pins_count}
use Rattle.synth_flow.proofs.WholeTexts.{cells_are_whole, text_is_whole}
use Rattle.synth_flow.proofs.texts.deck_text.Goals as goal

pub text_of_plan-requires-clause-levels : goal.text_of_plan-requires-clause-levels
text_of_plan-requires-clause-levels c =
    let forest = c.in_ok-signs.field-0.forest in
    let counted = c.in_ok-kept.ensures in
    let kept = c.in_ok-kept.field-0.kept.items in
    omega (
      arith,
      ap length c.as_slice-7.ensures.value,
      ap length c.as_slice-6.ensures.value,
      counted.levels_are.one_each,
      ap length counted.places_are,
      all_zip_length (IsTreeOf forest kept) (roots kept) counted.trees counted.chosen.plan.trees_are,
    )

pub text_of_plan-requires-clause-from_one : goal.text_of_plan-requires-clause-from_one
text_of_plan-requires-clause-from_one c =
    let forest = c.in_ok-signs.field-0.forest in
    let counted = c.in_ok-kept.ensures in
    subst (λ (l : List ℕ). All (λ level. 1 ≤ level) l) (sym c.as_slice-7.ensures.value)
    (levels_from_one forest.leaves counted.trees c.in_ok-kept.field-0.levels.items counted.levels_are)

pub text_of_plan-requires-clause-trees : goal.text_of_plan-requires-clause-trees
text_of_plan-requires-clause-trees c =
    let forest = c.in_ok-signs.field-0.forest in
    let counted = c.in_ok-kept.ensures in (
      counted.trees,
      subst (λ k. AreRootTrees forest k counted.trees) (sym c.as_slice-2.ensures.value) counted.chosen.plan.trees_are,
      trees_are_small c.args.options.bounds.w c.args.options.bounds.h counted.trees c.requires.few_wide c.requires.few_high counted.chosen.plan.within,
    )

pub text_of_plan-requires-clause-leaves : goal.text_of_plan-requires-clause-leaves
text_of_plan-requires-clause-leaves c =
    let network = c.args.network in
    let is = subst IsNetwork c.network.view_is c.network.invariant in
    let chosen = c.in_ok-signs.ensures in
    let pins = ap length (c.as_slice-4.ensures.value ∙ c.in_ok-name.ensures.pins) ∙ pins_count network is in
    let starts = ap length (c.as_slice-10.ensures.value ∙ c.in_ok-name.ensures.starts) ∙ length-map network.latches (λ (l : NetLatch). l.init) in
    chosen.is_forest.leaves_are ∙ chosen.are_gates.leaves_are ∙ sym (ap₂ (λ m n. m + n) pins starts)

pub returns-clause-one : goal.returns-clause-one
returns-clause-one c = λ version.
    let network = c.args.network in
    let options = c.args.options in
    let is = subst IsNetwork c.network.view_is c.network.invariant in
    let forest = c.in_ok-signs.field-0.forest in
    let whole = subst IsForest c.forest.view_is c.forest.invariant in
    let names = c.in_ok-name.ensures in
    let counted = c.in_ok-kept.ensures in
    let trees = counted.trees in
    let name = c.as_bytes.ensures.bytes ∙ names.name in
    let signs = c.as_slice-5.ensures.value in
    let kept = c.as_slice-2.ensures.value in
    let levels = c.as_slice-7.ensures.value in
    let complements = c.as_slice-8.ensures.value in
    let pins = c.as_slice-4.ensures.value ∙ names.pins in
    let outs = c.as_slice-9.ensures.value ∙ names.outs in
    let starts = c.as_slice-10.ensures.value ∙ names.starts in
    let are = subst (λ k. AreRootTrees forest k trees) (sym kept) counted.chosen.plan.trees_are in
    let same = c.in_ok-text.ensures.one version trees are
    ∙ (λ i. named_deck_text (name i) (signed_phases (outs i) (starts i) (signs i)) options.phases (pins i) (outs i)
    (named_devices options.style (pins i) (outs i) (starts i) (cells_of options.phases (levels i) trees) (complements i) (map (end_at_cell (kept i)) forest.ends))) in
    subst (IsChosenText network options) (sym same)
    (text_is_whole network is names.names options c.in_ok-signs.field-0.signs.items forest c.in_ok-signs.ensures whole c.requires.few_wide c.requires.few_high
    c.requires.some_phase c.requires.few_phases c.in_ok-kept.field-0.kept.items trees c.in_ok-kept.field-0.levels.items c.in_ok-kept.field-0.complements.items
    counted.chosen counted.levels_are counted.complements_are (subst IsNetName names.name names.plain))

pub returns-clause-two : goal.returns-clause-two
returns-clause-two c = λ version.
    let network = c.args.network in
    let options = c.args.options in
    let is = subst IsNetwork c.network.view_is c.network.invariant in
    let forest = c.in_ok-signs.field-0.forest in
    let whole = subst IsForest c.forest.view_is c.forest.invariant in
    let names = c.in_ok-name.ensures in
    let counted = c.in_ok-kept.ensures in
    let trees = counted.trees in
    let name = c.as_bytes.ensures.bytes ∙ names.name in
    let signs = c.as_slice-5.ensures.value in
    let kept = c.as_slice-2.ensures.value in
    let levels = c.as_slice-7.ensures.value in
    let complements = c.as_slice-8.ensures.value in
    let pins = c.as_slice-4.ensures.value ∙ names.pins in
    let outs = c.as_slice-9.ensures.value ∙ names.outs in
    let starts = c.as_slice-10.ensures.value ∙ names.starts in
    let are = subst (λ k. AreRootTrees forest k trees) (sym kept) counted.chosen.plan.trees_are in
    let same = c.in_ok-text.ensures.two version trees are
    ∙ (λ i. grouped_deck_text (name i) (signed_phases (outs i) (starts i) (signs i)) options.phases (pins i) (outs i)
    (card_groups options.style (pins i) (outs i) (starts i) (cells_of options.phases (levels i) trees) (complements i) (map (end_at_cell (kept i)) forest.ends))) in
    subst (IsChosenCellText network options) (sym same)
    (cells_are_whole network is names.names options c.in_ok-signs.field-0.signs.items forest c.in_ok-signs.ensures whole c.requires.few_wide c.requires.few_high
    c.requires.some_phase c.requires.few_phases c.in_ok-kept.field-0.kept.items trees c.in_ok-kept.field-0.levels.items c.in_ok-kept.field-0.complements.items
    counted.chosen counted.levels_are counted.complements_are (subst IsNetName names.name names.plain))
