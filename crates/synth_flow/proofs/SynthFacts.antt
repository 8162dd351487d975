-- What the chosen plan of a forest says of the plans of a deck.
pub use Rattle.plan_text.proofs.SinkLoops.{ends_have_cells}
use Rattle.std.proofs.Common.{◌≡◌, ℕ, ◌+◌, ◌*◌, ◌≤◌, ◌<◌, Bool, not, List, Some, length, map, sym, ap, ◌∙◌, subst, arith, slice_get, get_or, option_map, All}
use Rattle.std.specs.List.{range_with_len}
use Rattle.std.proofs.lemmas.List.{length-map}
use Rattle.std.proofs.lemmas.List.FromFn.{length-range_with_len}
use Rattle.std.proofs.lemmas.Option.{slice_get-map, slice_get_within, slice_get-get_or}
use Rattle.dual_rail.specs.ForestData.{ForestData}
use Rattle.dual_rail.specs.ForestOrder.{IsForest}
use Rattle.dual_rail.proofs.Zips.{all_zip_back, all_from}
use Rattle.domino_cell.specs.declared.style.Style.{Style}
use Rattle.sp_network.specs.Tree.{Tree, EachLeaf, Leaf}
use Rattle.sp_network.specs.TypedTree.{tree_of}
use Rattle.sp_network.specs.declared.plan.GatePlan.{GatePlan}
use Rattle.clock_phase.specs.Levels.{AreLevels, clock_of, greatest}
use Rattle.clock_phase.specs.Plans.{ReadEarlierCells}
use Rattle.clock_phase.proofs.Levels.{clock_within, level_at_most}
use Rattle.network.proofs.Lists.{get_of_map}
use Rattle.tree_map.specs.MappedCover.{plan_trees}
use Rattle.tree_map.specs.Plans.{IsPlan, IsTreeOf, is_kept, roots}
use Rattle.style_costs.specs.Styles.{cost_in}
use Rattle.synth_flow.proofs.PlanCosts.{cost_at_most}
use Rattle.synth_flow.specs.BareDecks.{ArePlans}
use Rattle.deck_form.proofs.CellOrder.{root_of_cell, tree_reads}
use Rattle.deck_form.proofs.DeckForms.{all_zip_length}
use Rattle.synth_flow.proofs.PushedDecks.{few_filtered}

module _ (forest : ForestData) (kept : List Bool) (w h : ℕ) (trees : List (Tree ℕ)) (plan : IsPlan forest w h kept trees) (is : IsForest forest) where
  -- each cell reads cells before it
  pub reads_earlier : ReadEarlierCells forest.leaves trees
  reads_earlier k tree at =
      let r = all_zip_back (IsTreeOf forest kept) (roots kept) trees k tree plan.trees_are at in
      let root = root_of_cell kept k r.0 r.1 in
      let low = tree_reads forest kept is.in_place.in_order is.in_place.has_leaves r.0 (omega (arith, root.2)) tree r.2 in
      subst (λ n. EachLeaf (λ gate. gate < 2 * forest.leaves + n) tree) root.0 low

  pub few_trees : length trees ≤ 800000
  few_trees =
      let same = all_zip_length (IsTreeOf forest kept) (roots kept) trees plan.trees_are in
      let few = few_filtered (λ place. not (is_kept kept place)) (range_with_len 0 (length kept)) in
      omega (arith, same, few, length-range_with_len 0 (length kept), plan.one_each, is.few_pairs)

  pub cheap_trees : (style : Style) → cost_in style trees ≤ 5600000
  cheap_trees style = omega (arith, cost_at_most forest kept w h trees plan is.in_place.in_order style, is.few_pairs)

-- the plans of these trees
pub read_earlier : (leaves : ℕ) (trees : List (Tree ℕ)) (plans : List GatePlan) → plan_trees plans ≡ trees → ReadEarlierCells leaves trees
    → (k : ℕ) (p : GatePlan) → slice_get plans k ≡ Some p → EachLeaf (λ gate. gate < 2 * leaves + k) (tree_of p.tree)
read_earlier leaves trees plans same earlier k p at =
    earlier k (tree_of p.tree)
    (ap (λ l. slice_get l k) (sym same) ∙ slice_get-map (λ (q : GatePlan). tree_of q.tree) plans k ∙ ap (option_map (λ (q : GatePlan). tree_of q.tree)) at)

pub plans_are : (style : Style) (leaves : ℕ) (trees : List (Tree ℕ)) (plans : List GatePlan) → plan_trees plans ≡ trees → ReadEarlierCells leaves trees → length trees ≤ 800000 → cost_in style trees ≤ 5600000 → ArePlans style leaves plans
plans_are style leaves trees plans same earlier few cheap = record {
  few = omega (arith, ap length same, length-map plans (λ (p : GatePlan). tree_of p.tree), few);
  cheap = omega (arith, ap (cost_in style) same, cheap);
  earlier = read_earlier leaves trees plans same earlier;
}

-- the clocks of levels are among those of the deck
pub clocks_fit : (leaves phases : ℕ) (trees : List (Tree ℕ)) (levels : List ℕ) (plans : List GatePlan) → 1 ≤ phases → AreLevels leaves trees levels
    → map (λ (p : GatePlan). p.clock) plans ≡ map (clock_of phases (greatest levels)) levels → All (λ (p : GatePlan). (1 ≤ p.clock) × (p.clock ≤ phases)) plans
clocks_fit leaves phases trees levels plans some is same =
    all_from (λ (p : GatePlan). (1 ≤ p.clock) × (p.clock ≤ phases)) plans
    (λ k p at.
    let here = ap (λ l. slice_get l k) (sym same) ∙ slice_get-map (λ (q : GatePlan). q.clock) plans k ∙ ap (option_map (λ (q : GatePlan). q.clock)) at in
    let level = get_of_map (clock_of phases (greatest levels)) levels k p.clock here in
    let within = slice_get_within levels k level.0 level.1 in
    let tree = slice_get-get_or trees k (Leaf 0) (omega (arith, is.one_each, within)) in
    let from_one = is.levels_are k (get_or trees k (Leaf 0)) level.0 tree level.1 in
    subst (λ n. (1 ≤ n) × (n ≤ phases)) level.2 (clock_within phases (greatest levels) level.0 some (omega (arith, from_one)) (level_at_most levels k level.0 level.1)))

pub ruleset synth_facts = (reads_earlier, few_trees, cheap_trees, plans_are, clocks_fit)
