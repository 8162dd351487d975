-- What the chosen cover of a network's forest with compound roots, with the clocks of its cells, says of the plans and the ends of its deck.
use Rattle.std.specs.List.{AllByRecursion, range_with_len}
use Rattle.std.proofs.Common.{◌≡◌, ℕ, ◌+◌, ◌*◌, ◌≤◌, ◌<◌, Bool, true, false, cond, List, [], ◌∷◌, ◌∙◌, All, None, Option, Some, ap, arith, filter, get_or, length, map, option_map, refl, slice_get, subst, sym, zip}
use Rattle.std.proofs.lemmas.List.{length-map}
use Rattle.std.proofs.lemmas.List.Elements.{recursion_from_All}
use Rattle.std.proofs.lemmas.List.FromFn.{length-map-range_with_len}
use Rattle.std.proofs.lemmas.Option.{slice_get-get_or, slice_get-map, slice_get_within}
use Rattle.dom_base.proofs.Lists.{head_same, tail_same}
use Rattle.deck.specs.Nets.{net_name}
use Rattle.network.specs.NetworkData.{NetworkData}
use Rattle.network.proofs.Lists.{get_of_map}
use Rattle.sp_network.specs.Tree.{Leaf, Tree}
use Rattle.clock_phase.specs.Levels.{clock_of, greatest}
use Rattle.clock_phase.specs.Plans.{ReadEarlierCells}
use Rattle.clock_phase.proofs.Greatest.{each_leaf_weaker}
use Rattle.clock_phase.proofs.Levels.{clock_within, level_at_most}
use Rattle.dual_rail.specs.ForestData.{ForestData}
use Rattle.dual_rail.specs.ForestOrder.{AreInOrder, IsForest}
use Rattle.dual_rail.specs.Forests.{IsForestOf}
use Rattle.dual_rail.specs.Uses.{IsEndThere}
use Rattle.dual_rail.specs.declared.forest.Arm.{Arm}
use Rattle.dual_rail.specs.declared.forest.Arm.TheVariants.{Literal, Pair as pair_arm}
use Rattle.dual_rail.specs.declared.forest.Pair.{Pair}
use Rattle.dual_rail.specs.declared.forest.Pair.TheVariants.{And, Or}
use Rattle.dual_rail.proofs.Zips.{all_from}
use Rattle.gate_decompose.specs.GateNodes.{AreGatesOf}
use Rattle.gate_decompose.specs.GatesData.{GatesData}
use Rattle.gate_decompose.specs.Sinks.{leaf_count}
use Rattle.tree_map.specs.Plans.{cell_of}
use Rattle.compound_plan.specs.OrdinaryPlans as ordinary
use Rattle.compound_plan.specs.PlanTrees.{is_kept}
use Rattle.compound_plan.specs.Plans.{CellTrees, IsPlan, compound_costs, cost}
use Rattle.compound_plan.proofs.PlanCosts.{arm_leaf, own_cost, pair_part, plan_cost}
use Rattle.compound_plan.proofs.Totals.{total_constant, total_le}
use Rattle.compound_cell.specs.CompoundCells.{whole_tree}
use Rattle.compound_plan.specs.CellPlans.{clock_of as plan_clock, trees_of}
use Rattle.compound_plan.specs.declared.cell_plan.CellPlan.{CellPlan}
use Rattle.deck_form.specs.ChosenDecks.{end_at_cell}
use Rattle.deck_form.specs.DeckNets.{SinkEnd, named_gate}
use Rattle.deck_form.specs.DominoDecks.{complements_of, pins_of}
use Rattle.deck_form.specs.NamedDecks.{names_complement}
use Rattle.synth_flow.specs.BareDecks.{gate_nets, named_leaves}
use Rattle.synth_flow.specs.SinkParts.{end_in}
use Rattle.synth_flow.proofs.BareDecks.{gate_net}
use Rattle.synth_flow.proofs.MadeAsNamed.{leaves_named}
use Rattle.synth_flow.proofs.MadeCircuits.{cells_same, ends_same}
use Rattle.synth_flow.proofs.SynthFacts.{ends_have_cells, few_trees, reads_earlier}
use Rattle.compound_law.specs.CompoundDecks.{clocked, whole_cells}
use Rattle.compound_law.proofs.WholePlans.{bounds, whole_plan}
use Rattle.compound_flow.specs.ClockedCells.{IsClockedCells}
use Rattle.compound_flow.specs.MadeCells.{AreCompoundPlans, plain_cells}
use Rattle.tree_map.specs.CompoundCover.{cell_trees}
use Rattle.compound_flow.specs.WholePlans.{plan_clocks}
use Rattle.compound_flow.proofs.CompoundDecks.{HasNets}
use Rattle.compound_flow.proofs.DeckGroups.{whole_at}

-- each plan with the clock of its level
plain_clocked : (f : ℕ → ℕ) (plans : List CellPlan) (levels : List ℕ) → plan_clocks plans ≡ map f levels
    → plain_cells plans ≡ map (λ (p : CellTrees × ℕ). (p.0, f p.1)) (zip (cell_trees plans) levels)
plain_clocked f [] [] e = refl
plain_clocked f [] (l ∷ levels) e = absurd (cc)
plain_clocked f (p ∷ plans) [] e = absurd (cc)
plain_clocked f (p ∷ plans) (l ∷ levels) e =
    let clock = head_same e in
    let rest = plain_clocked f plans levels (tail_same e) in
    λ i. (trees_of p, clock i) ∷ rest i

clock_at : (plans : List CellPlan) (k : ℕ) (cell : CellTrees × ℕ) → slice_get (plain_cells plans) k ≡ Some cell → slice_get (plan_clocks plans) k ≡ Some cell.1
clock_at plans k cell at =
    let p = get_of_map (λ q. (trees_of q, plan_clock q)) plans k cell at in
    slice_get-map plan_clock plans k ∙ ap (option_map plan_clock) p.1 ∙ ap (λ (c : CellTrees × ℕ). Some c.1) p.2

-- a pair adds at most 11 to the cost of a plan
module _ (forest : ForestData) (kept split : List Bool) (order : AreInOrder forest.pairs) where
  root_low : (k s : Bool) → cond k 0 (cond s 8 4) ≤ 8
  root_low true s = omega arith
  root_low false true = omega arith
  root_low false false = omega arith

  kept_low : (k : Bool) → cond k 0 1 ≤ 1
  kept_low true = omega arith
  kept_low false = omega arith

  arm_low : (arm : Arm) → arm_leaf compound_costs forest kept split order arm ≤ 1
  arm_low (Literal rail) = omega arith
  arm_low (pair_arm place) = kept_low (is_kept kept place)

  pair_low : (pair : Option Pair) → pair_part compound_costs forest kept split order pair ≤ 3
  pair_low None = omega arith
  pair_low (Some (And a b)) = omega (arith, arm_low a, arm_low b)
  pair_low (Some (Or a b)) = omega (arith, arm_low a, arm_low b)

  own_low : (p : ℕ) → own_cost compound_costs forest kept split order p ≤ 11
  own_low p = omega (arith, root_low (is_kept kept p) (is_kept split p), pair_low (slice_get forest.pairs p))

  cost_low : (w h : ℕ) (cells : List CellTrees) → IsPlan compound_costs forest w h kept split cells → cost compound_costs cells ≤ 11 * length forest.pairs
  cost_low w h cells plan =
      let own = own_cost compound_costs forest kept split order in
      omega (
        arith,
        plan_cost compound_costs forest kept split order w h cells plan,
        total_le own (λ q. 11) 0 (length forest.pairs) (λ q low high. own_low q),
        total_constant 11 0 (length forest.pairs),
      )

-- of whole trees: a plan within bounds that are wide and high enough
module _ (forest : ForestData) (is : IsForest forest) (w h : ℕ) (kept split : List Bool) (trees : List CellTrees) (plan : IsPlan compound_costs forest w h kept split trees) where
  abbrev wholes : List (Tree ℕ)
  wholes = map whole_tree trees

  whole_is : ordinary.IsPlan forest (bounds wholes).w (bounds wholes).h kept wholes
  whole_is = whole_plan compound_costs forest w h kept split trees plan

  -- each cell reads cells before it
  pub wholes_read_earlier : ReadEarlierCells forest.leaves wholes
  wholes_read_earlier = reads_earlier forest kept (bounds wholes).w (bounds wholes).h wholes whole_is is

  pub few_wholes : length wholes ≤ 800000
  few_wholes = few_trees forest kept (bounds wholes).w (bounds wholes).h wholes whole_is is

-- the cells of the chosen cover of the forest of a network's gates under signs
pub record NetworkCells (network : NetworkData) (signs : List Bool) (forest : ForestData) (w h phases : ℕ) (cells : List ℕ) (plans : List CellPlan)
    (complements : List ℕ) : Type 0 where
  pub gates : GatesData
  pub are_gates : AreGatesOf network gates
  pub is_forest : IsForestOf gates signs forest
  pub whole : IsForest forest
  pub some_phase : 1 ≤ phases
  pub few_phases : phases ≤ 4
  pub cover : IsClockedCells forest w h phases cells plans complements

module _ {network : NetworkData} {signs : List Bool} {forest : ForestData} {w h phases : ℕ} {cells : List ℕ} {plans : List CellPlan} {complements : List ℕ}
    (m : NetworkCells network signs forest w h phases cells plans complements) where
  abbrev pub trees : List CellTrees
  trees = cell_trees plans

  pub leaves_are : forest.leaves ≡ leaf_count network
  leaves_are = m.is_forest.leaves_are ∙ m.are_gates.leaves_are

  count : length plans ≤ 800000
  count =
      let few = few_wholes forest m.whole w h m.cover.kept m.cover.split trees m.cover.chosen.plan in
      omega (arith, few, length-map trees whole_tree, length-map plans trees_of)

  pub are_plans : AreCompoundPlans (leaf_count network) plans
  are_plans = record {
    few = count;
    cheap = omega (arith, cost_low forest m.cover.kept m.cover.split m.whole.in_place.in_order w h trees m.cover.chosen.plan, m.whole.few_pairs);
    earlier = subst (λ n. ReadEarlierCells n (map whole_tree trees)) leaves_are
        (wholes_read_earlier forest m.whole w h m.cover.kept m.cover.split trees m.cover.chosen.plan);
  }

  -- the clocks of levels are among those of the deck
  pub clocks_are_few : All (λ (cell : CellTrees × ℕ). (1 ≤ cell.1) × (cell.1 ≤ phases)) (plain_cells plans)
  clocks_are_few =
      let levels = m.cover.levels in
      all_from (λ (cell : CellTrees × ℕ). (1 ≤ cell.1) × (cell.1 ≤ phases)) (plain_cells plans)
      (λ k cell at.
      let here = ap (λ l. slice_get l k) (sym m.cover.clocks_are) ∙ clock_at plans k cell at in
      let level = get_of_map (clock_of phases (greatest levels)) levels k cell.1 here in
      let within = slice_get_within levels k level.0 level.1 in
      let tree = slice_get-get_or (map whole_tree trees) k (Leaf 0) (omega (arith, m.cover.levels_are.one_each, within)) in
      let from_one = m.cover.levels_are.levels_are k (get_or (map whole_tree trees) k (Leaf 0)) level.0 tree level.1 in
      subst (λ n. (1 ≤ n) × (n ≤ phases)) level.2 (clock_within phases (greatest levels) level.0 m.some_phase (omega (arith, from_one)) (level_at_most levels k level.0 level.1)))

  cells_count : length cells ≡ length forest.pairs
  cells_count = ap length m.cover.cells_are ∙ length-map-range_with_len (cell_of m.cover.kept) 0 (length m.cover.kept) ∙ m.cover.chosen.plan.one_each

  pub ends_there : All (IsEndThere (length cells)) forest.ends
  ends_there = ends_have_cells forest (length cells) cells_count m.whole.in_place.has_ends

  -- the ends of the sinks by the numbers of their cells
  abbrev pub ends_at : List SinkEnd
  ends_at = map (end_at_cell m.cover.kept) forest.ends

  pub ends_are : map (end_in cells) forest.ends ≡ ends_at
  ends_are =
      let there = ends_have_cells forest (length m.cover.kept) m.cover.chosen.plan.one_each m.whole.in_place.has_ends in
      ap (λ l. map (end_in l) forest.ends) m.cover.cells_are
      ∙ ends_same m.cover.kept forest.ends (recursion_from_All (IsEndThere (length m.cover.kept)) forest.ends there)

  pub cells_are : plain_cells plans ≡ clocked phases m.cover.levels trees
  cells_are = plain_clocked (clock_of phases (greatest m.cover.levels)) plans m.cover.levels m.cover.clocks_are

  -- the complements that the whole trees name
  pub complements_are : complements ≡ complements_of network (whole_cells phases m.cover.levels trees) ends_at
  complements_are =
      let f = clock_of phases (greatest m.cover.levels) in
      let wholes = m.cover.wholes in
      let plain = cells_same f wholes m.cover.levels m.cover.whole_clocks
      ∙ ap (λ (l : List (Tree ℕ)). map (λ (p : Tree ℕ × ℕ). record { tree = p.0; clock = f p.1 }) (zip l m.cover.levels)) m.cover.wholes_are in
      m.cover.complements_are
      ∙ ap (named_leaves wholes forest.ends) leaves_are
      ∙ leaves_named wholes forest.ends cells (leaf_count network)
      ∙ (λ i. filter (names_complement (plain i) (ends_are i)) (range_with_len 0 (leaf_count network)))

  -- which are leaves that pass a test, in order
  pub tested : (test : ℕ → Bool) × (complements ≡ filter test (range_with_len 0 (leaf_count network)))
  tested = (names_complement (whole_cells phases m.cover.levels trees) ends_at, complements_are)

  -- the gates of the cells have their nets
  pub have_nets : (lc : ℕ) → lc ≡ leaf_count network
      → AllByRecursion (HasNets (gate_nets (pins_of network) lc (2 * lc + length (plain_cells plans))) (pins_of network) lc) (plain_cells plans)
  have_nets lc same =
      let pins = pins_of network in
      let n : ℕ = 2 * lc + length (plain_cells plans) in
      recursion_from_All (HasNets (gate_nets pins lc n) pins lc) (plain_cells plans)
      (all_from (HasNets (gate_nets pins lc n) pins lc) (plain_cells plans)
      (λ k cell at. let lt = slice_get_within (plain_cells plans) k cell at in
      each_leaf_weaker (λ gate. gate < 2 * leaf_count network + k) (λ gate. net_name (gate_nets pins lc n) gate ≡ named_gate pins lc gate)
      (λ gate low. gate_net pins lc n gate (omega (arith, lt, low, same))) (whole_tree cell.0) (are_plans.earlier k (whole_tree cell.0) (whole_at plans k cell at))))
