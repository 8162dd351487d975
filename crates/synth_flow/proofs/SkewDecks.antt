-- The deck that is made of buffered plans is the network's deck with chains of buffers.
use Rattle.std.proofs.Common.{◌≡◌, ℕ, ◌+◌, ◌*◌, ◌≤◌, ◌<◌, Bool, List, Some, [], ◌∷◌, All, ap, arith, length, map, refl, slice_get, subst, sym, ◌∙◌}
use Rattle.std.proofs.lemmas.List.{length-map}
use Rattle.std.proofs.lemmas.List.Elements.{All-from_recursion, recursion_from_All}
use Rattle.std.proofs.lemmas.List.Sums.{sum_by-cons}
use Rattle.clock_phase.specs.Plans.{CellPlan, ReadEarlierCells, cell_plan, trees_of}
use Rattle.deck_form.specs.ChosenDecks.{planned}
use Rattle.deck_form.specs.DeckNets.{SinkEnd}
use Rattle.deck_form.specs.DominoDecks.{cells_of, deck_circuit}
use Rattle.deck_form.specs.NamedDecks.{IsEndIn}
use Rattle.deck_form.proofs.DeckForms.{planned_deck}
use Rattle.domino_cell.specs.declared.style.Style.TheVariants.{Keeper as WithKeeper}
use Rattle.dual_rail.specs.ForestData.{ForestData}
use Rattle.dual_rail.specs.Uses.{IsEndThere}
use Rattle.dual_rail.specs.declared.forest.End.{End}
use Rattle.gate_decompose.specs.Sinks.{leaf_count}
use Rattle.network.specs.NetworkData.{NetworkData}
use Rattle.sp_network.specs.Tree.{EachLeaf, Tree, leaves}
use Rattle.sp_network.specs.TypedTree.{tree_of}
use Rattle.sp_network.specs.declared.plan.GatePlan.{GatePlan}
use Rattle.style_costs.specs.Styles.{cost_in, costs_of}
use Rattle.tree_map.specs.MappedCover.{plan_trees}
use Rattle.tree_map.specs.Plans.{tree_cost_by}
use Rattle.phase_buffer.specs.BufferedPlans.{AreBuffered, DeckPlan, HaveClocksUpTo, plan_cells, plan_of_gates}
use Rattle.phase_buffer.specs.Chains.{end_at, with_chains}
use Rattle.phase_buffer.specs.Sizes.{plan_devices}
use Rattle.phase_buffer.proofs.PlanReaders.{plans_read_earlier}
use Rattle.phase_buffer.proofs.PlanSizes.{plans_few, plans_small}
use Rattle.synth_flow.specs.BareDecks.{ArePlans}
use Rattle.synth_flow.specs.BufferedDecks.{buffered_circuit, cells_taken, new_end, plan_of, renumbered}
use Rattle.synth_flow.specs.MadeCircuits.{made_deck}
use Rattle.synth_flow.specs.SinkParts.{end_in}
use Rattle.synth_flow.specs.TakenCells.{AreTaken}
use Rattle.synth_flow.proofs.ClockedCovers.{NetworkCover, cells_are, cheap_plans, clocks_are_few, deck_in, each_reads_earlier, ends_are, ends_at, few_plans, is_deck_in, leaves_are}
use Rattle.synth_flow.proofs.MadeCircuits.{made_is_circuit}
use Rattle.synth_flow.proofs.SynthFacts.{read_earlier}
use Rattle.synth_flow.proofs.TakenCells.{few_so_far, taken_below}

-- what cells with keepers cost is how many devices they have
devices_are_cost : (plans : List GatePlan) → plan_devices (map cell_plan plans) ≡ cost_in WithKeeper (plan_trees plans)
devices_are_cost [] = refl
devices_are_cost (p ∷ plans) =
    let a = sum_by-cons (λ (c : CellPlan). leaves c.tree + 5) (cell_plan p) (map cell_plan plans) in
    let b = sum_by-cons (tree_cost_by (costs_of WithKeeper)) (tree_of p.tree) (plan_trees plans) in
    omega (arith, a, b, devices_are_cost plans)

module _ {network : NetworkData} {signs : List Bool} {forest : ForestData} {w h phases : ℕ} {kept : List Bool} {cells : List ℕ}
    {plans : List GatePlan} (m : NetworkCover network signs forest w h phases kept cells plans)
    (taken : List ℕ) (numbered : List End) (take : AreTaken cells forest.ends taken numbered) where
  abbrev trees : List (Tree ℕ)
  trees = plan_trees plans

  abbrev plan : DeckPlan
  plan = plan_of network phases trees m.cover.levels (ends_at m)

  taken_are : taken ≡ cells_taken (ends_at m)
  taken_are = take.taken_are ∙ ap cells_taken (ends_are m)

  -- sinks take from the cells of the plan
  pub taken_there : All (λ cell. cell < length plans) taken
  taken_there =
      let deck = planned (is_deck_in m WithKeeper (deck_in m WithKeeper) refl) in
      let place = m.whole.in_place in
      let there = (planned_deck network _ _ deck m.some_phase m.few_phases place.in_order place.has_leaves place.has_ends).ends_are in
      let below = taken_below (leaf_count network) (length trees) (ends_at m)
      (recursion_from_All (IsEndIn (leaf_count network) (length trees)) (ends_at m) there) in
      subst (λ n. All (λ cell. cell < n) taken) (length-map plans (λ (p : GatePlan). tree_of p.tree))
      (subst (All (λ cell. cell < length trees)) (sym taken_are)
      (All-from_recursion (λ cell. cell < length trees) (cells_taken (ends_at m)) below))

  few_cells_taken : length taken ≤ 8192
  few_cells_taken = omega (arith, few_so_far cells forest.ends taken numbered take, m.whole.few_ends)

  pub one_end : length numbered ≡ length forest.ends
  one_end =
      let same = ap length (take.names (λ n. n)) in
      omega (
        arith,
        same,
        length-map numbered (end_in (map (λ n. n) taken)),
        length-map (map (end_in cells) forest.ends) (renumbered (λ n. n)),
        length-map forest.ends (end_in cells),
      )

  module _ (new : List GatePlan) (place last : List ℕ) (b : AreBuffered forest.leaves phases plans taken new place last) where
    plan_is : plan_of_gates forest.leaves phases plans taken ≡ plan
    plan_is = λ i. record { leaves = leaves_are m i; clocks = phases; cells = cells_are m i; sinks = taken_are i }

    reads : HaveClocksUpTo phases new × ReadEarlierCells forest.leaves (trees_of new)
    reads =
        plans_read_earlier forest.leaves phases plans taken new place last m.few_phases (clocks_are_few m) (each_reads_earlier m) b

    pub new_clocks : HaveClocksUpTo phases new
    new_clocks = reads.0

    pub new_plans : ArePlans WithKeeper (leaf_count network) new
    new_plans =
        let old_few = few_plans m in
        let old_cheap = cheap_plans m WithKeeper in
        let count = plans_few forest.leaves phases plans taken new place last m.few_phases (clocks_are_few m) b in
        let devices = plans_small forest.leaves phases plans taken new place last m.few_phases (clocks_are_few m) b in
        record {
          few = omega (arith, count, old_few, few_cells_taken);
          cheap = omega (arith, devices, devices_are_cost new, devices_are_cost plans, old_cheap, old_few, few_cells_taken);
          earlier = subst (λ n. (k : ℕ) (p : GatePlan) → slice_get new k ≡ Some p → EachLeaf (λ gate. gate < 2 * n + k) (tree_of p.tree))
              (leaves_are m) (read_earlier forest.leaves (plan_trees new) new refl reads.1);
        }

    pub new_ends_there : All (IsEndThere (length last)) numbered
    new_ends_there =
        let same = ap length b.ends_are in
        let count : length last ≡ length taken =
        omega (arith, same, length-map taken (end_at (plan_cells (plan_of_gates forest.leaves phases plans taken)))) in
        subst (λ n. All (IsEndThere n) numbered) (sym count) take.there

    new_ends : map (end_in last) numbered ≡ map (new_end plan) (ends_at m)
    new_ends =
        let number = end_at (plan_cells (plan_of_gates forest.leaves phases plans taken)) in
        ap (λ l. map (end_in l) numbered) b.ends_are ∙ take.names number ∙ ap (map (renumbered number)) (ends_are m)
        ∙ ap (λ (q : DeckPlan). map (new_end q) (ends_at m)) plan_is

    new_cells : map cell_plan new ≡ with_chains (plan_cells plan) 0 plan.cells
    new_cells = b.cells_are ∙ ap (λ (q : DeckPlan). with_chains (plan_cells q) 0 q.cells) plan_is

    pub is_buffered_circuit : made_deck WithKeeper network phases signs new numbered last
        ≡ buffered_circuit network phases signs (ends_at m) plan
    is_buffered_circuit =
        made_is_circuit WithKeeper network phases signs new numbered last new_plans.earlier
        ∙ (λ i. deck_circuit WithKeeper network phases (new_cells i) signs (new_ends i))
