-- What the chosen cover of a network's forest, with the clocks of its cells, says of the plans and the ends of its deck.
use Rattle.std.proofs.Common.{◌≡◌, ℕ, ◌+◌, ◌*◌, ◌≤◌, Bool, List, All, ap, arith, length, map, refl, subst, sym, ◌∙◌}
use Rattle.std.proofs.lemmas.List.{length-map}
use Rattle.std.proofs.lemmas.List.Elements.{recursion_from_All}
use Rattle.std.proofs.lemmas.List.FromFn.{length-map-range_with_len}
use Rattle.clock_phase.specs.Levels.{AreLevels, clock_of, greatest}
use Rattle.clock_phase.specs.Plans.{ReadEarlierCells, cell_plan}
use Rattle.deck.specs.CircuitData.{CircuitData}
use Rattle.deck_form.specs.ChosenDecks.{IsDeckOfSigns, end_at_cell}
use Rattle.deck_form.specs.DeckNets.{CellPlan, SinkEnd}
use Rattle.deck_form.specs.DeckOptions.{DeckOptions}
use Rattle.deck_form.specs.DominoDecks.{cells_of, deck_circuit}
use Rattle.domino_cell.specs.declared.style.Style.{Style}
use Rattle.dual_rail.specs.ForestData.{ForestData}
use Rattle.dual_rail.specs.ForestOrder.{IsForest}
use Rattle.dual_rail.specs.Forests.{IsForestOf}
use Rattle.dual_rail.specs.Uses.{IsEndThere}
use Rattle.gate_decompose.specs.GateNodes.{AreGatesOf}
use Rattle.gate_decompose.specs.GatesData.{GatesData}
use Rattle.gate_decompose.specs.Sinks.{leaf_count}
use Rattle.network.specs.NetworkData.{NetworkData}
use Rattle.sp_network.specs.TypedTree.{tree_of}
use Rattle.sp_network.specs.declared.plan.GatePlan.{GatePlan}
use Rattle.style_costs.specs.Styles.{cost_in}
use Rattle.tree_map.specs.MappedCover.{plan_trees}
use Rattle.tree_map.specs.Plans.{cell_of}
use Rattle.synth_flow.specs.BareDecks.{ArePlans}
use Rattle.synth_flow.specs.ClockedPlans.{IsClockedCover}
use Rattle.synth_flow.specs.MadeCircuits.{made_deck}
use Rattle.synth_flow.specs.SinkParts.{end_in}
use Rattle.synth_flow.proofs.MadeCircuits.{cells_same, ends_same, made_is_circuit}
use Rattle.synth_flow.proofs.SynthFacts.{cheap_trees, clocks_fit, ends_have_cells, few_trees, plans_are, reads_earlier}

-- the chosen cover of the forest of a network's gates under signs, with the clocks of its cells
pub record NetworkCover (network : NetworkData) (signs : List Bool) (forest : ForestData) (w h phases : ℕ) (kept : List Bool)
    (cells : List ℕ) (plans : List GatePlan) : Type 0 where
  pub gates : GatesData
  pub are_gates : AreGatesOf network gates
  pub is_forest : IsForestOf gates signs forest
  pub whole : IsForest forest
  pub some_phase : 1 ≤ phases
  pub few_phases : phases ≤ 4
  pub cover : IsClockedCover forest w h phases kept cells plans

module _ {network : NetworkData} {signs : List Bool} {forest : ForestData} {w h phases : ℕ} {kept : List Bool} {cells : List ℕ}
    {plans : List GatePlan} (m : NetworkCover network signs forest w h phases kept cells plans) where
  pub leaves_are : forest.leaves ≡ leaf_count network
  leaves_are = m.is_forest.leaves_are ∙ m.are_gates.leaves_are

  -- the ends of the sinks by the numbers of their cells
  abbrev pub ends_at : List SinkEnd
  ends_at = map (end_at_cell kept) forest.ends

  pub each_reads_earlier : ReadEarlierCells forest.leaves (plan_trees plans)
  each_reads_earlier = reads_earlier forest kept w h (plan_trees plans) m.cover.chosen.plan m.whole

  few_cells : length (plan_trees plans) ≤ 800000
  few_cells = few_trees forest kept w h (plan_trees plans) m.cover.chosen.plan m.whole

  pub few_plans : length plans ≤ 800000
  few_plans = omega (arith, few_cells, length-map plans (λ (p : GatePlan). tree_of p.tree))

  pub cheap_plans : (style : Style) → cost_in style (plan_trees plans) ≤ 5600000
  cheap_plans = cheap_trees forest kept w h (plan_trees plans) m.cover.chosen.plan m.whole

  pub are_plans : (style : Style) → ArePlans style (leaf_count network) plans
  are_plans style =
      subst (λ n. ArePlans style n plans) leaves_are
      (plans_are style forest.leaves (plan_trees plans) plans refl each_reads_earlier few_cells (cheap_plans style))

  pub clocks_are_few : All (λ (p : GatePlan). (1 ≤ p.clock) × (p.clock ≤ phases)) plans
  clocks_are_few = clocks_fit forest.leaves phases (plan_trees plans) m.cover.levels plans m.some_phase m.cover.levels_are m.cover.clocks_are

  cells_count : length cells ≡ length forest.pairs
  cells_count =
      ap length m.cover.cells_are ∙ length-map-range_with_len (cell_of kept) 0 (length kept) ∙ m.cover.chosen.plan.one_each

  pub ends_there : All (IsEndThere (length cells)) forest.ends
  ends_there = ends_have_cells forest (length cells) cells_count m.whole.in_place.has_ends

  pub cells_are : map cell_plan plans ≡ cells_of phases m.cover.levels (plan_trees plans)
  cells_are = cells_same (clock_of phases (greatest m.cover.levels)) plans m.cover.levels m.cover.clocks_are

  pub ends_are : map (end_in cells) forest.ends ≡ ends_at
  ends_are =
      let there = ends_have_cells forest (length kept) m.cover.chosen.plan.one_each m.whole.in_place.has_ends in
      ap (λ l. map (end_in l) forest.ends) m.cover.cells_are
      ∙ ends_same kept forest.ends (recursion_from_All (IsEndThere (length kept)) forest.ends there)

  -- the deck of the cover
  abbrev pub options_in : Style → DeckOptions
  options_in style = record { width = w; height = h; phases = phases; style = style }

  abbrev pub deck_in : Style → CircuitData
  deck_in style = deck_circuit style network phases (cells_of phases m.cover.levels (plan_trees plans)) signs ends_at

  abbrev pub is_deck_in : (style : Style) (circuit : CircuitData) → circuit ≡ deck_in style
      → IsDeckOfSigns (λ g s. (g ≡ m.gates) × (s ≡ signs)) network (options_in style) circuit
  is_deck_in style circuit same = record {
    gates = m.gates;
    signs = signs;
    forest = forest;
    kept = kept;
    trees = plan_trees plans;
    levels = m.cover.levels;
    are_gates = m.are_gates;
    are_chosen = (refl, refl);
    is_forest = m.is_forest;
    is_chosen_plan = m.cover.chosen;
    levels_are = subst (λ n. AreLevels n (plan_trees plans) m.cover.levels) leaves_are m.cover.levels_are;
    circuit_is = same;
  }

  pub made_is_in : (style : Style) → made_deck style network phases signs plans forest.ends cells ≡ deck_in style
  made_is_in style =
      made_is_circuit style network phases signs plans forest.ends cells (are_plans style).earlier
      ∙ (λ i. deck_circuit style network phases (cells_are i) signs (ends_are i))
