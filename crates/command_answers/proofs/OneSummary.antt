-- The figures of the circuit that synthesis gives of a network are one.
use Rattle.std.proofs.Common.{◌≡◌, ◌∙◌, sym, subst, length}
use Rattle.std.specs.Prelude.{not}
use Rattle.std.specs.List.{count_by}
use Rattle.clock_phase.specs.Levels.{AreLevels, greatest}
use Rattle.deck.specs.CircuitData.{CircuitData}
use Rattle.dual_rail.specs.Forests.{IsForestOf}
use Rattle.dual_rail.proofs.ForestOrders.{forests_are_in_place}
use Rattle.gate_decompose.specs.Sinks.{leaf_count}
use Rattle.gate_decompose.proofs.GatesOrder.{network_gates_are_in_place}
use Rattle.gate_decompose.proofs.NetworkOrder.{networks_are_ordered}
use Rattle.network.specs.NetworkData.{NetworkData}
use Rattle.network.specs.Networks.{IsNetwork}
use Rattle.phase_assign.specs.Signs.{AreChosen}
use Rattle.phase_assign.proofs.ChosenSigns.{chosen_signs_one}
use Rattle.clock_phase.specs.Plans.{ReadEarlierCells}
use Rattle.plan_law.proofs.CellLevels.{levels_one}
use Rattle.plan_law.proofs.DecksThere.{plan_reads}
use Rattle.plan_law.proofs.OneDeck.{decks_one}
use Rattle.plan_law.proofs.OneForest.{forest_one}
use Rattle.plan_law.proofs.OneGates.{gates_one}
use Rattle.deck_form.specs.ChosenDecks.{IsChosenDeck}
use Rattle.deck_form.specs.AskedOptions.{deck_options}
use Rattle.deck_form.specs.DominoDecks.{cells_of}
use Rattle.synth_flow.specs.Summaries.{IsSummaryOf, both_nodes, clock_counts, figures}
use Rattle.synth_flow.specs.SummaryData.{SummaryData}
use Rattle.deck_form.specs.declared.options.SynthOptions.{SynthOptions}
use Rattle.tree_map.specs.LeastPlans.{IsChosenPlan}
use Rattle.style_costs.specs.Styles.{cost_in}
use Rattle.tree_map.proofs.PlanOne.{chosen_plan_one}

module _ (network : NetworkData) (is : IsNetwork network) (options : SynthOptions) where
  figures_one : (a b : CircuitData) (x : IsChosenDeck network (deck_options options) a) (y : IsChosenDeck network (deck_options options) b) → figures x ≡ figures y
  figures_one a b x y =
      let order = networks_are_ordered network is in
      let circuits : a ≡ b = decks_one network (deck_options options) a b is x y in
      let gates : x.gates ≡ y.gates = gates_one network order x.gates y.gates x.are_gates y.are_gates in
      let signs : x.signs ≡ y.signs = chosen_signs_one y.gates x.signs y.signs (subst (λ g. AreChosen g x.signs) gates x.are_chosen) y.are_chosen in
      let forest : x.forest ≡ y.forest =
      forest_one y.gates y.signs x.forest y.forest (subst (λ g. IsForestOf g y.signs x.forest) gates (subst (λ s. IsForestOf x.gates s x.forest) signs x.is_forest)) y.is_forest in
      let in_place = network_gates_are_in_place network y.gates order y.are_gates in
      let stands = forests_are_in_place y.gates y.signs y.forest in_place y.is_forest in
      let plan = chosen_plan_one y.forest options.bounds.w options.bounds.h x.kept y.kept x.trees y.trees stands.in_order
      (subst (λ f. IsChosenPlan f options.bounds.w options.bounds.h x.kept x.trees) forest x.is_chosen_plan) y.is_chosen_plan in
      let trees : x.trees ≡ y.trees = plan.1 in
      let leaves : (y.forest).leaves ≡ leaf_count network = (y.is_forest).leaves_are ∙ (y.are_gates).leaves_are in
      let below = subst (λ n. ReadEarlierCells n y.trees) leaves (plan_reads y.forest options.bounds.w options.bounds.h y.kept y.trees stands (y.is_chosen_plan).plan) in
      let levels : x.levels ≡ y.levels =
      levels_one (leaf_count network) y.trees below x.levels y.levels (subst (λ ts. AreLevels (leaf_count network) ts x.levels) trees x.levels_are) y.levels_are in
      λ i. record {
        inputs = network.inputs;
        outputs = length network.outputs;
        latches = length network.latches;
        pairs = length (forest i).pairs;
        both = length (both_nodes (forest i).origin (length (gates i).nodes));
        minus = count_by not (signs i);
        cells = length (trees i);
        levels = greatest (levels i);
        cost = cost_in options.style (trees i);
        devices = length (circuits i).devices;
        clocks = clock_counts options.phases (cells_of options.phases (levels i) (trees i));
      }

  pub summaries_one : (a b : SummaryData) → IsSummaryOf network options a → IsSummaryOf network options b → a ≡ b
  summaries_one a b x y = x.2 ∙ figures_one x.0 y.0 x.1 y.1 ∙ sym y.2
