-- A network has one deck of the chosen signs and the chosen plan with compound cells.
use Rattle.std.proofs.Common.{◌≡◌, ◌∙◌, ℕ, Bool, List, map, refl, subst, sym}
use Rattle.deck.specs.CircuitData.{CircuitData}
use Rattle.network.specs.NetworkData.{NetworkData}
use Rattle.network.specs.Networks.{IsNetwork}
use Rattle.gate_decompose.specs.GateNodes.{AreGatesOf}
use Rattle.gate_decompose.specs.GatesData.{GatesData}
use Rattle.gate_decompose.specs.Sinks.{leaf_count}
use Rattle.gate_decompose.proofs.GatesOrder.{gates_are_ordered, network_gates_are_in_place}
use Rattle.gate_decompose.proofs.NetworkOrder.{networks_are_ordered}
use Rattle.dual_rail.specs.ForestData.{ForestData}
use Rattle.dual_rail.specs.ForestOrder.{IsForestInPlace}
use Rattle.dual_rail.specs.Forests.{IsForestOf}
use Rattle.dual_rail.proofs.ForestOrders.{forests_are_in_place}
use Rattle.phase_assign.specs.Signs.{AreChosen}
use Rattle.phase_assign.proofs.ChosenSigns.{chosen_settled, chosen_signs_one, chosen_there}
use Rattle.clock_phase.specs.Levels.{AreLevels}
use Rattle.clock_phase.specs.Plans.{ReadEarlierCells}
use Rattle.compound_plan.specs.Plans.{CellTrees, IsChosenPlan, IsPlan, compound_costs}
use Rattle.compound_plan.proofs.PlanOne.{chosen_plan_one}
use Rattle.compound_plan.proofs.PlanThere.{chosen_plan_there}
use Rattle.deck_form.specs.ChosenDecks.{end_at_cell}
use Rattle.plan_law.proofs.CellLevels.{levels_one, levels_there}
use Rattle.plan_law.proofs.DecksThere.{gates_there, plan_reads}
use Rattle.plan_law.proofs.ForestThere.{forests_there}
use Rattle.plan_law.proofs.OneForest.{forest_one}
use Rattle.plan_law.proofs.OneGates.{gates_one}
use Rattle.compound_cell.specs.CompoundCells.{whole_tree}
use Rattle.compound_law.specs.CompoundDecks.{IsChosenDeck, deck_circuit}
use Rattle.compound_law.specs.Laws.{ChosenDecksAreOne, ChosenDecksAreThere}
use Rattle.compound_law.proofs.WholePlans.{bounds, whole_plan}

-- the whole trees of a plan read rails and cells before their own
wholes_read : (network : NetworkData) (forest : ForestData) (w h : ℕ) (kept split : List Bool) (cells : List CellTrees) → IsForestInPlace forest
    → forest.leaves ≡ leaf_count network → IsPlan compound_costs forest w h kept split cells → ReadEarlierCells (leaf_count network) (map whole_tree cells)
wholes_read network forest w h kept split cells stands leaves is =
    subst (λ n. ReadEarlierCells n (map whole_tree cells)) leaves
    (plan_reads forest (bounds (map whole_tree cells)).w (bounds (map whole_tree cells)).h kept (map whole_tree cells) stands (whole_plan compound_costs forest w h kept split cells is))

-- the deck of these parts
deck_of : (network : NetworkData) (w h phases : ℕ) (gates : GatesData) (signs : List Bool) (forest : ForestData) (kept split : List Bool)
    (cells : List CellTrees) (levels : List ℕ) → AreGatesOf network gates → AreChosen gates signs → IsForestOf gates signs forest
    → IsChosenPlan compound_costs forest w h kept split cells → AreLevels (leaf_count network) (map whole_tree cells) levels
    → (circuit : CircuitData) × IsChosenDeck network w h phases circuit
deck_of network w h phases gates signs forest kept split cells levels are_gates are_chosen is_forest is_plan levels_are = (
  deck_circuit network phases cells levels signs (map (end_at_cell kept) forest.ends),
  record {
    gates = gates;
    signs = signs;
    forest = forest;
    kept = kept;
    split = split;
    cells = cells;
    levels = levels;
    are_gates = are_gates;
    are_chosen = are_chosen;
    is_forest = is_forest;
    is_chosen_plan = is_plan;
    levels_are = levels_are;
    circuit_is = refl;
  },
)

pub decks_there : ChosenDecksAreThere
decks_there = λ network w h phases is wide tall.
    let order = networks_are_ordered network is in
    let gates = gates_there network order in
    let in_place = network_gates_are_in_place network gates.0 order gates.1 in
    let ordered = gates_are_ordered gates.0 in_place in
    let signs = chosen_there gates.0 ordered in
    let forest = forests_there gates.0 signs.0 in_place (chosen_settled gates.0 ordered signs.0 signs.1).one_each in
    let stands = forests_are_in_place gates.0 signs.0 forest.0 in_place forest.1 in
    let plan = chosen_plan_there compound_costs forest.0 w h wide tall stands.in_order in
    let leaves : (forest.0).leaves ≡ leaf_count network = (forest.1).leaves_are ∙ (gates.1).leaves_are in
    let levels = levels_there (leaf_count network) (map whole_tree plan.2) (wholes_read network forest.0 w h plan.0 plan.1 plan.2 stands leaves (plan.3).plan) in
    deck_of network w h phases gates.0 signs.0 forest.0 plan.0 plan.1 plan.2 levels.0 gates.1 signs.1 forest.1 plan.3 levels.1

module _ (network : NetworkData) (is : IsNetwork network) (w h phases : ℕ) where
  same_levels : (a b : CircuitData) (x : IsChosenDeck network w h phases a) (y : IsChosenDeck network w h phases b)
      → x.gates ≡ y.gates → x.signs ≡ y.signs → x.forest ≡ y.forest → x.kept ≡ y.kept → x.cells ≡ y.cells → a ≡ b
  same_levels a b x y gates signs forest kept cells =
      let in_place = network_gates_are_in_place network y.gates (networks_are_ordered network is) y.are_gates in
      let stands = forests_are_in_place y.gates y.signs y.forest in_place y.is_forest in
      let leaves : (y.forest).leaves ≡ leaf_count network = (y.is_forest).leaves_are ∙ (y.are_gates).leaves_are in
      let below = wholes_read network y.forest w h y.kept y.split y.cells stands leaves (y.is_chosen_plan).plan in
      let levels : x.levels ≡ y.levels =
      levels_one (leaf_count network) (map whole_tree y.cells) below x.levels y.levels (subst (λ cs. AreLevels (leaf_count network) (map whole_tree cs) x.levels) cells x.levels_are) y.levels_are in
      x.circuit_is
      ∙ (λ i. deck_circuit network phases (cells i) (levels i) (signs i) (map (end_at_cell (kept i)) ((forest i).ends)))
      ∙ sym y.circuit_is

  pub deck_one : (a b : CircuitData) → IsChosenDeck network w h phases a → IsChosenDeck network w h phases b → a ≡ b
  deck_one a b x y =
      let order = networks_are_ordered network is in
      let gates : x.gates ≡ y.gates = gates_one network order x.gates y.gates x.are_gates y.are_gates in
      let signs : x.signs ≡ y.signs = chosen_signs_one y.gates x.signs y.signs (subst (λ g. AreChosen g x.signs) gates x.are_chosen) y.are_chosen in
      let forest : x.forest ≡ y.forest =
      forest_one y.gates y.signs x.forest y.forest (subst (λ g. IsForestOf g y.signs x.forest) gates (subst (λ s. IsForestOf x.gates s x.forest) signs x.is_forest)) y.is_forest in
      let in_place = network_gates_are_in_place network y.gates order y.are_gates in
      let stands = forests_are_in_place y.gates y.signs y.forest in_place y.is_forest in
      let plan = chosen_plan_one compound_costs y.forest w h x.kept x.split y.kept y.split x.cells y.cells stands.in_order
      (subst (λ f. IsChosenPlan compound_costs f w h x.kept x.split x.cells) forest x.is_chosen_plan) y.is_chosen_plan in
      same_levels a b x y gates signs forest plan.0 plan.2

pub decks_one : ChosenDecksAreOne
decks_one = λ network w h phases a b is x y. deck_one network is w h phases a b x y
