-- The chosen deck of a network has settled signs, a least plan over simple and compound roots, and cells of so many devices.
use Rattle.std.proofs.Common.{length, ◌+◌, ◌∙◌}
use Rattle.gate_decompose.proofs.GatesOrder.{gates_are_ordered, network_gates_are_in_place}
use Rattle.gate_decompose.proofs.NetworkOrder.{networks_are_ordered}
use Rattle.dual_rail.proofs.ForestOrders.{forests_are_in_place}
use Rattle.phase_assign.proofs.ChosenSigns.{chosen_no_worse, chosen_settled}
use Rattle.clock_phase.specs.Levels.{clock_of, greatest}
use Rattle.compound_plan.specs.Plans.{compound_costs}
use Rattle.compound_plan.proofs.LeastPlan.{chosen_plan_least}
use Rattle.deck_form.specs.DominoDecks.{pins_of, starts_of}
use Rattle.deck_form.proofs.DeckForms.{length_map}
use Rattle.compound_cell.specs.CompoundCells.{whole_tree}
use Rattle.compound_law.specs.Laws.{ChosenDecksAreLeast}
use Rattle.compound_law.proofs.CardCounts.{cells_count}

pub chosen_decks_are_least : ChosenDecksAreLeast
chosen_decks_are_least = λ network w h phases circuit net_is is.
    let placed = network_gates_are_in_place network is.gates (networks_are_ordered network net_is) is.are_gates in
    let order = gates_are_ordered is.gates placed in
    record {
      settled = chosen_settled is.gates order is.signs is.are_chosen;
      no_worse = λ m n a b. chosen_no_worse is.gates order is.signs is.are_chosen m n a b;
      least = chosen_plan_least compound_costs is.forest w h is.kept is.split is.cells (forests_are_in_place is.gates is.signs is.forest placed is.is_forest).in_order is.is_chosen_plan;
      devices = cells_count (length (pins_of network)) (length (pins_of network) + length (starts_of network)) (clock_of phases (greatest is.levels)) 0 is.cells is.levels
          ((is.levels_are).one_each ∙ length_map whole_tree is.cells);
    }
