-- A deck of any signs and the chosen plan of a network has a least plan, and cells of so many devices; the chosen signs are settled.
use Rattle.std.proofs.Common.{Bool, List, ap, ◌∙◌}
use Rattle.deck.specs.CircuitData.{CircuitData}
use Rattle.network.specs.NetworkData.{NetworkData}
use Rattle.network.specs.Networks.{IsNetwork}
use Rattle.gate_decompose.specs.GatesData.{GatesData}
use Rattle.gate_decompose.specs.Sinks.{leaf_count}
use Rattle.gate_decompose.proofs.GatesOrder.{gates_are_ordered, network_gates_are_in_place}
use Rattle.gate_decompose.proofs.NetworkOrder.{networks_are_ordered}
use Rattle.dual_rail.proofs.ForestOrders.{forests_are_in_place}
use Rattle.phase_assign.proofs.ChosenSigns.{chosen_no_worse, chosen_settled}
use Rattle.style_costs.specs.Styles.{cost_in}
use Rattle.style_costs.proofs.StyledCosts.{least_same}
use Rattle.tree_map.proofs.LeastPlan.{chosen_plan_least}
use Rattle.deck_form.specs.AskedOptions.{deck_options}
use Rattle.deck_form.specs.ChosenDecks.{IsDeckOfSigns}
use Rattle.deck_form.specs.DominoDecks.{cells_of, pins_of}
use Rattle.deck_form.specs.declared.options.SynthOptions.{SynthOptions}
use Rattle.deck_form.proofs.CellDevices.{cells_count, trees_stay}
use Rattle.plan_law.specs.LeastDecks.{ChosenDecksAreLeast, HasLeastCover, SignedDecksHaveLeastCovers}

least_cover : {AreSigns : GatesData → List Bool → Type 0} (network : NetworkData) (options : SynthOptions) (circuit : CircuitData) → IsNetwork network
    → (is : IsDeckOfSigns AreSigns network (deck_options options) circuit) → HasLeastCover options is
least_cover network options circuit net_is is =
    let placed = network_gates_are_in_place network is.gates (networks_are_ordered network net_is) is.are_gates in
    let in_order = (forests_are_in_place is.gates is.signs is.forest placed is.is_forest).in_order in
    record {
      least = (least_same options.style is.forest options.bounds.w options.bounds.h is.kept is.trees in_order).1
          (chosen_plan_least is.forest options.bounds.w options.bounds.h is.kept is.trees in_order is.is_chosen_plan);
      devices = cells_count options.style (pins_of network) (leaf_count network) 0 (cells_of options.phases is.levels is.trees)
          ∙ ap (cost_in options.style) (trees_stay _ is.trees is.levels (is.levels_are).one_each);
    }

pub signed_decks_have_least_covers : SignedDecksHaveLeastCovers
signed_decks_have_least_covers = λ network options signs circuit net_is is. least_cover network options circuit net_is is

pub chosen_decks_are_least : ChosenDecksAreLeast
chosen_decks_are_least = λ network options circuit net_is is.
    let order = gates_are_ordered is.gates (network_gates_are_in_place network is.gates (networks_are_ordered network net_is) is.are_gates) in
    record {
      settled = chosen_settled is.gates order is.signs is.are_chosen;
      no_worse = λ m n a b. chosen_no_worse is.gates order is.signs is.are_chosen m n a b;
      cover = least_cover network options circuit net_is is;
    }
