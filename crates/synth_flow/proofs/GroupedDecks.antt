-- The places at which the groups of a chosen deck end, by the sizes of its groups.
use Rattle.std.proofs.Common.{◌≡◌, ℕ, ◌+◌, ◌*◌, ◌<◌, ◌^◌, ◌||◌, Bool, List, length, map, filter, zip, flat_map, ap, sym}
use Rattle.std.proofs.Common.{◌∙◌, arith}
use Rattle.std.specs.List.{AllByRecursion, list_any, range_with_len}
use Rattle.std.proofs.lemmas.List.{length-map}
use Rattle.dom_base.proofs.Lists.{list_any-map}
use Rattle.deck.specs.CircuitData.{CircuitData}
use Rattle.deck.specs.Escapes.{escaped}
use Rattle.deck.specs.NamedDevices.{NamedDevice}
use Rattle.deck.specs.Pushes.{new_circuit}
use Rattle.domino_cell.proofs.CellCircuits.{count_with}
use Rattle.dual_rail.specs.declared.forest.End.{End}
use Rattle.gate_decompose.specs.Sinks.{leaf_count}
use Rattle.clock_phase.specs.Levels.{clock_of, greatest}
use Rattle.network.specs.NetworkData.{NetworkData}
use Rattle.network.specs.declared.network.NetLatch.{NetLatch}
use Rattle.sp_network.specs.Tree.{Tree}
use Rattle.sp_network.specs.TypedTree.{tree_of}
use Rattle.sp_network.specs.declared.plan.GatePlan.{GatePlan}
use Rattle.tree_map.specs.MappedCover.{plan_trees}
use Rattle.deck_form.specs.AskedOptions.{deck_options}
use Rattle.deck_form.specs.ChosenDecks.{IsChosenDeck, end_at_cell, planned}
use Rattle.deck_form.specs.DeckGroups.{card_groups, group_places}
use Rattle.deck_form.specs.DeckNets.{CellPlan, SinkEnd, named_devices, sink_nets}
use Rattle.deck_form.specs.DominoDecks.{cells_of, complements_of, outs_of, phases_of_sinks, pins_of, starts_of}
use Rattle.deck_form.specs.NamedDecks.{reads}
use Rattle.deck_form.specs.declared.options.SynthOptions.{SynthOptions}
use Rattle.deck_form.proofs.CellDevices.{trees_stay}
use Rattle.deck_form.proofs.DeckGroups.{ends_low, groups_are_cards}
use Rattle.synth_flow.specs.BareDecks.{named_leaves}
use Rattle.synth_flow.specs.CellCounts.{is_read_in}
use Rattle.synth_flow.specs.GroupEnds.{deck_sizes, ends_of, group_sizes}
use Rattle.synth_flow.specs.NamedComplements.{are_read, is_plus_end}
use Rattle.synth_flow.proofs.DeckFigures.{complements_same, ends_count, sinks_count}
use Rattle.synth_flow.proofs.GroupEnds.{ends_by_size, sizes_are}
use Rattle.synth_flow.proofs.LeafMarks.{filter_same}

-- the opposite of a leaf gates a plan where it gates its tree
reads_by_tree : (plans : List GatePlan) (trees : List (Tree ℕ)) → trees ≡ plan_trees plans → (leaf : ℕ) → are_read plans leaf
    ≡ is_read_in trees leaf
reads_by_tree plans trees same leaf =
    sym (list_any-map (reads (2 * leaf + 1)) (λ (p : GatePlan). tree_of p.tree) plans) ∙ ap (λ t. is_read_in t leaf) (sym same)

module _ (network : NetworkData) (options : SynthOptions) (circuit : CircuitData) (is : IsChosenDeck network (deck_options options) circuit)
  where
    abbrev cells : List CellPlan
    cells = cells_of options.phases is.levels is.trees

    abbrev ends : List SinkEnd
    ends = map (end_at_cell is.kept) is.forest.ends

    abbrev complements : List ℕ
    complements = complements_of network cells ends

    abbrev groups : List (List (NamedDevice (List ℕ)))
    groups = card_groups options.style (pins_of network) (outs_of network) (starts_of network) cells complements ends

    named_are : (plans : List GatePlan) → is.trees ≡ plan_trees plans → named_leaves plans is.forest.ends is.forest.leaves ≡ complements
    named_are plans same =
        let test : ℕ → Bool = λ leaf. are_read plans leaf || list_any (is_plus_end leaf) is.forest.ends in
        let count : is.forest.leaves ≡ leaf_count network = is.is_forest.leaves_are ∙ is.are_gates.leaves_are in
        ap (λ n. filter test (range_with_len 0 n)) count
        ∙ filter_same test (λ leaf. is_read_in is.trees leaf || list_any (is_plus_end leaf) is.forest.ends) 0 (leaf_count network)
        (λ k lt. ap (λ b. b || list_any (is_plus_end k) is.forest.ends) (reads_by_tree plans is.trees same k))
        ∙ complements_same options.phases is.trees is.levels is.levels_are.one_each network is.kept is.forest.ends

    -- the places by sizes
    pub places_are : (plans : List GatePlan) → is.trees ≡ plan_trees plans
        → ends_of 0 (deck_sizes options.style plans is.forest.ends is.forest.leaves (length network.latches)) ≡ group_places (planned is)
    places_are plans same =
        let trees : map (λ (c : CellPlan). c.tree) cells ≡ plan_trees plans =
        trees_stay (clock_of options.phases (greatest is.levels)) is.trees is.levels is.levels_are.one_each ∙ same in
        let named : length complements ≡ length (named_leaves plans is.forest.ends is.forest.leaves) = ap length
        (sym (named_are plans same)) in
        let latches : length (starts_of network) ≡ length network.latches = length-map network.latches (λ (l : NetLatch). l.init) in
        let counted = ends_count network is.gates is.signs is.kept is.forest is.are_gates is.is_forest in
        let sinks : length (zip (sink_nets (outs_of network) (starts_of network)) ends) ≡ length is.forest.ends =
        sinks_count options.style network options.phases is.trees is.levels is.signs ends is.levels_are.one_each counted
        ∙ sym counted ∙ length-map is.forest.ends (end_at_cell is.kept) in
        sym (ends_by_size 0 groups
        ∙ ap (ends_of 0) (sizes_are options.style (pins_of network) (outs_of network) (starts_of network) cells complements ends
        ∙ (λ i. group_sizes options.style (trees i) (named i) (latches i) (sinks i))))

    pub same_places : (plans held : List GatePlan) (all : List End) (count latches : ℕ) → is.trees ≡ plan_trees plans → held ≡ plans
        → all ≡ is.forest.ends → count ≡ is.forest.leaves → latches ≡ length network.latches
        → ends_of 0 (deck_sizes options.style held all count latches) ≡ group_places (planned is)
    same_places plans held all count latches same of_plans of_ends of_leaves of_latches =
        (λ i. ends_of 0 (deck_sizes options.style (of_plans i) (of_ends i) (of_leaves i) (of_latches i))) ∙ places_are plans same

    -- and no place is behind the last device
    pub places_low : length circuit.devices < 2 ^ 32 → AllByRecursion (λ place. place < 2 ^ 32) (group_places (planned is))
    places_low few =
        let cards = named_devices options.style (pins_of network) (outs_of network) (starts_of network) cells complements ends in
        let bare = new_circuit (escaped network.name) (phases_of_sinks network is.signs) options.phases (pins_of network)
        (outs_of network) in
        let held : length (flat_map (λ (group : List (NamedDevice (List ℕ))). group) groups) ≡ length cards =
        ap length (groups_are_cards options.style (pins_of network) (outs_of network) (starts_of network) cells complements ends) in
        ends_low 0 (2 ^ 32) groups
        (omega (arith, few, held, count_with bare cards, ap (λ (c : CircuitData). length c.devices) is.circuit_is))
