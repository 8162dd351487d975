-- The text of a deck from its counted cover is that of a circuit that synthesis gives, which is whole.
use Rattle.std.proofs.Common.{◌≡◌, ℕ, ◌+◌, ◌*◌, ◌≤◌, ◌<◌, ◌^◌, ◌||◌, Bool, List, [], ◌∷◌, ◌++◌, get_or, length, map, zip, filter, refl, sym, ap, ◌∙◌, subst, arith, All}
use Rattle.std.specs.Prelude.{codes}
use Rattle.std.specs.List.{AllByRecursion, list_any, range_with_len}
use Rattle.std.proofs.lemmas.List.{length-map}
use Rattle.std.proofs.lemmas.List.Elements.{All-from_recursion, All-weaker, recursion_from_All}
use Rattle.std.proofs.lemmas.List.FromFn.{length-range_with_len}
use Rattle.std.proofs.lemmas.Option.{slice_get_within}
use Rattle.clock_phase.specs.Levels.{AreLevels, clock_of, greatest}
use Rattle.clock_phase.proofs.Greatest.{each_leaf_weaker}
use Rattle.clock_phase.proofs.Levels.{clock_within, level_at_most}
use Rattle.clock_phase.proofs.LevelsUpTo.{levels_from_one}
use Rattle.deck.specs.CircuitData.{CircuitData}
use Rattle.deck.specs.Escapes.{escaped}
use Rattle.deck.specs.PortNames.{IsByteName}
use Rattle.deck.specs.NamedDevices.{NamedDevice, with_devices}
use Rattle.deck.specs.Pushes.{new_circuit}
use Rattle.deck.specs.Whole.{IsWhole}
use Rattle.deck.specs.declared.phase.Phase.{Phase}
use Rattle.deck.proofs.EscapedNames.{output_is_net, pin_is_net}
use Rattle.deck_form.specs.AskedOptions.{deck_options}
use Rattle.deck_form.specs.ChosenDecks.{IsChosenDeck, end_at_cell}
use Rattle.deck_form.specs.DeckNets.{CellPlan, SinkEnd, named_devices, sink_nets}
use Rattle.deck_form.specs.DominoDecks.{cells_of, complements_of, deck_circuit, outs_of, phases_of_sinks, pins_of, starts_of}
use Rattle.deck_form.specs.NamedDecks.{names_complement}
use Rattle.deck_form.specs.declared.options.SynthOptions.{SynthOptions}
use Rattle.deck_form.specs.DeckGroups.{card_groups, ends_from}
use Rattle.deck_form.proofs.DeckGroups.{groups_are_cards}
use Rattle.deck_form.proofs.SmallTrees.{trees_are_small}
use Rattle.dom_base.specs.Names.{IsNetName}
use Rattle.dom_base.proofs.Lists.{All-at, AllByRecursion-kept, AllByRecursion-map, AllByRecursion-weaker}
use Rattle.domino_cell.proofs.CellCircuits.{count_with}
use Rattle.dual_rail.specs.ForestData.{ForestData}
use Rattle.dual_rail.specs.ForestOrder.{IsEndOfForest, IsForest}
use Rattle.dual_rail.specs.declared.forest.End.{End}
use Rattle.dual_rail.specs.declared.forest.End.TheVariants.{Const, Literal, FromDynamic, FromOutput}
use Rattle.dual_rail.proofs.Zips.{all_from}
use Rattle.gate_decompose.specs.Sinks.{leaf_count}
use Rattle.network.specs.NetworkData.{NetworkData}
use Rattle.network.specs.Networks.{IsNetwork}
use Rattle.network.specs.declared.network.NetLatch.{NetLatch}
use Rattle.plan_text.specs.DeckTexts.{grouped_deck_text, named_deck_text}
use Rattle.plan_text.proofs.CellLoops.{cell_total}
use Rattle.plan_text.proofs.DeckTexts.{whole_by_names, written_by_names}
use Rattle.plan_text.proofs.GroupedTexts.{grouped_by_names}
use Rattle.sp_network.specs.Tree.{Tree, EachLeaf, leaves}
use Rattle.spice_text.specs.Cells.{IsWrittenByCells}
use Rattle.spice_text.specs.Text.{IsWritten}
use Rattle.style_costs.specs.Styles.{cost_in}
use Rattle.tree_map.specs.LeastPlans.{IsChosenPlan}
use Rattle.tree_map.proofs.ArmTrees.{cell_within}
use Rattle.synth_flow.specs.CellCounts.{is_read_in}
use Rattle.synth_flow.specs.ChosenForests.{IsChosenForest}
use Rattle.synth_flow.specs.NamedComplements.{is_plus_end}
use Rattle.synth_flow.specs.WholeTexts.{IsChosenCellText, IsChosenText}
use Rattle.synth_flow.proofs.DeckFigures.{complements_same, devices_counted}
use Rattle.synth_flow.proofs.NetworkDecks.{all_apart, few_leaves, few_sinks, outs_begin, outs_count, pins_begin, pins_count}
use Rattle.synth_flow.proofs.PlainDevices.{IsLowCell, IsLowEnd, devices_plain, sinks_are_plain}
use Rattle.synth_flow.proofs.PortNets.{range_low}
use Rattle.synth_flow.proofs.PushedDecks.{few_filtered}
use Rattle.synth_flow.proofs.SynthFacts.{cheap_trees, few_trees, reads_earlier}

-- the phases of sinks with plain nets
phases_plain : (nets : List (List ℕ)) (signs : List Bool) → AllByRecursion IsNetName nets
    → AllByRecursion (λ (p : Phase). IsNetName p.net) (map (λ (p : List ℕ × Bool). record { net = p.0; plus = p.1 }) (zip nets signs))
phases_plain [] signs plain = tt
phases_plain (net ∷ nets) [] plain = tt
phases_plain (net ∷ nets) (sign ∷ signs) plain = (plain.0, phases_plain nets signs plain.1)

-- cells whose trees and clocks are low
cells_low : (f : ℕ → ℕ) (trees : List (Tree ℕ)) (levels : List ℕ)
    → AllByRecursion (λ (t : Tree ℕ). (leaves t ≤ 48) × EachLeaf (λ gate. gate < 2 ^ 64) t) trees → AllByRecursion (λ level. f level < 2 ^ 64) levels
    → AllByRecursion IsLowCell (map (λ (p : Tree ℕ × ℕ). record { tree = p.0; clock = f p.1 }) (zip trees levels))
cells_low f [] levels small low = tt
cells_low f (t ∷ trees) [] small low = tt
cells_low f (t ∷ trees) (level ∷ levels) small low = ((low.0, small.0.0, small.0.1), cells_low f trees levels small.1 low.1)

module _ (network : NetworkData) (is : IsNetwork network) (bytes : All (λ name. All (λ b. b < 256) name) network.names) where
  good_signal : (signal : ℕ) → signal < length network.names → IsByteName (get_or network.names signal [])
  good_signal signal low = record { some = (is.names signal [] low).some; bytes = bytes signal [] low }

  pins_plain : AllByRecursion IsNetName (pins_of network)
  pins_plain =
      AllByRecursion-map IsNetName _ (range_with_len 0 network.inputs)
      (AllByRecursion-weaker (λ signal. signal < length network.names) (λ signal. IsNetName (codes "i_" ++ escaped (get_or network.names signal [])))
      (λ signal low. pin_is_net (get_or network.names signal []) (good_signal signal low)) (range_with_len 0 network.inputs)
      (range_low 0 network.inputs (length network.names) (omega (arith, is.count))))

  outs_plain : AllByRecursion IsNetName (outs_of network)
  outs_plain =
      AllByRecursion-map IsNetName _ network.outputs
      (AllByRecursion-weaker (λ signal. signal < length network.names) (λ signal. IsNetName (codes "o_" ++ escaped (get_or network.names signal [])))
      (λ signal low. output_is_net (get_or network.names signal []) (good_signal signal low)) network.outputs
      (recursion_from_All (λ signal. signal < length network.names) network.outputs is.outputs))

  module _ (options : SynthOptions) (signs : List Bool) (forest : ForestData) (chosen : IsChosenForest network signs forest) (whole : IsForest forest)
      (few_wide : options.bounds.w ≤ 8) (few_high : options.bounds.h ≤ 6) (some_phase : 1 ≤ options.phases) (few_phases : options.phases ≤ 4)
      (kept : List Bool) (trees : List (Tree ℕ)) (levels complements : List ℕ)
      (plan : IsChosenPlan forest options.bounds.w options.bounds.h kept trees) (levels_are : AreLevels forest.leaves trees levels)
      (complements_are : complements ≡ filter (λ leaf. is_read_in trees leaf || list_any (is_plus_end leaf) forest.ends) (range_with_len 0 forest.leaves)) where
    abbrev cells : List CellPlan
    cells = cells_of options.phases levels trees

    abbrev ends : List SinkEnd
    ends = map (end_at_cell kept) forest.ends

    abbrev circuit : CircuitData
    circuit = deck_circuit options.style network options.phases cells signs ends

    leaves_same : forest.leaves ≡ leaf_count network
    leaves_same = chosen.is_forest.leaves_are ∙ chosen.are_gates.leaves_are

    abbrev is_deck : IsChosenDeck network (deck_options options) circuit
    is_deck = record {
      gates = chosen.gates;
      signs = signs;
      forest = forest;
      kept = kept;
      trees = trees;
      levels = levels;
      are_gates = chosen.are_gates;
      are_chosen = chosen.are_chosen;
      is_forest = chosen.is_forest;
      is_chosen_plan = plan;
      levels_are = subst (λ n. AreLevels n trees levels) leaves_same levels_are;
      circuit_is = refl;
    }

    pub complements_named : complements ≡ complements_of network cells ends
    complements_named =
        complements_are ∙ ap (λ n. filter (λ leaf. is_read_in trees leaf || list_any (is_plus_end leaf) forest.ends) (range_with_len 0 n)) leaves_same
        ∙ complements_same options.phases trees levels levels_are.one_each network kept forest.ends

    small_trees : AllByRecursion (λ (t : Tree ℕ). (leaves t ≤ 48) × EachLeaf (λ gate. gate < 2 ^ 64) t) trees
    small_trees =
        let small = trees_are_small options.bounds.w options.bounds.h trees few_wide few_high plan.plan.within in
        let earlier = reads_earlier forest kept options.bounds.w options.bounds.h trees plan.plan whole in
        let few = few_trees forest kept options.bounds.w options.bounds.h trees plan.plan whole in
        recursion_from_All (λ (t : Tree ℕ). (leaves t ≤ 48) × EachLeaf (λ gate. gate < 2 ^ 64) t) trees
        (all_from (λ (t : Tree ℕ). (leaves t ≤ 48) × EachLeaf (λ gate. gate < 2 ^ 64) t) trees
        (λ k t at. (
          All-at (λ (x : Tree ℕ). leaves x ≤ 48) trees k t small at,
          each_leaf_weaker (λ gate. gate < 2 * forest.leaves + k) (λ gate. gate < 2 ^ 64)
              (λ gate low. omega (arith, low, slice_get_within trees k t at, few, whole.few_leaves)) t (earlier k t at),
        )))

    low_clocks : AllByRecursion (λ level. clock_of options.phases (greatest levels) level < 2 ^ 64) levels
    low_clocks =
        recursion_from_All (λ level. clock_of options.phases (greatest levels) level < 2 ^ 64) levels
        (all_from (λ level. clock_of options.phases (greatest levels) level < 2 ^ 64) levels
        (λ k level at.
        let from_one = All-at (λ n. 1 ≤ n) levels k level (levels_from_one forest.leaves trees levels levels_are) at in
        let within = clock_within options.phases (greatest levels) level some_phase from_one (level_at_most levels k level at) in
        omega (arith, within.1, few_phases)))

    low_end : (e : End) → IsEndOfForest forest e → IsLowEnd (end_at_cell kept e)
    low_end (Const b) h = tt
    low_end (Literal rail) h = omega (arith, h, whole.few_leaves)
    low_end (FromDynamic place) h = omega (arith, cell_within kept place, plan.plan.one_each, whole.few_pairs)
    low_end (FromOutput place) h = omega (arith, cell_within kept place, plan.plan.one_each, whole.few_pairs)

    low_ends : AllByRecursion IsLowEnd ends
    low_ends =
        AllByRecursion-map IsLowEnd (end_at_cell kept) forest.ends
        (recursion_from_All (λ e. IsLowEnd (end_at_cell kept e)) forest.ends
        (All-weaker (IsEndOfForest forest) (λ e. IsLowEnd (end_at_cell kept e)) low_end forest.ends whole.in_place.has_ends))

    few_starts : length (starts_of network) ≤ 8192
    few_starts = omega (arith, length-map network.latches (λ (l : NetLatch). l.init), few_sinks network is)

    few_devices : length (named_devices options.style (pins_of network) (outs_of network) (starts_of network) cells (complements_of network cells ends) ends) ≤ 16777216
    few_devices =
        let total : length circuit.devices
        ≡ cost_in options.style trees + 2 * length (complements_of network cells ends) + 9 * length network.latches
        + 2 * (length network.outputs + length network.latches) = devices_counted network options circuit is_deck in
        let split = count_with (new_circuit (escaped network.name) (phases_of_sinks network signs) options.phases (pins_of network) (outs_of network))
        (named_devices options.style (pins_of network) (outs_of network) (starts_of network) cells (complements_of network cells ends) ends) in
        omega (
          arith,
          total,
          split,
          cheap_trees forest kept options.bounds.w options.bounds.h trees plan.plan whole options.style,
          few_filtered (names_complement cells ends) (range_with_len 0 (leaf_count network)),
          length-range_with_len 0 (leaf_count network),
          leaves_same,
          whole.few_leaves,
          few_sinks network is,
        )

    devices_same : named_devices options.style (pins_of network) (outs_of network) (starts_of network) cells complements ends
        ≡ named_devices options.style (pins_of network) (outs_of network) (starts_of network) cells (complements_of network cells ends) ends
    devices_same = ap (λ (l : List ℕ). named_devices options.style (pins_of network) (outs_of network) (starts_of network) cells l ends) complements_named

    -- the circuit is whole
    circuit_is_whole : IsNetName (escaped network.name) → IsWhole circuit
    circuit_is_whole name =
        let devices = named_devices options.style (pins_of network) (outs_of network) (starts_of network) cells (complements_of network cells ends) ends in
        let few_cells : length cells < 2 ^ 64 =
        omega (arith, cell_total options.phases levels trees levels_are.one_each, levels_are.one_each, few_trees forest kept options.bounds.w options.bounds.h trees plan.plan whole) in
        let plain = devices_plain options.style (pins_of network) (outs_of network) (starts_of network) cells (complements_of network cells ends) ends pins_plain outs_plain
        (omega (arith, few_starts)) few_cells (cells_low (clock_of options.phases (greatest levels)) trees levels small_trees low_clocks)
        (AllByRecursion-kept (λ leaf. leaf < 2 ^ 64) (names_complement cells ends) (range_with_len 0 (leaf_count network)) (range_low 0 (leaf_count network) (2 ^ 64) (omega (arith, leaves_same, whole.few_leaves))))
        low_ends in
        let phases = All-from_recursion (λ (p : Phase). IsNetName p.net) (phases_of_sinks network signs)
        (phases_plain (sink_nets (outs_of network) (starts_of network)) signs (sinks_are_plain (outs_of network) (starts_of network) outs_plain (omega (arith, few_starts)))) in
        whole_by_names (escaped network.name) (phases_of_sinks network signs) options.phases (pins_of network) (outs_of network) devices few_phases
        (pins_begin network is) (outs_begin network is) (all_apart network is bytes)
        (omega (arith, pins_count network is, outs_count network is, few_leaves network is, few_sinks network is)) few_devices name phases pins_plain outs_plain plain

    -- the text is that of the circuit
    pub text_is_whole : IsNetName (escaped network.name)
        → IsChosenText network options (named_deck_text (escaped network.name) (phases_of_sinks network signs) options.phases (pins_of network) (outs_of network)
        (named_devices options.style (pins_of network) (outs_of network) (starts_of network) cells complements ends))
    text_is_whole name =
        let devices = named_devices options.style (pins_of network) (outs_of network) (starts_of network) cells (complements_of network cells ends) ends in
        record {
          circuit = circuit;
          is_chosen = is_deck;
          whole = circuit_is_whole name;
          written = subst (λ (l : List (NamedDevice (List ℕ))). IsWritten circuit (named_deck_text (escaped network.name) (phases_of_sinks network signs) options.phases (pins_of network) (outs_of network) l))
              (sym devices_same)
              (written_by_names (escaped network.name) (phases_of_sinks network signs) options.phases (pins_of network) (outs_of network) devices few_phases
              (pins_begin network is) (outs_begin network is) some_phase);
        }

    -- and by its cells
    pub cells_are_whole : IsNetName (escaped network.name)
        → IsChosenCellText network options (grouped_deck_text (escaped network.name) (phases_of_sinks network signs) options.phases (pins_of network) (outs_of network)
        (card_groups options.style (pins_of network) (outs_of network) (starts_of network) cells complements ends))
    cells_are_whole name =
        let groups = card_groups options.style (pins_of network) (outs_of network) (starts_of network) cells (complements_of network cells ends) ends in
        let text = grouped_deck_text (escaped network.name) (phases_of_sinks network signs) options.phases (pins_of network) (outs_of network) in
        let same = groups_are_cards options.style (pins_of network) (outs_of network) (starts_of network) cells (complements_of network cells ends) ends in
        let bare = new_circuit (escaped network.name) (phases_of_sinks network signs) options.phases (pins_of network) (outs_of network) in
        record {
          circuit = circuit;
          ends = ends_from 0 groups;
          is_grouped = (is_deck, refl);
          whole = circuit_is_whole name;
          written = subst (λ (l : List ℕ). IsWrittenByCells circuit (ends_from 0 groups)
              (text (card_groups options.style (pins_of network) (outs_of network) (starts_of network) cells l ends))) (sym complements_named)
              (subst (λ (l : List (NamedDevice (List ℕ))). IsWrittenByCells (with_devices bare l) (ends_from 0 groups) (text groups)) same
              (grouped_by_names (escaped network.name) (phases_of_sinks network signs) options.phases (pins_of network) (outs_of network) groups few_phases
              (pins_begin network is) (outs_begin network is) some_phase));
        }
