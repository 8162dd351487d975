use Rattle.std.proofs.Common.{◌≡◌, ◌+◌, ◌≤◌, ℕ, ◌∙◌, All, ap, ap₂, length, map, subst, sym}
use Rattle.std.specs.Prelude.{codes}
use Rattle.std.proofs.lemmas.List.{length-map}
use Rattle.std.proofs.lemmas.List.FromFn.{length-map-range_with_len}
use Rattle.clock_phase.specs.Levels.{AreLevels}
use Rattle.dual_rail.specs.ForestData.{ForestData}
use Rattle.dual_rail.specs.ForestOrder.{IsForest}
use Rattle.dual_rail.specs.Uses.{IsEndThere}
use Rattle.gate_decompose.specs.Sinks.{leaf_count}
use Rattle.network.specs.declared.network.NetLatch.{NetLatch}
use Rattle.compound_plan.specs.Plans.{CellTrees}
use Rattle.compound_cell.specs.CompoundCells.{whole_tree}
use Rattle.deck_form.proofs.DeckForms.{sinks_of_network}
use Rattle.deck_form.specs.ChosenDecks.{end_at_cell}
use Rattle.deck_form.specs.DominoDecks.{outs_of, pins_of, starts_of}
use Rattle.synth_flow.specs.MadeDecks.{port_net}
use Rattle.synth_flow.specs.SinkParts.{end_in}
use Rattle.tree_map.specs.CompoundCover.{cell_trees}
use Rattle.compound_flow.specs.MadeCells.{AreCompoundPlans, plain_cells}
use Rattle.compound_flow.specs.MadeDecks.{compound_circuit}
use Rattle.compound_flow.proofs.CompoundCovers.{NetworkCells, are_plans, cells_are, clocks_are_few, complements_are, ends_are, ends_at, ends_there, have_nets, leaves_are, tested}
use Rattle.compound_flow.proofs.CompoundDecks.{made_is_circuit}
use Rattle.compound_flow.proofs.synthesis.deck_of_forest.Goals as goal

pub deck_of-requires-clause-signs : goal.deck_of-requires-clause-signs
deck_of-requires-clause-signs c =
    let of = c.requires.forest.2 in
    of.signs_are ∙ sinks_of_network c.args.network.now c.requires.forest.0 c.requires.forest.1

pub deck_of-requires-clause-plans : goal.deck_of-requires-clause-plans
deck_of-requires-clause-plans c =
    let network = c.args.network.now in
    let signs = c.args.signs.now in
    let forest = c.args.forest.now in
    let phases = c.args.phases in
    let cells = c.in_ok-cells.field-0.cells.items in
    let plans = c.in_ok-cells.field-0.plans.items in
    let complements = c.in_ok-cells.field-0.complements.items in
    let m : NetworkCells network signs forest c.args.bounds.w c.args.bounds.h phases cells plans complements =
    record {
      gates = c.requires.forest.0;
      are_gates = c.requires.forest.1;
      is_forest = c.requires.forest.2;
      whole = subst IsForest c.forest.view_is c.forest.invariant;
      some_phase = c.requires.some_phase;
      few_phases = c.requires.few_phases;
      cover = c.in_ok-cells.ensures;
    } in
    subst (AreCompoundPlans (leaf_count network)) (sym c.as_slice.ensures.value) (are_plans m)

pub deck_of-requires-clause-clocks : goal.deck_of-requires-clause-clocks
deck_of-requires-clause-clocks c =
    let network = c.args.network.now in
    let signs = c.args.signs.now in
    let forest = c.args.forest.now in
    let phases = c.args.phases in
    let cells = c.in_ok-cells.field-0.cells.items in
    let plans = c.in_ok-cells.field-0.plans.items in
    let complements = c.in_ok-cells.field-0.complements.items in
    let m : NetworkCells network signs forest c.args.bounds.w c.args.bounds.h phases cells plans complements =
    record {
      gates = c.requires.forest.0;
      are_gates = c.requires.forest.1;
      is_forest = c.requires.forest.2;
      whole = subst IsForest c.forest.view_is c.forest.invariant;
      some_phase = c.requires.some_phase;
      few_phases = c.requires.few_phases;
      cover = c.in_ok-cells.ensures;
    } in
    subst (λ l. All (λ (cell : CellTrees × ℕ). (1 ≤ cell.1) × (cell.1 ≤ phases)) (plain_cells l)) (sym c.as_slice.ensures.value) (clocks_are_few m)

pub deck_of-requires-clause-complements : goal.deck_of-requires-clause-complements
deck_of-requires-clause-complements c =
    let network = c.args.network.now in
    let signs = c.args.signs.now in
    let forest = c.args.forest.now in
    let phases = c.args.phases in
    let cells = c.in_ok-cells.field-0.cells.items in
    let plans = c.in_ok-cells.field-0.plans.items in
    let complements = c.in_ok-cells.field-0.complements.items in
    let m : NetworkCells network signs forest c.args.bounds.w c.args.bounds.h phases cells plans complements =
    record {
      gates = c.requires.forest.0;
      are_gates = c.requires.forest.1;
      is_forest = c.requires.forest.2;
      whole = subst IsForest c.forest.view_is c.forest.invariant;
      some_phase = c.requires.some_phase;
      few_phases = c.requires.few_phases;
      cover = c.in_ok-cells.ensures;
    } in
    let t = tested m in
    (t.0, c.as_slice-2.ensures.value ∙ t.1)

pub deck_of-requires-clause-ends : goal.deck_of-requires-clause-ends
deck_of-requires-clause-ends c =
    let network = c.args.network.now in
    let signs = c.args.signs.now in
    let forest = c.args.forest.now in
    let phases = c.args.phases in
    let cells = c.in_ok-cells.field-0.cells.items in
    let plans = c.in_ok-cells.field-0.plans.items in
    let complements = c.in_ok-cells.field-0.complements.items in
    let m : NetworkCells network signs forest c.args.bounds.w c.args.bounds.h phases cells plans complements =
    record {
      gates = c.requires.forest.0;
      are_gates = c.requires.forest.1;
      is_forest = c.requires.forest.2;
      whole = subst IsForest c.forest.view_is c.forest.invariant;
      some_phase = c.requires.some_phase;
      few_phases = c.requires.few_phases;
      cover = c.in_ok-cells.ensures;
    } in
    let all_ends : c.as_slice-3.result.now ≡ forest.ends = c.as_slice-3.ensures.value ∙ ap (λ (f : ForestData). f.ends) c.forest.view_is in
    subst (λ l. All (IsEndThere (length l)) c.as_slice-3.result.now) (sym c.as_slice-4.ensures.value)
    (subst (All (IsEndThere (length cells))) (sym all_ends) (ends_there m))

pub deck_of-requires-clause-one_end : goal.deck_of-requires-clause-one_end
deck_of-requires-clause-one_end c =
    let all_ends = c.as_slice-3.ensures.value ∙ ap (λ (f : ForestData). f.ends) c.forest.view_is in
    let of = c.requires.forest.2 in
    ap length all_ends ∙ of.ends_count ∙ sinks_of_network c.args.network.now c.requires.forest.0 c.requires.forest.1

pub returns-clause-deck : goal.returns-clause-deck
returns-clause-deck c = λ gates are chosen of.
    let network = c.args.network.now in
    let signs = c.args.signs.now in
    let forest = c.args.forest.now in
    let phases = c.args.phases in
    let cells = c.in_ok-cells.field-0.cells.items in
    let plans = c.in_ok-cells.field-0.plans.items in
    let complements = c.in_ok-cells.field-0.complements.items in
    let m : NetworkCells network signs forest c.args.bounds.w c.args.bounds.h phases cells plans complements =
    record {
      gates = gates;
      are_gates = are;
      is_forest = of;
      whole = subst IsForest c.forest.view_is c.forest.invariant;
      some_phase = c.requires.some_phase;
      few_phases = c.requires.few_phases;
      cover = c.in_ok-cells.ensures;
    } in
    let all_ends : c.as_slice-3.result.now ≡ forest.ends = c.as_slice-3.ensures.value ∙ ap (λ (f : ForestData). f.ends) c.forest.view_is in
    let pins_count : length (pins_of network) ≡ network.inputs = length-map-range_with_len (port_net (codes "i_") network.names) 0 network.inputs in
    let outs_count : length (outs_of network) ≡ length network.outputs = length-map network.outputs (port_net (codes "o_") network.names) in
    let starts_count : length (starts_of network) ≡ length network.latches = length-map network.latches (λ (l : NetLatch). l.init) in
    let fit : length (ends_at m) ≡ length (outs_of network) + length (starts_of network)
    = length-map forest.ends (end_at_cell m.cover.kept) ∙ of.ends_count ∙ sinks_of_network network gates are ∙ sym (ap₂ (λ x y. x + y) outs_count starts_count) in
    let some_plans = c.as_slice.ensures.value in
    let some_named = c.as_slice-2.ensures.value in
    let ends = ap₂ (λ l e. map (end_in l) e) c.as_slice-4.ensures.value all_ends ∙ ends_are m in
    let made = c.in_ok-circuit.ensures.deck
    ∙ (λ i. compound_circuit network phases signs (plain_cells (some_plans i)) (some_named i) (ends i))
    ∙ made_is_circuit network phases signs (plain_cells plans) complements (ends_at m) (cell_trees plans) m.cover.levels fit (cells_are m) (complements_are m)
    (have_nets m (length (pins_of network) + length (starts_of network)) (ap₂ (λ x y. x + y) pins_count starts_count)) in
    record {
      gates = gates;
      signs = signs;
      forest = forest;
      kept = m.cover.kept;
      split = m.cover.split;
      cells = cell_trees plans;
      levels = m.cover.levels;
      are_gates = are;
      are_chosen = chosen;
      is_forest = of;
      is_chosen_plan = m.cover.chosen;
      levels_are = subst (λ n. AreLevels n (map whole_tree (cell_trees plans)) m.cover.levels) (leaves_are m) m.cover.levels_are;
      circuit_is = made;
    }

pub returns-clause-names : goal.returns-clause-names
returns-clause-names c = c.in_ok-circuit.ensures.names
