use Rattle.std.proofs.Common.{◌≡◌, ◌≤◌, ◌<◌, All, length, ap, arith, refl, subst, sym, ◌∙◌}
use Rattle.clock_phase.specs.Plans.{ReadEarlierCells, trees_of}
use Rattle.deck_form.proofs.DeckForms.{sinks_of_network}
use Rattle.domino_cell.specs.declared.style.Style.TheVariants.{Keeper as WithKeeper}
use Rattle.dual_rail.specs.ForestData.{ForestData}
use Rattle.dual_rail.specs.ForestOrder.{IsForest}
use Rattle.dual_rail.specs.Uses.{IsEndThere}
use Rattle.gate_decompose.specs.Sinks.{leaf_count}
use Rattle.phase_buffer.specs.BufferedPlans.{AreBuffered, HaveClocksUpTo}
use Rattle.synth_flow.specs.BareDecks.{ArePlans}
use Rattle.synth_flow.specs.MadeCircuits.{made_deck}
use Rattle.synth_flow.specs.TakenCells.{AreTaken}
use Rattle.synth_flow.proofs.ClockedCovers.{NetworkCover, clocks_are_few, deck_in, each_reads_earlier, ends_there, few_plans, is_deck_in}
use Rattle.synth_flow.proofs.SkewDecks.{is_buffered_circuit, new_clocks, new_ends_there, new_plans, one_end, taken_there}
use Rattle.synth_flow.proofs.skew.buffered_deck_of_forest.Goals as goal

pub taken_cells-requires-clause-there : goal.taken_cells-requires-clause-there
taken_cells-requires-clause-there c =
    let network = c.args.network.now in
    let signs = c.args.signs.now in
    let forest = c.args.forest.now in
    let phases = c.args.phases in
    let cells = c.in_ok-kept.field-0.cells.items in
    let plans = c.in_ok-kept.field-0.plans.items in
    let m : NetworkCover network signs forest c.args.bounds.w c.args.bounds.h phases c.in_ok-kept.field-0.kept.items cells plans =
    record {
      gates = c.requires.forest.0;
      are_gates = c.requires.forest.1;
      is_forest = c.requires.forest.2;
      whole = subst IsForest c.forest.view_is c.forest.invariant;
      some_phase = c.requires.some_phase;
      few_phases = c.requires.few_phases;
      cover = c.in_ok-kept.ensures;
    } in
    let all_ends : c.as_slice-2.result.now ≡ forest.ends = c.as_slice-2.ensures.value ∙ ap (λ (f : ForestData). f.ends) c.forest.view_is in
    subst (λ l. All (IsEndThere (length l)) c.as_slice-2.result.now) (sym c.as_slice.ensures.value)
    (subst (All (IsEndThere (length cells))) (sym all_ends) (ends_there m))

pub taken_cells-requires-clause-few : goal.taken_cells-requires-clause-few
taken_cells-requires-clause-few c =
    let network = c.args.network.now in
    let signs = c.args.signs.now in
    let forest = c.args.forest.now in
    let phases = c.args.phases in
    let cells = c.in_ok-kept.field-0.cells.items in
    let plans = c.in_ok-kept.field-0.plans.items in
    let m : NetworkCover network signs forest c.args.bounds.w c.args.bounds.h phases c.in_ok-kept.field-0.kept.items cells plans =
    record {
      gates = c.requires.forest.0;
      are_gates = c.requires.forest.1;
      is_forest = c.requires.forest.2;
      whole = subst IsForest c.forest.view_is c.forest.invariant;
      some_phase = c.requires.some_phase;
      few_phases = c.requires.few_phases;
      cover = c.in_ok-kept.ensures;
    } in
    let all_ends : c.as_slice-2.result.now ≡ forest.ends = c.as_slice-2.ensures.value ∙ ap (λ (f : ForestData). f.ends) c.forest.view_is in
    omega (arith, ap length all_ends, m.whole.few_ends)

pub buffer-requires-clause-room : goal.buffer-requires-clause-room
buffer-requires-clause-room c =
    let network = c.args.network.now in
    let signs = c.args.signs.now in
    let forest = c.args.forest.now in
    let phases = c.args.phases in
    let cells = c.in_ok-kept.field-0.cells.items in
    let plans = c.in_ok-kept.field-0.plans.items in
    let m : NetworkCover network signs forest c.args.bounds.w c.args.bounds.h phases c.in_ok-kept.field-0.kept.items cells plans =
    record {
      gates = c.requires.forest.0;
      are_gates = c.requires.forest.1;
      is_forest = c.requires.forest.2;
      whole = subst IsForest c.forest.view_is c.forest.invariant;
      some_phase = c.requires.some_phase;
      few_phases = c.requires.few_phases;
      cover = c.in_ok-kept.ensures;
    } in
    let leaves : c.forest.inside.leaves ≡ forest.leaves = ap (λ (f : ForestData). f.leaves) c.forest.view_is in
    omega (arith, leaves, m.whole.few_leaves, ap length c.as_slice-3.ensures.value, few_plans m)

pub buffer-requires-clause-clocks : goal.buffer-requires-clause-clocks
buffer-requires-clause-clocks c =
    let network = c.args.network.now in
    let signs = c.args.signs.now in
    let forest = c.args.forest.now in
    let phases = c.args.phases in
    let cells = c.in_ok-kept.field-0.cells.items in
    let plans = c.in_ok-kept.field-0.plans.items in
    let m : NetworkCover network signs forest c.args.bounds.w c.args.bounds.h phases c.in_ok-kept.field-0.kept.items cells plans =
    record {
      gates = c.requires.forest.0;
      are_gates = c.requires.forest.1;
      is_forest = c.requires.forest.2;
      whole = subst IsForest c.forest.view_is c.forest.invariant;
      some_phase = c.requires.some_phase;
      few_phases = c.requires.few_phases;
      cover = c.in_ok-kept.ensures;
    } in
    subst (HaveClocksUpTo phases) (sym c.as_slice-3.ensures.value) (clocks_are_few m)

pub buffer-requires-clause-earlier : goal.buffer-requires-clause-earlier
buffer-requires-clause-earlier c =
    let network = c.args.network.now in
    let signs = c.args.signs.now in
    let forest = c.args.forest.now in
    let phases = c.args.phases in
    let cells = c.in_ok-kept.field-0.cells.items in
    let plans = c.in_ok-kept.field-0.plans.items in
    let m : NetworkCover network signs forest c.args.bounds.w c.args.bounds.h phases c.in_ok-kept.field-0.kept.items cells plans =
    record {
      gates = c.requires.forest.0;
      are_gates = c.requires.forest.1;
      is_forest = c.requires.forest.2;
      whole = subst IsForest c.forest.view_is c.forest.invariant;
      some_phase = c.requires.some_phase;
      few_phases = c.requires.few_phases;
      cover = c.in_ok-kept.ensures;
    } in
    let leaves : c.forest.inside.leaves ≡ forest.leaves = ap (λ (f : ForestData). f.leaves) c.forest.view_is in
    subst (λ l. ReadEarlierCells c.forest.inside.leaves (trees_of l)) (sym c.as_slice-3.ensures.value)
    (subst (λ n. ReadEarlierCells n (trees_of plans)) (sym leaves) (each_reads_earlier m))

pub buffer-requires-clause-sinks : goal.buffer-requires-clause-sinks
buffer-requires-clause-sinks c =
    let network = c.args.network.now in
    let signs = c.args.signs.now in
    let forest = c.args.forest.now in
    let phases = c.args.phases in
    let cells = c.in_ok-kept.field-0.cells.items in
    let plans = c.in_ok-kept.field-0.plans.items in
    let m : NetworkCover network signs forest c.args.bounds.w c.args.bounds.h phases c.in_ok-kept.field-0.kept.items cells plans =
    record {
      gates = c.requires.forest.0;
      are_gates = c.requires.forest.1;
      is_forest = c.requires.forest.2;
      whole = subst IsForest c.forest.view_is c.forest.invariant;
      some_phase = c.requires.some_phase;
      few_phases = c.requires.few_phases;
      cover = c.in_ok-kept.ensures;
    } in
    let all_ends : c.as_slice-2.result.now ≡ forest.ends = c.as_slice-2.ensures.value ∙ ap (λ (f : ForestData). f.ends) c.forest.view_is in
    let taken = c.in_ok-cells.field-0.cells.items in
    let numbered = c.in_ok-cells.field-0.ends.items in
    let take : AreTaken cells forest.ends taken numbered =
    subst (λ l. AreTaken l forest.ends taken numbered) c.as_slice.ensures.value
    (subst (λ l. AreTaken c.as_slice.result.now l taken numbered) all_ends c.in_ok-cells.ensures) in
    subst (λ l. All (λ cell. cell < length l) c.as_slice-4.result.now) (sym c.as_slice-3.ensures.value)
    (subst (All (λ cell. cell < length plans)) (sym c.as_slice-4.ensures.value) (taken_there m taken numbered take))

pub deck_of-requires-clause-plans : goal.deck_of-requires-clause-plans
deck_of-requires-clause-plans c =
    let network = c.args.network.now in
    let signs = c.args.signs.now in
    let forest = c.args.forest.now in
    let phases = c.args.phases in
    let cells = c.in_ok-kept.field-0.cells.items in
    let plans = c.in_ok-kept.field-0.plans.items in
    let m : NetworkCover network signs forest c.args.bounds.w c.args.bounds.h phases c.in_ok-kept.field-0.kept.items cells plans =
    record {
      gates = c.requires.forest.0;
      are_gates = c.requires.forest.1;
      is_forest = c.requires.forest.2;
      whole = subst IsForest c.forest.view_is c.forest.invariant;
      some_phase = c.requires.some_phase;
      few_phases = c.requires.few_phases;
      cover = c.in_ok-kept.ensures;
    } in
    let all_ends : c.as_slice-2.result.now ≡ forest.ends = c.as_slice-2.ensures.value ∙ ap (λ (f : ForestData). f.ends) c.forest.view_is in
    let taken = c.in_ok-cells.field-0.cells.items in
    let numbered = c.in_ok-cells.field-0.ends.items in
    let take : AreTaken cells forest.ends taken numbered =
    subst (λ l. AreTaken l forest.ends taken numbered) c.as_slice.ensures.value
    (subst (λ l. AreTaken c.as_slice.result.now l taken numbered) all_ends c.in_ok-cells.ensures) in
    let leaves : c.forest.inside.leaves ≡ forest.leaves = ap (λ (f : ForestData). f.leaves) c.forest.view_is in
    let new = c.in_ok-plans.field-0.plans.items in
    let place = c.in_ok-plans.field-0.place.items in
    let last = c.in_ok-plans.field-0.ends.items in
    let buffered : AreBuffered forest.leaves phases plans taken new place last =
    subst (λ n. AreBuffered n phases plans taken new place last) leaves
    (subst (λ l. AreBuffered c.forest.inside.leaves phases l taken new place last) c.as_slice-3.ensures.value
    (subst (λ l. AreBuffered c.forest.inside.leaves phases c.as_slice-3.result.now l new place last) c.as_slice-4.ensures.value
    c.in_ok-plans.ensures)) in
    subst (ArePlans WithKeeper (leaf_count network)) (sym c.as_slice-5.ensures.value) (new_plans m taken numbered take new place last buffered)

pub deck_of-requires-clause-clocks_are : goal.deck_of-requires-clause-clocks_are
deck_of-requires-clause-clocks_are c =
    let network = c.args.network.now in
    let signs = c.args.signs.now in
    let forest = c.args.forest.now in
    let phases = c.args.phases in
    let cells = c.in_ok-kept.field-0.cells.items in
    let plans = c.in_ok-kept.field-0.plans.items in
    let m : NetworkCover network signs forest c.args.bounds.w c.args.bounds.h phases c.in_ok-kept.field-0.kept.items cells plans =
    record {
      gates = c.requires.forest.0;
      are_gates = c.requires.forest.1;
      is_forest = c.requires.forest.2;
      whole = subst IsForest c.forest.view_is c.forest.invariant;
      some_phase = c.requires.some_phase;
      few_phases = c.requires.few_phases;
      cover = c.in_ok-kept.ensures;
    } in
    let all_ends : c.as_slice-2.result.now ≡ forest.ends = c.as_slice-2.ensures.value ∙ ap (λ (f : ForestData). f.ends) c.forest.view_is in
    let taken = c.in_ok-cells.field-0.cells.items in
    let numbered = c.in_ok-cells.field-0.ends.items in
    let take : AreTaken cells forest.ends taken numbered =
    subst (λ l. AreTaken l forest.ends taken numbered) c.as_slice.ensures.value
    (subst (λ l. AreTaken c.as_slice.result.now l taken numbered) all_ends c.in_ok-cells.ensures) in
    let leaves : c.forest.inside.leaves ≡ forest.leaves = ap (λ (f : ForestData). f.leaves) c.forest.view_is in
    let new = c.in_ok-plans.field-0.plans.items in
    let place = c.in_ok-plans.field-0.place.items in
    let last = c.in_ok-plans.field-0.ends.items in
    let buffered : AreBuffered forest.leaves phases plans taken new place last =
    subst (λ n. AreBuffered n phases plans taken new place last) leaves
    (subst (λ l. AreBuffered c.forest.inside.leaves phases l taken new place last) c.as_slice-3.ensures.value
    (subst (λ l. AreBuffered c.forest.inside.leaves phases c.as_slice-3.result.now l new place last) c.as_slice-4.ensures.value
    c.in_ok-plans.ensures)) in
    subst (HaveClocksUpTo phases) (sym c.as_slice-5.ensures.value) (new_clocks m taken numbered take new place last buffered)

pub deck_of-requires-clause-ends : goal.deck_of-requires-clause-ends
deck_of-requires-clause-ends c =
    let network = c.args.network.now in
    let signs = c.args.signs.now in
    let forest = c.args.forest.now in
    let phases = c.args.phases in
    let cells = c.in_ok-kept.field-0.cells.items in
    let plans = c.in_ok-kept.field-0.plans.items in
    let m : NetworkCover network signs forest c.args.bounds.w c.args.bounds.h phases c.in_ok-kept.field-0.kept.items cells plans =
    record {
      gates = c.requires.forest.0;
      are_gates = c.requires.forest.1;
      is_forest = c.requires.forest.2;
      whole = subst IsForest c.forest.view_is c.forest.invariant;
      some_phase = c.requires.some_phase;
      few_phases = c.requires.few_phases;
      cover = c.in_ok-kept.ensures;
    } in
    let all_ends : c.as_slice-2.result.now ≡ forest.ends = c.as_slice-2.ensures.value ∙ ap (λ (f : ForestData). f.ends) c.forest.view_is in
    let taken = c.in_ok-cells.field-0.cells.items in
    let numbered = c.in_ok-cells.field-0.ends.items in
    let take : AreTaken cells forest.ends taken numbered =
    subst (λ l. AreTaken l forest.ends taken numbered) c.as_slice.ensures.value
    (subst (λ l. AreTaken c.as_slice.result.now l taken numbered) all_ends c.in_ok-cells.ensures) in
    let leaves : c.forest.inside.leaves ≡ forest.leaves = ap (λ (f : ForestData). f.leaves) c.forest.view_is in
    let new = c.in_ok-plans.field-0.plans.items in
    let place = c.in_ok-plans.field-0.place.items in
    let last = c.in_ok-plans.field-0.ends.items in
    let buffered : AreBuffered forest.leaves phases plans taken new place last =
    subst (λ n. AreBuffered n phases plans taken new place last) leaves
    (subst (λ l. AreBuffered c.forest.inside.leaves phases l taken new place last) c.as_slice-3.ensures.value
    (subst (λ l. AreBuffered c.forest.inside.leaves phases c.as_slice-3.result.now l new place last) c.as_slice-4.ensures.value
    c.in_ok-plans.ensures)) in
    subst (λ l. All (IsEndThere (length l)) c.as_slice-6.result.now) (sym c.as_slice-7.ensures.value)
    (subst (All (IsEndThere (length last))) (sym c.as_slice-6.ensures.value) (new_ends_there m taken numbered take new place last buffered))

pub deck_of-requires-clause-one_end : goal.deck_of-requires-clause-one_end
deck_of-requires-clause-one_end c =
    let network = c.args.network.now in
    let signs = c.args.signs.now in
    let forest = c.args.forest.now in
    let phases = c.args.phases in
    let cells = c.in_ok-kept.field-0.cells.items in
    let plans = c.in_ok-kept.field-0.plans.items in
    let m : NetworkCover network signs forest c.args.bounds.w c.args.bounds.h phases c.in_ok-kept.field-0.kept.items cells plans =
    record {
      gates = c.requires.forest.0;
      are_gates = c.requires.forest.1;
      is_forest = c.requires.forest.2;
      whole = subst IsForest c.forest.view_is c.forest.invariant;
      some_phase = c.requires.some_phase;
      few_phases = c.requires.few_phases;
      cover = c.in_ok-kept.ensures;
    } in
    let all_ends : c.as_slice-2.result.now ≡ forest.ends = c.as_slice-2.ensures.value ∙ ap (λ (f : ForestData). f.ends) c.forest.view_is in
    let taken = c.in_ok-cells.field-0.cells.items in
    let numbered = c.in_ok-cells.field-0.ends.items in
    let take : AreTaken cells forest.ends taken numbered =
    subst (λ l. AreTaken l forest.ends taken numbered) c.as_slice.ensures.value
    (subst (λ l. AreTaken c.as_slice.result.now l taken numbered) all_ends c.in_ok-cells.ensures) in
    ap length c.as_slice-6.ensures.value ∙ one_end m taken numbered take ∙ m.is_forest.ends_count
    ∙ sinks_of_network network m.gates m.are_gates

pub returns : goal.returns
returns c = λ gates are of.
    let network = c.args.network.now in
    let signs = c.args.signs.now in
    let forest = c.args.forest.now in
    let phases = c.args.phases in
    let cells = c.in_ok-kept.field-0.cells.items in
    let plans = c.in_ok-kept.field-0.plans.items in
    let m : NetworkCover network signs forest c.args.bounds.w c.args.bounds.h phases c.in_ok-kept.field-0.kept.items cells plans =
    record {
      gates = gates;
      are_gates = are;
      is_forest = of;
      whole = subst IsForest c.forest.view_is c.forest.invariant;
      some_phase = c.requires.some_phase;
      few_phases = c.requires.few_phases;
      cover = c.in_ok-kept.ensures;
    } in
    let all_ends : c.as_slice-2.result.now ≡ forest.ends = c.as_slice-2.ensures.value ∙ ap (λ (f : ForestData). f.ends) c.forest.view_is in
    let taken = c.in_ok-cells.field-0.cells.items in
    let numbered = c.in_ok-cells.field-0.ends.items in
    let take : AreTaken cells forest.ends taken numbered =
    subst (λ l. AreTaken l forest.ends taken numbered) c.as_slice.ensures.value
    (subst (λ l. AreTaken c.as_slice.result.now l taken numbered) all_ends c.in_ok-cells.ensures) in
    let leaves : c.forest.inside.leaves ≡ forest.leaves = ap (λ (f : ForestData). f.leaves) c.forest.view_is in
    let new = c.in_ok-plans.field-0.plans.items in
    let place = c.in_ok-plans.field-0.place.items in
    let last = c.in_ok-plans.field-0.ends.items in
    let buffered : AreBuffered forest.leaves phases plans taken new place last =
    subst (λ n. AreBuffered n phases plans taken new place last) leaves
    (subst (λ l. AreBuffered c.forest.inside.leaves phases l taken new place last) c.as_slice-3.ensures.value
    (subst (λ l. AreBuffered c.forest.inside.leaves phases c.as_slice-3.result.now l new place last) c.as_slice-4.ensures.value
    c.in_ok-plans.ensures)) in
    let new_plans_are = c.as_slice-5.ensures.value in
    let new_ends = c.as_slice-6.ensures.value in
    let lasts = c.as_slice-7.ensures.value in
    record {
      plain = deck_in m WithKeeper;
      of_signs = is_deck_in m WithKeeper (deck_in m WithKeeper) refl;
      circuit_is = c.in_ok-circuit.ensures
          ∙ (λ i. made_deck WithKeeper network phases signs (new_plans_are i) (new_ends i) (lasts i)) ∙ is_buffered_circuit m taken numbered take new place last buffered;
    }
