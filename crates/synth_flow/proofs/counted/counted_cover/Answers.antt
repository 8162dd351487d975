use Rattle.std.proofs.Common.{◌≡◌, ◌||◌, ℕ, ap, arith, false, filter, get_or, length, rules, subst, sym, ◌∙◌}
use Rattle.std.specs.List.{list_any, range_with_len}
use Rattle.clock_phase.specs.Levels.{AreLevels}
use Rattle.dual_rail.specs.ForestData.{ForestData}
use Rattle.dual_rail.specs.ForestOrder.{IsForest}
use Rattle.dual_rail.proofs.Marks.{written_over}
use Rattle.tree_map.specs.MappedCover.{root_cell_numbers}
use Rattle.tree_map.specs.Plans.{roots}
use Rattle.synth_flow.specs.CellCounts.{AreTreesOf, is_read_in}
use Rattle.synth_flow.specs.NamedComplements.{is_plus_end}
use Rattle.synth_flow.proofs.LeafMarks.{marked_are}
use Rattle.synth_flow.proofs.SummaryFacts.{are_trees}
use Rattle.synth_flow.proofs.counted.counted_cover.Goals as goal

pub cell_numbers-requires : goal.cell_numbers-requires
cell_numbers-requires c =
    let is = subst IsForest c.forest.view_is c.forest.invariant in
    record { few = omega (arith, ap length c.as_slice.ensures.value, (c.in_ok-kept.ensures.chosen.1).plan.one_each, is.few_pairs) }

pub count_cells-requires-clause-trees : goal.count_cells-requires-clause-trees
count_cells-requires-clause-trees c =
    let forest = c.args.forest.now in
    let is = subst IsForest c.forest.view_is c.forest.invariant in
    let kept = c.in_ok-kept.kept.items in
    let chosen = c.in_ok-kept.ensures.chosen in
    (chosen.0, subst (λ ks. AreTreesOf forest ks chosen.0) (sym c.as_slice-3.ensures.value) (are_trees forest kept c.args.bounds.w c.args.bounds.h chosen.0 (chosen.1).plan is))

pub returns : goal.returns
returns c =
    let forest = c.args.forest.now in
    let is = subst IsForest c.forest.view_is c.forest.invariant in
    let kept = c.in_ok-kept.kept.items in
    let chosen = c.in_ok-kept.ensures.chosen in
    let are = subst (λ ks. AreTreesOf forest ks chosen.0) (sym c.as_slice-3.ensures.value) (are_trees forest kept c.args.bounds.w c.args.bounds.h chosen.0 (chosen.1).plan is) in
    let leaves : c.forest.inside.leaves ≡ forest.leaves = ap (λ (f : ForestData). f.leaves) c.forest.view_is in
    let levels = c.count_cells.new.levels in
    let old_levels = c.in_ok-levels.levels in
    let level_len : old_levels.len ≡ length old_levels.items = search rules in
    let marks = c.count_cells.new.marks in
    let old_marks = c.in_ok-marks.marks in
    let mark_len : old_marks.len ≡ length old_marks.items = search rules in
    let marks_now : c.as_slice-6.result.now ≡ marks =
    c.as_slice-6.ensures.value ∙ written_over old_marks.len marks old_marks.items (mark_len ∙ sym (c.count_cells.auto.marks ∙ ap length c.as_mut_slice-2.ensures.value)) in
    let test = λ (leaf : ℕ). is_read_in chosen.0 leaf || list_any (is_plus_end leaf) forest.ends in
    record {
      trees = chosen.0;
      chosen = chosen.1;
      cells_are = c.in_ok-cells.ensures ∙ ap root_cell_numbers c.as_slice.ensures.value;
      places_are = c.in_ok-places.ensures ∙ ap roots c.as_slice-2.ensures.value;
      levels_are = subst (AreLevels forest.leaves chosen.0)
          (sym (written_over old_levels.len levels old_levels.items (level_len ∙ sym (c.count_cells.auto.levels ∙ ap length c.as_mut_slice.ensures.value))))
          (c.count_cells.ensures.levels chosen.0 are);
      complements_are = c.in_ok-complements.ensures
          ∙ ap (λ l. filter (λ leaf. get_or l leaf false) (range_with_len 0 c.forest.inside.leaves)) marks_now
          ∙ marked_are c.forest.inside.leaves c.as_mut_slice-2.result.now marks test (c.as_mut_slice-2.ensures.value ∙ c.in_ok-marks.ensures.items_if_clones_equal (λ y e. e)) (c.count_cells.ensures.marks chosen.0 are)
          ∙ ap (λ n. filter test (range_with_len 0 n)) leaves;
    }
