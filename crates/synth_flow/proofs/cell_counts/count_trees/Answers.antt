-- One cell after the other.
use Rattle.std.proofs.Common.{◌≡◌, ◌+◌, ◌*◌, ◌∙◌, ◌||◌, ap, arith, false, get_or, length, subst, sym, take}
use Rattle.std.proofs.lemmas.List.{take_all}
use Rattle.std.proofs.lemmas.Option.{get_or_from_slice_get, slice_get_within}
use Rattle.plan_text.proofs.CellLoops.{few_places}
use Rattle.clock_phase.proofs.LevelsUpTo.{AreLevelsUpTo, all_levels, level_within, one_level_more}
use Rattle.tree_map.specs.Plans.{IsTreeOf, roots}
use Rattle.synth_flow.specs.CellCounts.{is_read_in}
use Rattle.deck_form.specs.NamedDecks.{reads}
use Rattle.synth_flow.proofs.CountedTrees.{root_there, root_tree}
use Rattle.deck_form.proofs.DeckForms.{all_zip_length}
use Rattle.synth_flow.proofs.LeafMarks.{any_more, marks_both}
use Rattle.synth_flow.proofs.cell_counts.count_trees.Goals as goal

pub pair_count-level-requires-clause-there : goal.pair_count-level-requires-clause-there
pair_count-level-requires-clause-there c =
    omega (arith, root_there c.args.kept.now c.args.places.now c.requires.places c.cells.k c.cells-test.true, c.requires.one_each)

pub overflow_add-levels : goal.overflow_add-levels
overflow_add-levels c =
    let trees = c.requires.trees.0 in
    let are = c.requires.trees.1 in
    let t = root_tree c.args.forest.now c.args.kept.now trees are c.args.places.now c.requires.places c.cells.k c.cells-test.true in
    let most = level_within c.args.forest.now.leaves trees c.cells.levels c.cells.k (c.cells.invariant.levels trees are) t.0 (are.earlier c.cells.k t.0 t.1) in
    omega (arith, most, c.pair_count-level.ensures.level t.0 t.2, c.cells-test.true, few_places c.args.kept.now c.args.places.now c.requires.places, c.requires.one_each, c.requires.forest.few_pairs)

pub cells-preserved : goal.cells-preserved
cells-preserved c = record {
  levels = λ trees are.
      let t = root_tree c.args.forest.now c.args.kept.now trees are c.args.places.now c.requires.places c.cells.k c.cells-test.true in
      one_level_more c.args.forest.now.leaves trees c.cells.levels c.cells.k _ t.0 are.earlier (c.cells.invariant.levels trees are)
      (omega (arith, c.cells-test.true, c.cells.auto.levels, c.requires.levels)) t.1 (ap (λ n. 1 + n) (c.pair_count-level.ensures.level t.0 t.2));
  marks = λ trees are.
      let t = root_tree c.args.forest.now c.args.kept.now trees are c.args.places.now c.requires.places c.cells.k c.cells-test.true in
      marks_both c.args.marks.now c.cells.marks c.pair_count-level.new.marks (is_read_in (take c.cells.k trees)) (λ leaf. reads (2 * leaf + 1) t.0) (is_read_in (take (c.cells.k + 1) trees))
      c.cells.auto.marks (c.cells.invariant.marks trees are) (c.pair_count-level.ensures.marks t.0 t.2)
      (λ leaf. any_more (reads (2 * leaf + 1)) trees c.cells.k t.0 (slice_get_within trees c.cells.k t.0 t.1) (sym (get_or_from_slice_get trees c.cells.k t.0 t.0 t.1)));
}

pub returns-clause-levels : goal.returns-clause-levels
returns-clause-levels c trees are =
    let count : length c.args.places.now ≡ length trees = ap length c.requires.places ∙ all_zip_length (IsTreeOf c.args.forest.now c.args.kept.now) (roots c.args.kept.now) trees are.trees_are in
    let k_is : c.cells.k ≡ length trees = omega (arith, c.cells-test.false, c.cells.auto.k-end, count) in
    all_levels c.args.forest.now.leaves trees c.cells.levels (c.cells.auto.levels ∙ c.requires.levels ∙ count)
    (subst (AreLevelsUpTo c.args.forest.now.leaves trees c.cells.levels) k_is (c.cells.invariant.levels trees are))

pub returns-clause-marks : goal.returns-clause-marks
returns-clause-marks c trees are leaf lt =
    let count : length c.args.places.now ≡ length trees = ap length c.requires.places ∙ all_zip_length (IsTreeOf c.args.forest.now c.args.kept.now) (roots c.args.kept.now) trees are.trees_are in
    c.cells.invariant.marks trees are leaf lt
    ∙ ap (λ l. get_or c.args.marks.now leaf false || is_read_in l leaf) (take_all c.cells.k trees (omega (arith, c.cells-test.false, count)))
