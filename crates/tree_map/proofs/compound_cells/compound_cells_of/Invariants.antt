use Rattle.std.specs.List.{AllZip}
use Rattle.compound_plan.specs.Plans.{IsCellOf}
use Rattle.tree_map.specs.CompoundCover.{HaveFirstClocks, cell_trees}
use Rattle.tree_map.proofs.RootTrees.{roots_before}
use Rattle.tree_map.proofs.compound_cells.compound_cells_of.Given as goal

abbrev pub invariant-loop-place : goal.invariant-loop-place
invariant-loop-place l = record {
  trees : AllZip (IsCellOf l.forest l.kept l.split) (roots_before l.kept l.place) (cell_trees l.plans.items);
  clocks : HaveFirstClocks l.plans.items;
}
