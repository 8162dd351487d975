use Rattle.std.proofs.Common.{ℕ, List, take}
use Rattle.clock_phase.proofs.LevelsUpTo.{AreLevelsUpTo}
use Rattle.sp_network.specs.Tree.{Tree}
use Rattle.synth_flow.specs.CellCounts.{AreTreesOf, is_read_in}
use Rattle.synth_flow.specs.NamedComplements.{MarksAlso}
use Rattle.synth_flow.proofs.cell_counts.count_trees.Given as goal

abbrev pub invariant-cells : goal.invariant-cells
invariant-cells l = record {
  levels : (trees : List (Tree ℕ)) → AreTreesOf l.forest l.kept trees → AreLevelsUpTo l.forest.leaves trees l.levels l.k;
  marks : (trees : List (Tree ℕ)) → AreTreesOf l.forest l.kept trees → MarksAlso l.fn.marks l.marks (is_read_in (take l.k trees));
}
