use Rattle.std.proofs.Common.{◌≡◌, ℕ, subst, map, get_or}
use Rattle.dom_base.specs.declared.polarity.ToVss.{ToVss}
use Rattle.sp_network.specs.declared.sp.Sp.{Sp}
use Rattle.sp_network.specs.TypedTree.{tree_of}
use Rattle.clock_phase.specs.Levels.{cells_read, greatest}
use Rattle.clock_phase.proofs.Greatest.{level_of_both}
use Rattle.clock_phase.proofs.clocks.+greatest_level_read.Goals as goal

pub returns-in-Series : goal.returns-in-Series
returns-in-Series t c =
    let read = λ (n : ℕ) (tree : Sp ToVss). n ≡ greatest (map (λ cell. get_or c.args.levels.now cell 0) (cells_read c.args.leaves (tree_of tree))) in
    let whole = c.in-Series.is in
    rw whole (level_of_both c.args.leaves (λ cell. get_or c.args.levels.now cell 0) (tree_of c.in-Series.left.value) (tree_of c.in-Series.right.value) _ _ c.max.result
    (subst (read c.greatest_level_read.result) c.deref.ensures c.greatest_level_read.ensures)
    (subst (read c.greatest_level_read-in-Series.result) c.deref-in-Series.ensures c.greatest_level_read-in-Series.ensures) c.max.ensures)

pub returns-in-Parallel : goal.returns-in-Parallel
returns-in-Parallel t c =
    let read = λ (n : ℕ) (tree : Sp ToVss). n ≡ greatest (map (λ cell. get_or c.args.levels.now cell 0) (cells_read c.args.leaves (tree_of tree))) in
    let whole = c.in-Parallel.is in
    rw whole (level_of_both c.args.leaves (λ cell. get_or c.args.levels.now cell 0) (tree_of c.in-Parallel.left.value) (tree_of c.in-Parallel.right.value) _ _ c.max-in-Parallel.result
    (subst (read c.greatest_level_read-in-Parallel.result) c.deref-in-Parallel.ensures c.greatest_level_read-in-Parallel.ensures)
    (subst (read c.greatest_level_read-in-Parallel-2.result) c.deref-in-Parallel-2.ensures c.greatest_level_read-in-Parallel-2.ensures) c.max-in-Parallel.ensures)
