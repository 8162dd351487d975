use Rattle.domino_cell.proofs.tree.TreeNames.+push.Given as goal

abbrev pub decreases-push : goal.decreases-push
decreases-push g l = goal.size-push g l
