use Rattle.plain_synthesis.proofs.cells.+append_tree.Given as goal

abbrev pub decreases-append_tree : goal.decreases-append_tree
decreases-append_tree l = l.fuel
