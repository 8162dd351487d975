use Rattle.plain_synthesis.proofs.plans.+tree_measures.Given as goal

abbrev pub decreases-tree_measures : goal.decreases-tree_measures
decreases-tree_measures l = l.fuel
