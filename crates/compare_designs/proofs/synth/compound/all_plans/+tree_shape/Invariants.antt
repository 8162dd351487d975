use Rattle.compare_designs.proofs.synth.compound.all_plans.+tree_shape.Given as goal

abbrev pub decreases-tree_shape : goal.decreases-tree_shape
decreases-tree_shape l = l.fuel
