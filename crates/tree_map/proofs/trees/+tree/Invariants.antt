use Rattle.std.proofs.Common.{◌+◌, ◌*◌}
use Rattle.tree_map.proofs.ArmTrees.{arm_room}
use Rattle.tree_map.proofs.trees.+tree.Given as goal

abbrev pub decreases-arm_tree : goal.decreases-arm_tree
decreases-arm_tree l = arm_room l.arm

abbrev pub decreases-pair_tree : goal.decreases-pair_tree
decreases-pair_tree l = 2 * l.place + 1
