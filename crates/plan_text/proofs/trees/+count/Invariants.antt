use Rattle.std.proofs.Common.{◌+◌, ◌*◌}
use Rattle.tree_map.proofs.ArmTrees.{arm_room}
use Rattle.plan_text.proofs.trees.+count.Given as goal

abbrev pub decreases-arm_inner : goal.decreases-arm_inner
decreases-arm_inner l = arm_room l.arm

abbrev pub decreases-pair_inner : goal.decreases-pair_inner
decreases-pair_inner l = 2 * l.place + 1
