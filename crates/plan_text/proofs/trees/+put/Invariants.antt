use Rattle.std.proofs.Common.{◌+◌, ◌*◌}
use Rattle.tree_map.proofs.ArmTrees.{arm_room}
use Rattle.plan_text.proofs.trees.+put.Given as goal

abbrev pub decreases-put_arm : goal.decreases-put_arm
decreases-put_arm l = arm_room l.arm

abbrev pub decreases-put_pair : goal.decreases-put_pair
decreases-put_pair l = 2 * l.place + 1
