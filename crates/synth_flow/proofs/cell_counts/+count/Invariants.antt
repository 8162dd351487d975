use Rattle.std.proofs.Common.{◌+◌, ◌*◌}
use Rattle.tree_map.proofs.ArmTrees.{arm_room}
use Rattle.synth_flow.proofs.cell_counts.+count.Given as goal

abbrev pub decreases-arm_count : goal.decreases-arm_count
decreases-arm_count l = arm_room l.arm

abbrev pub decreases-pair_count : goal.decreases-pair_count
decreases-pair_count l = 2 * l.place + 1
