use Rattle.std.proofs.Common.{◌+◌, ◌*◌}
use Rattle.subckt_expand.proofs.expand.Expanding.+names.Given as goal

abbrev pub decreases-number : goal.decreases-number
decreases-number l = 3 * l.level + 2

abbrev pub decreases-number_own : goal.decreases-number_own
decreases-number_own l = 3 * l.level + 1

abbrev pub decreases-number_of : goal.decreases-number_of
decreases-number_of l = 3 * l.level + 1

abbrev pub decreases-number_outer : goal.decreases-number_outer
decreases-number_outer l = 3 * l.level
