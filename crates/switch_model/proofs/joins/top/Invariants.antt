use Rattle.std.proofs.Common.{◌≡◌, ◌<◌, length}
use Rattle.switch_model.specs.Joins.{top_of}
use Rattle.switch_model.proofs.joins.top.Given as goal

abbrev pub invariant-up : goal.invariant-up
invariant-up l = (l.at < length l.parents) × (top_of l.parents l.at ≡ top_of l.parents l.net)

abbrev pub decreases-up : goal.decreases-up
decreases-up l = l.at
