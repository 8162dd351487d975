use Rattle.std.proofs.Common.{◌≡◌, ◌+◌, ◌-◌, ◌*◌, ◌≤◌}
use Rattle.tree_map.proofs.shape.Shape.at.Given as goal

abbrev pub invariant-rows : goal.invariant-rows
invariant-rows l = (1 ≤ l.height) × ((l.height - 1) * l.width + l.rest ≡ l.fn.index)

abbrev pub decreases-rows : goal.decreases-rows
decreases-rows l = l.rest
