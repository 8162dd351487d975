use Rattle.std.proofs.Common.{◌-◌, length}
use Rattle.graph_order.specs.Orders.{successors}
use Rattle.model_calls.specs.Recursions.{NoneBackBefore}
use Rattle.model_calls.proofs.recursion.first_back.Given as goal

abbrev pub invariant-instances : goal.invariant-instances
invariant-instances l = NoneBackBefore l.nodes l.model l.index

abbrev pub decreases-instances : goal.decreases-instances
decreases-instances l = length (successors l.nodes l.model) - l.index
