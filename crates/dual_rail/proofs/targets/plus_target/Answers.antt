-- What a constant, a leaf and a node ask for.
use Rattle.std.proofs.Common.{length}
use Rattle.dual_rail.proofs.TargetsOf.{constant_asks, leaf_asks, node_asks, node_there}
use Rattle.dual_rail.proofs.targets.plus_target.Goals as goal

pub returns-in-Const : goal.returns-in-Const
returns-in-Const c = λ nodes are. constant_asks nodes c.args.part c.in-Const.bit c.in-Const.is

pub returns-in-Leaf : goal.returns-in-Leaf
returns-in-Leaf c = λ nodes are. leaf_asks nodes c.args.part c.in-Leaf.leaf c.in-Leaf.is

pub returns-in-Node : goal.returns-in-Node
returns-in-Node c = λ nodes are.
    node_asks nodes c.args.targets.now c.args.part c.in-Node.node _ c.in-Node.is (node_there (length c.args.targets.now) c.args.part c.in-Node.node c.in-Node.is c.requires) are
