use Rattle.std.proofs.Common.{sym}
use Rattle.tree_map.proofs.joins.joined.Goals as goal

pub returns-clause-sum : goal.returns-clause-sum
returns-clause-sum c = sym (c.node.ensures.adds c.args.left.now.sum c.args.right.now.sum)
