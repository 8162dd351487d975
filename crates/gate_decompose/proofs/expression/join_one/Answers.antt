-- An item under Not.
use Rattle.dom_base.proofs.Options.{if_ok-weaker}
use Rattle.gate_decompose.proofs.JoinedItems.{turned_item}
use Rattle.gate_decompose.proofs.expression.join_one.Goals as goal

pub returns-else-item-clause-makes : goal.returns-else-item-clause-makes
returns-else-item-clause-makes c =
    if_ok-weaker c.negate.result
    (λ r made names table way a plus e. turned_item names table way a plus c.args.item c.args.nodes.now.items c.negate.new.nodes.items r e c.if-item.false (λ name f. made names name a f))
    c.negate.ensures.makes
