-- Items by their halves.
use Rattle.dom_base.proofs.Options.{if_ok-weaker}
use Rattle.gate_decompose.proofs.JoinedItems.{halves_made, one_made}
use Rattle.gate_decompose.proofs.expression.+join_all.Goals as goal

pub returns-in-len1-clause-makes : goal.returns-in-len1-clause-makes
returns-in-len1-clause-makes t c =
    if_ok-weaker c.join_one.result
    (λ r made names table way operands are.
    one_made names table way c.args.operator operands c.args.items.now _ c.args.nodes.now.items c.join_one.new.nodes.items r c.in-len1.len_at_least c.in-len1.len_below are
    (λ a plus e. made names table way a plus e))
    c.join_one.ensures.makes

pub returns-in_ok-right-in_default-clause-makes : goal.returns-in_ok-right-in_default-clause-makes
returns-in_ok-right-in_default-clause-makes t c =
    if_ok-weaker c.join.result
    (λ r made names table way operands are.
    halves_made names table way c.args.operator operands c.args.items.now c.div_ceil-half.result
    c.args.nodes.now.items c.join_all.new.nodes.items c.join_all-in_default.new.nodes.items c.join.new.nodes.items c.in_ok-left-in_default.left c.in_ok-right-in_default.right r
    c.in_default.len_at_least c.div_ceil-half.ensures are
    (λ w ops e. c.in_ok-left-in_default.ensures.makes names table w ops e) (λ w ops e. c.in_ok-right-in_default.ensures.makes names table w ops e)
    (λ name a b e f. made names name a b e f))
    c.join.ensures.makes
