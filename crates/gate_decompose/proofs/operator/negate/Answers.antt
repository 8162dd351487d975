-- A part that is a leaf or a node gets a node of its own.
use Rattle.std.proofs.Common.{arith}
use Rattle.std.proofs.lemmas.Grind.{common_steps}
use Rattle.dom_base.proofs.Options.{if_ok-weaker}
use Rattle.gate_decompose.proofs.MadeNodes.{negated}
use Rattle.gate_decompose.proofs.operator.negate.Goals as goal

pub returns-in-Leaf : goal.returns-in-Leaf
returns-in-Leaf c = record {
  makes = if_ok-weaker c.push.result (λ r pushed names name a e. negated names name a c.args.part r c.args.nodes.now.items c.push.new.nodes.items c.in-Leaf.is e pushed) c.push.ensures;
  few = if_ok-weaker c.push.result (λ r pushed. rw pushed.nodes (grind (arith, common_steps))) c.push.ensures;
  operators = if_ok-weaker c.push.result (λ r pushed. rw pushed.nodes (grind (arith, common_steps))) c.push.ensures;
}
