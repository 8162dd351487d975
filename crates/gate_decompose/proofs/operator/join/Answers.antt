-- Two parts that are leaves or nodes get a node of their own.
use Rattle.std.proofs.Common.{arith}
use Rattle.std.proofs.lemmas.Grind.{common_steps}
use Rattle.dom_base.proofs.Options.{if_ok-weaker}
use Rattle.gate_decompose.proofs.MadeNodes.{joined, pushed_few}
use Rattle.gate_decompose.proofs.operator.join.Goals as goal

pub returns-in-Leaf-right : goal.returns-in-Leaf-right
returns-in-Leaf-right c =
    record {
      makes = if_ok-weaker c.push.result
          (λ r pushed names name a b e f. joined names name c.args.operator a b c.args.left c.args.right r c.args.nodes.now.items c.push.new.nodes.items c.in-Leaf.is c.in-Leaf-right.is e f (rw c.over.ensures at pushed))
          c.push.ensures;
      few = if_ok-weaker c.push.result (λ r pushed. rw pushed.nodes (grind (arith, common_steps))) c.push.ensures;
      operators = if_ok-weaker c.push.result (λ r pushed. pushed_few c.args.nodes.now.items c.push.new.nodes.items r c.over.result pushed) c.push.ensures;
    }
