use Rattle.std.proofs.Common.{◌≡◌, replicate}
use Rattle.graph_order.specs.declared.traversal.Mark.TheVariants.{New}
use Rattle.graph_order.proofs.traversal.Traversal.new.Given as goal

abbrev pub invariant-loop : goal.invariant-loop
invariant-loop l = l.marks.items ≡ replicate l.counter New
