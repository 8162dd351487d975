use Rattle.std.proofs.Common.{◌≡◌, ◌++◌, take}
use Rattle.std.specs.List.{flat_map}
use Rattle.blif_ast.specs.Printed.{printed_line, instance_words}
use Rattle.blif_ast.proofs.models.put_instances.Given as goal

abbrev pub invariant-loop-instance : goal.invariant-loop-instance
invariant-loop-instance l = l.text.items ≡ l.fn.text.items ++ flat_map (λ instance. printed_line (instance_words instance)) (take l.instance-index l.instances)
