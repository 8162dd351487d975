use Rattle.std.proofs.Common.{◌≡◌, ◌++◌, length}
use Rattle.spice_text.specs.Text.{plus_lines}
use Rattle.plan_text.proofs.head.put_port_lines.Given as goal

abbrev pub invariant-groups : goal.invariant-groups
invariant-groups l = l.text ++ plus_lines l.rest ≡ l.fn.text ++ plus_lines l.names

abbrev pub decreases-groups : goal.decreases-groups
decreases-groups l = length l.rest
