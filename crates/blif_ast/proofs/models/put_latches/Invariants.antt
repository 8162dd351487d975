use Rattle.std.proofs.Common.{◌≡◌, ◌++◌, take}
use Rattle.std.specs.List.{flat_map}
use Rattle.blif_ast.specs.Printed.{printed_line, latch_words}
use Rattle.blif_ast.proofs.models.put_latches.Given as goal

abbrev pub invariant-loop-latch : goal.invariant-loop-latch
invariant-loop-latch l = l.text.items ≡ l.fn.text.items ++ flat_map (λ latch. printed_line (latch_words latch)) (take l.latch-index l.latches)
