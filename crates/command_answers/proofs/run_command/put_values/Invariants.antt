use Rattle.std.proofs.Common.{◌≡◌, ◌++◌, map, take}
use Rattle.command_answers.specs.Bits.{tri_of}
use Rattle.command_answers.proofs.run_command.put_values.Given as goal

abbrev pub invariant-loop-bit : goal.invariant-loop-bit
invariant-loop-bit l = l.values.items ≡ l.fn.values.items ++ map tri_of (take l.bit-index l.bits)
