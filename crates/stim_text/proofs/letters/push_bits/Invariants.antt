use Rattle.std.proofs.Common.{◌≡◌, ◌==◌, ◌++◌, map, take}
use Rattle.stim_text.proofs.letters.push_bits.Given as goal

abbrev pub invariant-loop-letter : goal.invariant-loop-letter
invariant-loop-letter l = l.bits.items ≡ l.fn.bits.items ++ map (λ b. b == 49) (take l.letter-index l.letters)
