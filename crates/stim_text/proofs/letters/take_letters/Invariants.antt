use Rattle.std.proofs.Common.{◌≡◌, filter, not, take}
use Rattle.dom_base.specs.Lines.{is_blank}
use Rattle.stim_text.proofs.letters.take_letters.Given as goal

abbrev pub invariant-loop-byte : goal.invariant-loop-byte
invariant-loop-byte l = l.letters.items ≡ filter (λ b. not (is_blank b)) (take l.byte-index l.kept)
