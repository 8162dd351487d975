use Rattle.std.proofs.Common.{◌≡◌, true, take}
use Rattle.stim_text.specs.Stimuli.{are_letters}
use Rattle.stim_text.proofs.letters.are_letters.Given as goal

abbrev pub invariant-loop-letter : goal.invariant-loop-letter
invariant-loop-letter l = are_letters l.width (take l.letter-index l.letters) ≡ true
