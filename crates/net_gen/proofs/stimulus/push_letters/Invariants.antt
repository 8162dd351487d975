use Rattle.std.proofs.Common.{◌≡◌, ◌++◌, map}
use Rattle.stim_text.specs.CycleLines.{bit_letter}
use Rattle.net_gen.specs.Stimulus.{stimulus_cycle}
use Rattle.net_gen.proofs.stimulus.push_letters.Given as goal

abbrev pub invariant-pins : goal.invariant-pins
invariant-pins l = l.text.items ≡ l.fn.text.items ++ map bit_letter (stimulus_cycle l.seed l.pin l.cycle)
