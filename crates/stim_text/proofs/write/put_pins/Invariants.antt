use Rattle.std.proofs.Common.{◌≡◌, ◌++◌, map, take}
use Rattle.stim_text.specs.CycleLines.{bit_letter}
use Rattle.stim_text.proofs.write.put_pins.Given as goal

abbrev pub invariant-loop-pin : goal.invariant-loop-pin
invariant-loop-pin l = l.text.items ≡ l.fn.text.items ++ map bit_letter (take l.pin-index l.pins)
