use Rattle.std.proofs.Common.{◌≡◌, ◌++◌, take}
use Rattle.net_flatten.specs.NetworkNumbers.{pin_numbers}
use Rattle.net_flatten.proofs.numbering.add_pins.Given as goal

abbrev pub invariant-loop-number : goal.invariant-loop-number
invariant-loop-number l = l.numbers.items ≡ l.fn.numbers.items ++ pin_numbers l.control (take l.number-index l.inputs)
