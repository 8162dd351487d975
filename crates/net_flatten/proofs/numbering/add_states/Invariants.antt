use Rattle.std.proofs.Common.{◌≡◌, ◌++◌, map, take}
use Rattle.net_flatten.specs.NetworkNumbers.{latches_among}
use Rattle.part_numbers.specs.NumberedFiles.{NumberedPartData}
use Rattle.net_flatten.proofs.numbering.add_states.Given as goal

abbrev pub invariant-loop-index : goal.invariant-loop-index
invariant-loop-index l = l.numbers.items ≡ l.fn.numbers.items ++ map (λ (p : NumberedPartData). p.drives) (latches_among (take l.index l.parts))
