use Rattle.std.proofs.Common.{◌≡◌, map, take}
use Rattle.numbered_file.specs.Numbered.{file_of}
use Rattle.numbered_signals.specs.ScopeRoots.{signals_with}
use Rattle.part_numbers.specs.PartNumbers.{part_by_numbers}
use Rattle.numbered_signals.proofs.parts.number_parts.Given as goal

abbrev pub invariant-loop-part : goal.invariant-loop-part
invariant-loop-part l = l.all.items ≡ map (part_by_numbers (file_of l.file) (signals_with l.file l.roots)) (take l.part-index l.parts)
