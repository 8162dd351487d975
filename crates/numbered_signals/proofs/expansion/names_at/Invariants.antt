use Rattle.std.proofs.Common.{◌≡◌, map, take}
use Rattle.numbered_file.specs.Numbered.{named}
use Rattle.numbered_signals.proofs.expansion.names_at.Given as goal

abbrev pub invariant-loop-number : goal.invariant-loop-number
invariant-loop-number l = map (λ k. k.now) l.all.items ≡ named l.names (take l.number-index l.numbers)
