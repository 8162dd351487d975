use Rattle.std.proofs.Common.{◌≡◌, map, max, take}
use Rattle.std.specs.List.{fold}
use Rattle.net_flatten.specs.Dependences.{level_at}
use Rattle.net_flatten.proofs.levelling.greatest.Given as goal

abbrev pub invariant-loop-number : goal.invariant-loop-number
invariant-loop-number l = l.most ≡ fold max 0 (map (level_at l.levels) (take l.number-index l.numbers))
