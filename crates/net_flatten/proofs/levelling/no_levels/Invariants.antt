use Rattle.std.proofs.Common.{◌≡◌, replicate}
use Rattle.net_flatten.proofs.levelling.no_levels.Given as goal

abbrev pub invariant-loop : goal.invariant-loop
invariant-loop l = l.levels.items ≡ replicate l.counter 0
