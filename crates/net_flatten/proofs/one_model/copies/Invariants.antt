use Rattle.std.proofs.Common.{◌≡◌, take}
use Rattle.net_flatten.proofs.one_model.copies.Given as goal

abbrev pub invariant-loop-k : goal.invariant-loop-k
invariant-loop-k l = l.copies.items ≡ take l.k l.rows
