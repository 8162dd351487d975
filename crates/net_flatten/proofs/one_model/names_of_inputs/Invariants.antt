use Rattle.std.proofs.Common.{◌≡◌, take}
use Rattle.net_flatten.proofs.one_model.names_of_inputs.Given as goal

abbrev pub invariant-loop-k : goal.invariant-loop-k
invariant-loop-k l = l.names.items ≡ take l.k l.fn.network.names
