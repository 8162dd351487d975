use Rattle.std.proofs.Common.{◌≡◌, replicate, []}
use Rattle.net_flatten.proofs.dependence.lone_nodes.Given as goal

abbrev pub invariant-loop : goal.invariant-loop
invariant-loop l = l.nodes.items ≡ replicate l.counter []
