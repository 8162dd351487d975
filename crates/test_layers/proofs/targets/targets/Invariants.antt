use Rattle.std.proofs.Common.{◌≡◌}
use Rattle.test_layers.proofs.targets.targets.Given as goal

abbrev pub invariant-loop-net : goal.invariant-loop-net
invariant-loop-net l = l.links ≡ l.initial.links
