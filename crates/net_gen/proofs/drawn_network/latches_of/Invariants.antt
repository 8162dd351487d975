use Rattle.std.proofs.Common.{◌≡◌, map}
use Rattle.std.specs.List.{range_with_len}
use Rattle.net_gen.specs.Generated.{generated_latch}
use Rattle.net_gen.proofs.drawn_network.latches_of.Given as goal

abbrev pub invariant-latches : goal.invariant-latches
invariant-latches l = l.latches.items ≡ map (generated_latch l.tables) (range_with_len 0 l.latch)
