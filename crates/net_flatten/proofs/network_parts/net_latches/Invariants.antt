use Rattle.std.proofs.Common.{◌≡◌, Some, map, take}
use Rattle.net_flatten.specs.NetworkNumbers.{latches_among}
use Rattle.net_flatten.specs.NetworkParts.{latch_in_network}
use Rattle.net_flatten.proofs.network_parts.net_latches.Given as goal

abbrev pub invariant-loop-index : goal.invariant-loop-index
invariant-loop-index l = map Some l.latches.items ≡ map (latch_in_network l.file l.places) (latches_among (take l.index l.parts))
