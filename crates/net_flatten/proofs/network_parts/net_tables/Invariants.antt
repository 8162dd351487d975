use Rattle.std.proofs.Common.{◌≡◌, Some, map, take}
use Rattle.net_flatten.specs.NetworkParts.{levelled_in_network}
use Rattle.net_flatten.proofs.network_parts.net_tables.Given as goal

abbrev pub invariant-loop-index : goal.invariant-loop-index
invariant-loop-index l = map Some l.tables ≡ map (levelled_in_network l.file l.places l.parts) (take l.index l.ordered)
