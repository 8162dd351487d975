use Rattle.std.proofs.Common.{◌≡◌, map, take}
use Rattle.net_flatten.specs.NetworkParts.{network_place}
use Rattle.net_flatten.proofs.network_parts.find_places.Given as goal

abbrev pub invariant-loop-number : goal.invariant-loop-number
invariant-loop-number l = l.found.items ≡ map (network_place l.places) (take l.number-index l.numbers)
