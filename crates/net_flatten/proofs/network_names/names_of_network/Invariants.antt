use Rattle.std.proofs.Common.{◌≡◌, map, take}
use Rattle.net_flatten.specs.NetworkNames.{network_names}
use Rattle.model_calls.specs.Numbering.{letters_w}
use Rattle.net_flatten.proofs.network_names.names_of_network.Given as goal

abbrev pub invariant-loop-index : goal.invariant-loop-index
invariant-loop-index l = l.names ≡ network_names (map (λ k. k.now) l.main_names) (letters_w l.width) (take l.index l.numbers)
