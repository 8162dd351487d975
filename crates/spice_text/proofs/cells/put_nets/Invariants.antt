use Rattle.std.proofs.Common.{◌≡◌, ◌++◌, ◌∷◌, take}
use Rattle.std.specs.List.{flat_map}
use Rattle.deck.specs.Nets.{net_name}
use Rattle.spice_text.proofs.cells.put_nets.Given as goal

abbrev pub invariant-loop-net : goal.invariant-loop-net
invariant-loop-net l = l.text.items ≡ l.fn.text.items ++ flat_map (λ net. 32 ∷ net_name l.names net) (take l.net-index l.nets)
