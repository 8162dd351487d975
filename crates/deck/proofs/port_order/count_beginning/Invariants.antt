use Rattle.std.proofs.Common.{◌≡◌, All, nat_eq, take, true}
use Rattle.std.specs.List.{starts_with}
use Rattle.deck.proofs.port_order.count_beginning.Given as goal

abbrev pub invariant-loop-index : goal.invariant-loop-index
invariant-loop-index l = All (λ name. starts_with nat_eq name l.front ≡ true) (take l.index l.names)
