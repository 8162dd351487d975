use Rattle.std.proofs.Common.{◌≡◌, take}
use Rattle.deck.specs.Numbers.{with_all}
use Rattle.deck.proofs.number.add_all.Given as goal

abbrev pub invariant-loop-name : goal.invariant-loop-name
invariant-loop-name l = l.nets.keys ≡ with_all l.fn.nets.keys (take l.name-index l.names)
