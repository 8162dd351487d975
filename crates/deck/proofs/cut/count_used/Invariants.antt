use Rattle.std.proofs.Common.{◌≡◌, take}
use Rattle.deck.specs.Nets.{ends, numbers_used}
use Rattle.deck.proofs.cut.count_used.Given as goal

abbrev pub invariant-loop-device : goal.invariant-loop-device
invariant-loop-device l = l.count ≡ numbers_used l.ports (ends (take l.device-index l.devices))
