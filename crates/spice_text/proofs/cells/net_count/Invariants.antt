use Rattle.std.proofs.Common.{◌≡◌, take}
use Rattle.deck.specs.Nets.{ends, numbers_used}
use Rattle.spice_text.proofs.cells.net_count.Given as goal

abbrev pub invariant-loop-device : goal.invariant-loop-device
invariant-loop-device l = l.count ≡ numbers_used 2 (ends (take l.device-index l.shape))
