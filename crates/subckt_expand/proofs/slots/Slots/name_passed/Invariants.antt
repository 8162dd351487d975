use Rattle.std.proofs.Common.{◌≡◌, length}
use Rattle.subckt_expand.proofs.slots.Slots.name_passed.Given as goal

abbrev pub invariant-loop-port : goal.invariant-loop-port
invariant-loop-port l = length l.self.of_net ≡ length l.fn.self.of_net
