use Rattle.std.proofs.Common.{◌≡◌, length}
use Rattle.subckt_expand.proofs.slots.Slots.of_definition.Given as goal

abbrev pub invariant-loop-part : goal.invariant-loop-part
invariant-loop-part l = length l.slots.of_net ≡ length l.fn.definition.nets
