use Rattle.std.proofs.Common.{◌+◌, ◌*◌}
use Rattle.subckt_expand.proofs.PartsReached.{IsReached}
use Rattle.subckt_expand.proofs.expand.Expanding.+parts.Given as goal

abbrev pub decreases-push_parts : goal.decreases-push_parts
decreases-push_parts l = 2 * l.unit + 1

abbrev pub decreases-push_call : goal.decreases-push_call
decreases-push_call l = 2 * l.call.now.unit + 2

abbrev pub invariant-push_parts-loop-part : goal.invariant-push_parts-loop-part
invariant-push_parts-loop-part l = IsReached l.fn.self l.unit l.part-index l.self
