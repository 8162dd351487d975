-- All sinks are behind.
use Rattle.phase_assign.proofs.Searches.{at_first}
use Rattle.phase_assign.proofs.search.asked_at_first.Goals as goal

pub returns : goal.returns
returns c = at_first c.args.ends.now c.loop-end.end-index c.loop-end.work.items c.loop-end-test.false c.loop-end.invariant
