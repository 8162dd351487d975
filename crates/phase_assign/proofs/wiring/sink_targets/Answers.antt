-- A sink more.
use Rattle.std.proofs.Common.{arith}
use Rattle.std.proofs.lemmas.Grind.{common_steps}
use Rattle.phase_assign.specs.Wiring.{IsAskedBy}
use Rattle.phase_assign.proofs.Targets.{zip_next}
use Rattle.phase_assign.proofs.wiring.sink_targets.Goals as goal

pub loop-sink-preserved : goal.loop-sink-preserved
loop-sink-preserved c = record {
  count = let so_far = c.loop-sink.invariant.count in rw c.in_ok-push.ensures.items (grind (arith, common_steps));
  ends = λ nodes are.
      zip_next (IsAskedBy nodes) c.args.sinks.now c.loop-sink.ends.items c.push.new.self.items c.loop-sink.sink-index _ c.asked_pair.result c.loop-sink.invariant.count c.loop-sink-test.true
      c.in_ok-push.ensures.items (c.loop-sink.invariant.ends nodes are) (c.asked_pair.ensures nodes are);
}
