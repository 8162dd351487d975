use Rattle.phase_buffer.proofs.LastReaders.{AreOfPlans, AreOfSinks}
use Rattle.phase_buffer.proofs.unbuffered.Unbuffered.find_readers.Given as goal

abbrev pub invariant-loop-plan : goal.invariant-loop-plan
invariant-loop-plan l = AreOfPlans l.fn.self l.plan-index l.clocks

abbrev pub invariant-loop-sink : goal.invariant-loop-sink
invariant-loop-sink l = AreOfSinks l.fn.self l.sink-index l.clocks
