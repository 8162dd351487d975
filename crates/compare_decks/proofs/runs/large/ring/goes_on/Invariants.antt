use Rattle.std.proofs.Common.{◌≡◌}
use Rattle.compare_decks.proofs.runs.large.ring.goes_on.Given as goal

abbrev pub invariant-loop : goal.invariant-loop
invariant-loop g l = l.sim.pick ≡ l.fn.sim.pick
