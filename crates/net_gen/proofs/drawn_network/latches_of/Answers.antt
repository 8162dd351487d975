use Rattle.std.proofs.Common.{refl, zero-add}
use Rattle.net_gen.specs.Generated.{generated_latch}
use Rattle.net_gen.proofs.Rows.{pushed}
use Rattle.net_gen.proofs.drawn_network.latches_of.Goals as goal

pub latches-preserved : goal.latches-preserved
latches-preserved c =
    pushed (generated_latch c.args.tables) 0 c.latches.latch c.latches.latch (zero-add c.latches.latch) c.in_ok-push.ensures.items c.latches.invariant refl
