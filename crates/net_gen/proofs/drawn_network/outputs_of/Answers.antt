use Rattle.std.proofs.Common.{◌+◌, ◌-◌, refl, arith}
use Rattle.net_gen.specs.Generated.{table_signal}
use Rattle.net_gen.proofs.Rows.{pushed}
use Rattle.net_gen.proofs.drawn_network.outputs_of.Goals as goal

pub outputs-preserved : goal.outputs-preserved
outputs-preserved c =
    pushed (table_signal c.args.tables) (c.args.tables - 16) c.outputs.k (c.args.tables - 16 + c.outputs.k) refl
    c.in_ok-push.ensures.items c.outputs.invariant (omega arith)
