use Rattle.std.proofs.Common.{◌∙◌, ap, zero-add}
use Rattle.net_gen.specs.Draws.{seed_state, draw_state_after}
use Rattle.net_gen.specs.Generated.{generated_table, table_behind, table_signal}
use Rattle.net_gen.proofs.Rows.{pushed}
use Rattle.net_gen.proofs.States.{next_ten}
use Rattle.net_gen.proofs.drawn_network.tables_of.Goals as goal

pub tables-preserved : goal.tables-preserved
tables-preserved c =
    let k = c.tables.table in (
      c.in_ok-push_table.ensures.state ∙ ap (draw_state_after 10) c.tables.invariant.0 ∙ next_ten k (seed_state c.args.seed),
      pushed (generated_table c.args.seed c.args.tables) 0 k k (zero-add k) c.in_ok-push_table.ensures.table c.tables.invariant.1
          (ap (table_behind (table_signal c.args.tables k)) c.tables.invariant.0),
    )
