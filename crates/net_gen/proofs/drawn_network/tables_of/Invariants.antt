use Rattle.std.proofs.Common.{◌≡◌, map}
use Rattle.std.specs.List.{range_with_len}
use Rattle.net_gen.specs.Generated.{generated_table, draw_state_before}
use Rattle.net_gen.proofs.drawn_network.tables_of.Given as goal

abbrev pub invariant-tables : goal.invariant-tables
invariant-tables l = (l.draws ≡ draw_state_before l.seed l.table) × (l.all ≡ map (generated_table l.seed l.tables) (range_with_len 0 l.table))
