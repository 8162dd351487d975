use Rattle.std.proofs.Common.{◌≡◌, ◌-◌, map}
use Rattle.std.specs.List.{range_with_len}
use Rattle.net_gen.specs.Generated.{table_signal}
use Rattle.net_gen.proofs.drawn_network.outputs_of.Given as goal

abbrev pub invariant-outputs : goal.invariant-outputs
invariant-outputs l = l.outputs.items ≡ map (table_signal l.tables) (range_with_len (l.tables - 16) l.k)
