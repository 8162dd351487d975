use Rattle.std.proofs.Common.{◌≡◌, ◌≤◌, ◌<◌, ℕ, [], length, slice_index_or}
use Rattle.deck.specs.Ports.{leading_ports}
use Rattle.deck.proofs.port_order.count_leading.Given as goal

abbrev pub invariant-loop-port : goal.invariant-loop-port
invariant-loop-port l = record {
  within : l.port ≤ length l.ports;
  agrees : (k : ℕ) → k < l.port → slice_index_or l.ports k [] ≡ slice_index_or (leading_ports l.clocks) k [];
}
