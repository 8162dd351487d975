-- Ports whose front follows the order of roles: the leading ports, then pins, then outputs.
use Rattle.std.specs.Prelude.{◌≡◌, ◌<◌, ◌≤◌, ◌+◌, ℕ, List, [], length, take, drop, get_or, All}
use Rattle.deck.specs.Limits.{most_clocks, unclocked_count}
use Rattle.deck.specs.Ports.{IsPin, IsOutput, leading_ports}

-- some number of clocks with which the names before this port are leading ports
pub record BeginsLeading (ports : List (List ℕ)) (port : ℕ) : Type 0 where
  pub clocks : ℕ
  pub some_clock : 1 ≤ clocks
  pub few_clocks : clocks ≤ most_clocks
  pub leading : port ≤ clocks + unclocked_count
  pub within : port ≤ length ports
  pub agrees : (k : ℕ) → k < port → get_or ports k [] ≡ get_or (leading_ports clocks) k []

-- with so many clocks the names leave the leading ports not behind this port
pub record LeavesLeading (ports : List (List ℕ)) (port clocks : ℕ) : Type 0 where
  pub at : ℕ
  pub not_behind : at ≤ port
  pub leading : at < clocks + unclocked_count
  pub differs : at < length ports → get_or ports at [] ≡ get_or (leading_ports clocks) at [] → ⊥

-- the ports begin with the leading ports, then come pins, then outputs
pub record BeginsGroups (ports : List (List ℕ)) (clocks p o : ℕ) : Type 0 where
  pub some_clock : 1 ≤ clocks
  pub few_clocks : clocks ≤ most_clocks
  pub leading : take (clocks + unclocked_count) ports ≡ leading_ports clocks
  pub long : clocks + unclocked_count ≤ length ports
  pub pins_within : p ≤ length (drop (clocks + unclocked_count) ports)
  pub outs_within : o ≤ length (drop p (drop (clocks + unclocked_count) ports))
  pub pins_are : All IsPin (take p (drop (clocks + unclocked_count) ports))
  pub outs_are : All IsOutput (take o (drop p (drop (clocks + unclocked_count) ports)))
