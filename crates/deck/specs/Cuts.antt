-- Circuits with their first devices alone.
use Rattle.std.specs.Prelude.{ℕ, take}
use Rattle.deck.specs.CircuitData.{CircuitData}
use Rattle.deck.specs.Nets.{ends, numbers_used}

-- the circuit with its first n devices: its nets are the ports, and those of these devices in order of first appearance
abbrev pub cut_to : CircuitData → ℕ → CircuitData
cut_to c n = record c { devices = take n c.devices; nets = take (numbers_used c.ports (ends (take n c.devices))) c.nets }
