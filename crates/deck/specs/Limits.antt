-- The limits on circuits, and how many ports have fixed names.
use Rattle.std.specs.Prelude.{ℕ, ◌^◌}

-- the greatest number of clocks
abbrev pub most_clocks : ℕ
most_clocks = 4

-- the number of ports before the first pin that are no clocks: `vdd`, `vss`, `lm`, `lmb`, `ls`, `lsb`, `rs` and `rsb`
abbrev pub unclocked_count : ℕ
unclocked_count = 8

-- the greatest number of pins and outputs that a circuit without devices is made with
abbrev pub most_pins_and_outputs : ℕ
most_pins_and_outputs = 1000000

abbrev pub most_ports : ℕ
most_ports = 2 ^ 20

abbrev pub most_devices : ℕ
most_devices = 2 ^ 24

-- the greatest depth of a subcircuit that calls others
abbrev pub most_depth : ℕ
most_depth = 64
