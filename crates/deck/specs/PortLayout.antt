-- Where the ports with some roles stand, as numbers from 0: `vdd` and `vss`, the clocks, `lm lmb ls lsb rs rsb`, the pins, the outputs.
use Rattle.std.specs.Prelude.{ℕ, ◌+◌}
use Rattle.deck.specs.Limits.{unclocked_count}
use Rattle.deck.specs.declared.role.Roles.{Roles}

abbrev pub first_clock : ℕ
first_clock = 2

-- of a pair the first port; the second one stands behind it
abbrev pub master_pair : Roles → ℕ
master_pair roles = roles.clocks + 2

abbrev pub slave_pair : Roles → ℕ
slave_pair roles = roles.clocks + 4

abbrev pub reset_pair : Roles → ℕ
reset_pair roles = roles.clocks + 6

abbrev pub first_pin : Roles → ℕ
first_pin roles = roles.clocks + unclocked_count

abbrev pub first_output : Roles → ℕ
first_output roles = first_pin roles + roles.pins

-- how many ports are sources: those before the first output
abbrev pub source_count : Roles → ℕ
source_count roles = first_output roles
