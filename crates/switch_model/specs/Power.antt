-- The values of the nets at power on.
use Rattle.std.specs.Prelude.{◌-◌, List, [], ◌∷◌, ◌++◌, length, replicate}
use Rattle.dom_base.specs.declared.tri.Tri.{Tri}
use Rattle.dom_base.specs.declared.tri.Tri.TheVariants.{Zero, One, Unknown}
use Rattle.deck.specs.declared.role.Roles.{Roles}
use Rattle.deck.specs.CircuitData.{CircuitData}
use Rattle.deck.specs.PortLayout.{source_count}

-- at power on `vdd` is One, `vss` and all clocks are Zero; `lm`, `lmb`, `ls`, `lsb` are Zero, One, Zero, One;
-- `rs` is One and `rsb` Zero; all pins are Zero
abbrev pub source_values : Roles → List Tri
source_values roles =
    One ∷ Zero ∷ (replicate roles.clocks Zero ++ (Zero ∷ One ∷ Zero ∷ One ∷ One ∷ Zero ∷ []) ++ replicate roles.pins Zero)

-- the power state: the sources have their values, all other nets are Unknown
abbrev pub power_values : CircuitData → Roles → List Tri
power_values c roles = source_values roles ++ replicate (length c.nets - source_count roles) Unknown
