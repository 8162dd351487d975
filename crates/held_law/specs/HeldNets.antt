-- Nets of a cell by the devices of its circuit, and what they hold while the cells before it are precharged (Rabaey, Digital Integrated
-- Circuits: keepers; Harris and Horowitz, Skew-tolerant domino circuits).
use Rattle.std.specs.Prelude.{Bool, Contains, List, ℕ, ◌+◌, ◌≡◌, ◌⊎◌}
use Rattle.dom_base.specs.declared.kind.Kind.TheVariants.{Keep}
use Rattle.dom_base.specs.declared.tri.Tri.{Tri}
use Rattle.dom_base.specs.declared.tri.Tri.TheVariants.{One, Zero}
use Rattle.deck.specs.CircuitData.{CircuitData}
use Rattle.deck.specs.PortLayout.{first_clock, source_count}
use Rattle.deck.specs.Switches.{value_of}
use Rattle.deck.specs.declared.device.Device.{Device}
use Rattle.deck.specs.declared.role.Roles.{Roles}
use Rattle.switch_model.specs.Components.{IsNetOf}
use Rattle.switch_model.specs.Laws.{EndsAt}
use Rattle.switch_model.specs.LinksData.{is_first}
use Rattle.switch_model.specs.Targets.{IsTarget}
use Rattle.port_runs.specs.Environment.{Step, World}
use Rattle.port_runs.specs.Periods.{IsDynamicNet}
use Rattle.port_runs.specs.PortRuns.{RunsBy}
use Rattle.port_runs.specs.declared.clocking.Clocking.TheVariants.{Overlapping}

-- the net holds its target: it has no event
abbrev pub IsAtTarget : List Device → (ℕ → Bool) → List Tri → ℕ → Type 0
IsAtTarget devices is_source values n = IsTarget devices is_source values n (value_of values n)

-- a net of the cell of a dynamic net: this net, a net, no source, that devices join to it, whatever their gates (the foot and the inner
-- nets of the cell's tree), or the net that gates its keeper (the cell's output)
abbrev pub IsNetOfCell : List Device → (ℕ → Bool) → ℕ → ℕ → Type 0
IsNetOfCell devices is_source dynamic n =
    IsNetOf devices is_source dynamic n
    ⊎ ((d : Device) × Contains devices d × (d.kind ≡ Keep) × EndsAt d dynamic × (d.gate ≡ n))

-- In each state of each legal run in which clocks may overlap, while a clock is 0 and the next one is 1, each net of each cell of this next
-- clock holds its target. Clocks rise in order, so that is from the fall of the one to the fall of the other.
abbrev pub HeldNetsHoldTargets : CircuitData → Roles → Type 0
HeldNetsHoldTargets c roles =
    (steps : List Step) (w : World) (i n m : ℕ) → RunsBy Overlapping c roles steps w
    → value_of w.values (first_clock + i) ≡ Zero → value_of w.values (first_clock + (i + 1)) ≡ One
    → (d : IsDynamicNet c roles n) → (d.precharge).gate ≡ first_clock + (i + 1)
    → IsNetOfCell c.devices (is_first (source_count roles)) n m
    → IsAtTarget c.devices (is_first (source_count roles)) w.values m
