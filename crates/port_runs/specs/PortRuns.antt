-- Legal runs of a circuit by its ports: lists of events and moves, cut anywhere. The ports stand in the order of roles, and all
-- but the outputs are sources. A port is called by its place in this order, from 0, which is its net's number.
use Rattle.std.specs.Prelude.{List, [], ◌≡◌}
use Rattle.dom_base.specs.declared.tri.Tri.{Tri}
use Rattle.deck.specs.CircuitData.{CircuitData}
use Rattle.deck.specs.declared.role.Roles.{Roles}
use Rattle.switch_model.specs.LinksData.{links_of}
use Rattle.switch_model.specs.Power.{power_values}
use Rattle.port_runs.specs.Environment.{Move, Reset, Step, World, none_fallen, settings_of}
use Rattle.port_runs.specs.declared.clocking.Clocking.{Clocking}
use Rattle.port_runs.specs.declared.clocking.Clocking.TheVariants.{Together}
use Rattle.port_runs.specs.LegalSteps.{ClockedLinks, DoesIn, LeadsIn, MayMoveIn, RestsIn}
use Rattle.port_runs.specs.Moves.{set_all}

-- no net that is no source differs from its target
abbrev pub Rests : CircuitData → Roles → World → Type 0
Rests c roles w = RestsIn (links_of c roles) w

-- the circuit with the clocks and the pins of its roles
abbrev pub clocked_ports : Clocking → CircuitData → Roles → ClockedLinks
clocked_ports clocking c roles = record { links = links_of c roles; clocking = clocking; clocks = roles.clocks; pins = roles.pins }

-- what a move needs
abbrev pub MayMoveBy : Clocking → CircuitData → Roles → Move → World → Type 0
MayMoveBy clocking c roles move w = MayMoveIn (clocked_ports clocking c roles) move w

-- the ports of a move are set together
abbrev pub SetsPorts : Roles → Move → World → List Tri → Type 0
SetsPorts roles move w values = values ≡ set_all w.values (settings_of roles move w.risen)

-- what a step does: one net takes its target, or the ports of a move are set together
abbrev pub DoesBy : Clocking → CircuitData → Roles → Step → World → World → Type 0
DoesBy clocking c roles step w w' = DoesIn (clocked_ports clocking c roles) (SetsPorts roles) step w w'

-- steps lead from one state to another
abbrev pub LeadsBy : Clocking → CircuitData → Roles → List Step → World → World → Type 0
LeadsBy clocking c roles steps w w' = LeadsIn (clocked_ports clocking c roles) (SetsPorts roles) steps w w'

-- the power state: the ports as the circuit is switched on, and all other nets Unknown
abbrev pub power_world : CircuitData → Roles → World
power_world c roles = record { place = Reset; risen = 0; fallen = none_fallen; past = []; pins = []; values = power_values c roles }

-- a legal run: steps from the power state to this one
abbrev pub RunsBy : Clocking → CircuitData → Roles → List Step → World → Type 0
RunsBy clocking c roles steps w = LeadsBy clocking c roles steps (power_world c roles) w

-- the same where all clocks fall together
abbrev pub MayMove : CircuitData → Roles → Move → World → Type 0
MayMove c roles move w = MayMoveBy Together c roles move w

abbrev pub Does : CircuitData → Roles → Step → World → World → Type 0
Does c roles step w w' = DoesBy Together c roles step w w'

abbrev pub Leads : CircuitData → Roles → List Step → World → World → Type 0
Leads c roles steps w w' = LeadsBy Together c roles steps w w'

abbrev pub Runs : CircuitData → Roles → List Step → World → Type 0
Runs c roles steps w = RunsBy Together c roles steps w
