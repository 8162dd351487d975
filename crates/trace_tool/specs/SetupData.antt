-- What the runs of a trace have in common, as plain data.
use Rattle.std.specs.Prelude.{Bool, List, [], false}
use Rattle.deck.specs.CircuitData.{CircuitData}
use Rattle.deck.specs.declared.role.Roles.{Roles}
use Rattle.port_runs.specs.declared.clocking.Clocking.{Clocking}
use Rattle.port_runs.specs.declared.clocking.Clocking.TheVariants.{Together}
use Rattle.trace_tool.specs.declared.options.ProbeWord.{ProbeWord}

-- a circuit with the roles of its ports and how its clocks fall, whether every event is told, and the probe words
pub record SetupData : Type 0 where
  pub circuit : CircuitData
  pub roles : Roles
  pub clocking : Clocking
  pub events : Bool
  pub probes : List ProbeWord

-- the setup of a circuit whose clocks fall together, and in which no event is told
abbrev pub silent : CircuitData → Roles → SetupData
silent circuit roles = record { circuit = circuit; roles = roles; clocking = Together; events = false; probes = [] }
