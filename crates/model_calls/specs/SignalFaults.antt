-- What is wrong with the signals of a file of BLIF, the Berkeley Logic Interchange Format, over its expanded list.
use Rattle.std.specs.Prelude.{◌≡◌, ◌≢◌, ◌⊎◌, List, [], ◌∷◌, ◌++◌, map, Contains, Option, Some}
use Rattle.std.specs.List.{flat_map}
use Rattle.blif_ast.specs.BlifFileData.{BlifFileData}
use Rattle.model_calls.specs.Ends.{End, Clocking, drivers, driven_end, inputs_of, main_inputs, main_outputs, output_of, read_ends}
use Rattle.model_calls.specs.Expanded.{PlacedPart, PlacedTable, expanded, tables}
use Rattle.model_calls.specs.Signals.{Signal}
use Rattle.model_calls.specs.Reaches.{Reaches}

abbrev pub signals : List End → List Signal
signals all = map (λ (e : End). e.signal) all

-- 15: a part drives a signal that has an earlier driver, main inputs being earliest
abbrev pub IsDrivenTwice : BlifFileData → List PlacedPart → PlacedPart → Type 0
IsDrivenTwice f before part = Contains (signals (main_inputs f ++ map driven_end before)) (driven_end part).signal

-- 16: a reader's signal has no driver
abbrev pub IsUndriven : BlifFileData → List End → End → Type 0
IsUndriven f before reader = Contains (signals (drivers f)) reader.signal → ⊥

-- the output of a table depends on its inputs, whatever its rows
abbrev pub IsFedBy : BlifFileData → Signal → Signal → Type 0
IsFedBy f output input = (t : PlacedTable) × Contains (tables f) t × (output_of t ≡ output) × Contains (inputs_of t) input

-- 17: the output of a table depends on itself through tables
abbrev pub IsOnCycle : BlifFileData → List PlacedTable → PlacedTable → Type 0
IsOnCycle f before t = Reaches (IsFedBy f) (output_of t) (output_of t)

-- two signals are there and differ
abbrev pub IsOther : Option End → Option End → Type 0
IsOther (Some earlier) (Some later) = earlier.signal ≢ later.signal
IsOther _ _ = ⊥

-- 18: a latch's edge or signal is another one than an earlier latch's; latches without a type are passed over
abbrev pub IsOtherControl : List Clocking → Clocking → Type 0
IsOtherControl before c = (b : Clocking) × Contains before b × ((b.edge ≢ c.edge) ⊎ IsOther b.signal c.signal)

-- the ends of a part: what it reads and what it drives
abbrev pub part_ends : PlacedPart → List End
part_ends part = read_ends part ++ driven_end part ∷ []

-- all ends but the main inputs: those of the expanded list, and the main outputs last
abbrev pub ends_but_inputs : BlifFileData → List End
ends_but_inputs f = flat_map part_ends (expanded f) ++ main_outputs f

-- 19: an end is at the signal that controls the latches, and is no main input
abbrev pub IsAtControl : Signal → List End → End → Type 0
IsAtControl control before e = e.signal ≡ control
