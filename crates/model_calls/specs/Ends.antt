-- What tables and latches of the expanded list of a file of BLIF, the Berkeley Logic Interchange Format, read and drive, and
-- what controls them.
use Rattle.std.specs.Prelude.{ℕ, List, [], ◌∷◌, ◌++◌, map, Option}
use Rattle.std.specs.List.{filter_map, flat_map}
use Rattle.std.specs.Option.{option_map}
use Rattle.blif_ast.specs.declared.latch.Control.{Control}
use Rattle.blif_ast.specs.declared.latch.Edge2.{Edge2}
use Rattle.blif_ast.specs.BlifFileData.{BlifFileData}
use Rattle.blif_ast.specs.InstanceData.{InstanceData}
use Rattle.model_calls.specs.Expanded.{PlacedPart, PlacedLatch, PlacedTable, LatchPart, TablePart, expanded, latches}
use Rattle.model_calls.specs.Occurrences.{main_model}
use Rattle.model_calls.specs.Signals.{Signal, signal_of}

-- where a signal is read or driven: the line of the card, and the name that it has there
pub record End : Type 0 where
  pub signal : Signal
  pub line : ℕ
  pub name : List ℕ

abbrev pub end_at : List InstanceData → ℕ → List ℕ → End
end_at path line name = record { signal = signal_of path name; line = line; name = name }

-- what a part reads: the inputs of a table, the input of a latch
abbrev pub read_ends : PlacedPart → List End
read_ends (TablePart t) = map (end_at t.path t.table.line) t.table.inputs
read_ends (LatchPart l) = end_at l.path l.latch.line l.latch.input ∷ []

-- what a part drives: its output
abbrev pub driven_end : PlacedPart → End
driven_end (TablePart t) = end_at t.path t.table.line t.table.output
driven_end (LatchPart l) = end_at l.path l.latch.line l.latch.output

-- the signals of a table
abbrev pub inputs_of : PlacedTable → List Signal
inputs_of t = map (signal_of t.path) t.table.inputs

abbrev pub output_of : PlacedTable → Signal
output_of t = signal_of t.path t.table.output

-- the signals of a latch
abbrev pub next_of : PlacedLatch → Signal
next_of l = signal_of l.path l.latch.input

abbrev pub state_of : PlacedLatch → Signal
state_of l = signal_of l.path l.latch.output

-- the ends at the main model's ports
abbrev pub main_inputs : BlifFileData → List End
main_inputs f = map (end_at [] (main_model f).line) (main_model f).inputs

abbrev pub main_outputs : BlifFileData → List End
main_outputs f = map (end_at [] (main_model f).line) (main_model f).outputs

-- the drivers: main inputs first, then the outputs of tables and latches
abbrev pub drivers : BlifFileData → List End
drivers f = main_inputs f ++ map driven_end (expanded f)

-- the readers: the inputs of tables and latches, and main outputs last
abbrev pub readers : BlifFileData → List End
readers f = flat_map read_ends (expanded f) ++ main_outputs f

-- what a latch is clocked by: its edge and the signal, if it has one, with the line and the output of its card
pub record Clocking : Type 0 where
  pub edge : Edge2
  pub signal : Option End
  pub line : ℕ
  pub output : List ℕ

abbrev pub clocking : PlacedLatch → Control → Clocking
clocking l c = record {
  edge = c.edge;
  signal = option_map (end_at l.path l.latch.line) c.signal;
  line = l.latch.line;
  output = l.latch.output;
}

-- the clocking of a latch that has a type
abbrev pub clocking_of : PlacedLatch → Option Clocking
clocking_of l = option_map (clocking l) l.latch.control

abbrev pub clockings : BlifFileData → List Clocking
clockings f = filter_map clocking_of (latches f)

-- the signals that control latches, in order
abbrev pub controls : BlifFileData → List End
controls f = filter_map (λ (c : Clocking). c.signal) (clockings f)
