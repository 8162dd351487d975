-- The network of a file of BLIF, the Berkeley Logic Interchange Format.
use Rattle.std.specs.Prelude.{ℕ, ◌≡◌, ◌==◌, Bool, List, [], length, map, Option, Some, slice_get}
use Rattle.blif_ast.specs.declared.letter.Letter.{Letter}
use Rattle.blif_ast.specs.BlifFileData.{BlifFileData}
use Rattle.network.specs.declared.network.NetLatch.{NetLatch}
use Rattle.model_calls.specs.Ends.{inputs_of, next_of}
use Rattle.model_calls.specs.Expanded.{PlacedLatch, PlacedTable, latches}
use Rattle.network.specs.NetworkData.{NetTableData, NetworkData}
use Rattle.model_calls.specs.Numbering.{IsLeastPrefix, IsLevelling, by_level, letters_w, names_by_number, pins, signals_by_number}
use Rattle.model_calls.specs.Occurrences.{main_model}
use Rattle.model_calls.specs.Refusal.{Refusal}
use Rattle.model_calls.specs.Refusals.{HasRefusal}
use Rattle.model_calls.specs.Signals.{Signal, signal_of}

-- a table by the signals that it reads
pub record TableBySignals : Type 0 where
  pub inputs : List (Option Signal)
  pub on : Bool
  pub rows : List (List Letter)

-- a latch by the signal that it reads
pub record LatchBySignals : Type 0 where
  pub input : Option Signal
  pub init : Bool

-- a number stands for the signal at that index of a list
abbrev pub numbered_table : List Signal → NetTableData → TableBySignals
numbered_table signals t = record { inputs = map (slice_get signals) t.inputs; on = t.on; rows = t.rows }

abbrev pub numbered_latch : List Signal → NetLatch → LatchBySignals
numbered_latch signals l = record { input = slice_get signals l.input; init = l.init }

abbrev pub placed_table : PlacedTable → TableBySignals
placed_table t = record { inputs = map Some (inputs_of t); on = t.table.on; rows = t.table.rows }

-- of the four start values 1 is true, and 0, 2 and 3 are false
abbrev pub placed_latch : PlacedLatch → LatchBySignals
placed_latch l = record { input = Some (next_of l); init = l.latch.init == 1 }

-- the network of a file, by levels of its signals and the width of the prefix for names that aren't the main model's
pub record IsNetworkBy (f : BlifFileData) (level : Signal → ℕ) (width : ℕ) (n : NetworkData) : Type 0 where
  pub name_is : n.name ≡ (main_model f).name
  pub names_are : n.names ≡ names_by_number (letters_w width) (signals_by_number f (by_level level f))
  pub inputs_are : n.inputs ≡ length (pins f)
  pub outputs_are : map (slice_get (signals_by_number f (by_level level f))) n.outputs
      ≡ map (λ name. Some (signal_of [] name)) (main_model f).outputs
  pub latches_are : map (numbered_latch (signals_by_number f (by_level level f))) n.latches ≡ map placed_latch (latches f)
  pub tables_are : map (numbered_table (signals_by_number f (by_level level f))) n.tables ≡ map placed_table (by_level level f)

-- the file has nothing to be refused for, and this is its network
pub record IsNetworkOf (f : BlifFileData) (n : NetworkData) : Type 0 where
  pub accepted : (r : Refusal) → HasRefusal f r → ⊥
  pub level : Signal → ℕ
  pub levels : IsLevelling f level
  pub width : ℕ
  pub prefix : IsLeastPrefix (main_model f) width
  pub network : IsNetworkBy f level width n
