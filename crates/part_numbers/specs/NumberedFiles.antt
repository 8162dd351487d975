-- A file of BLIF, the Berkeley Logic Interchange Format, by numbers: its expanded list with a number in place of each signal.
use Rattle.std.specs.Prelude.{ℕ, ◌≡◌, ◌≤◌, false, List, [], drop, length, map, take, All, Option, Some, None, option_and_then, option_map, slice_get, slice_index_or}
use Rattle.std.specs.Set.{unique_keys}
use Rattle.blif_ast.specs.Cards.{same}
use Rattle.blif_ast.specs.BlifFileData.{BlifFileData}
use Rattle.blif_ast.specs.BlifModelData.{BlifModelData}
use Rattle.blif_ast.specs.declared.latch.Control.{Control}
use Rattle.part_numbers.specs.declared.numbered.PartCard.{PartCard}
use Rattle.part_numbers.specs.declared.numbered.PartCard.TheVariants.{Table, Latch as LatchAt}
use Rattle.model_calls.specs.Ends.{End, driven_end, main_inputs, main_outputs, read_ends}
use Rattle.model_calls.specs.Expanded.{BodyCard, LatchCard, LatchPart, PlacedPart, TableCard, TablePart, expanded}
use Rattle.network.specs.Limits.{most_signals}
use Rattle.model_calls.specs.Numbering.{is_main}
use Rattle.model_calls.specs.Occurrences.{first_model, main_model, names_of}
use Rattle.model_calls.specs.Signals.{Signal, signal_of}

-- a part as plain data over lists: the number of its model in the file and which card it is there, the numbers of the
-- signals that it reads and drives, and for a latch that a signal controls the number of that signal
pub record NumberedPartData : Type 0 where
  pub model : ℕ
  pub card : PartCard
  pub reads : List ℕ
  pub drives : ℕ
  pub control : Option ℕ

-- a file as plain data over lists: how many numbers there are, the main model's names, which have the first numbers, the
-- parts in order, and the numbers at the main model's inputs and outputs
pub record NumberedFileData : Type 0 where
  pub signals : ℕ
  pub names : List (List ℕ)
  pub parts : List NumberedPartData
  pub inputs : List ℕ
  pub outputs : List ℕ

-- the model of a number: the model at that index of the file
abbrev pub model_at : BlifFileData → ℕ → BlifModelData
model_at f model = slice_index_or f.models model (first_model [])

-- the card at an index of a model's tables or of its latches
abbrev pub card_at : BlifModelData → PartCard → Option BodyCard
card_at m (Table index) = option_map TableCard (slice_get m.tables index)
card_at m (LatchAt index) = option_map LatchCard (slice_get m.latches index)

-- a part by the card that it is and by the signals that it reads and drives
pub record PartBySignals : Type 0 where
  pub card : Option BodyCard
  pub reads : List (Option Signal)
  pub drives : Option Signal
  pub control : Option (Option Signal)

-- a number stands for the signal at that index of a list
abbrev pub numbered_part : BlifFileData → List Signal → NumberedPartData → PartBySignals
numbered_part f signals p = record {
  card = card_at (model_at f p.model) p.card;
  reads = map (slice_get signals) p.reads;
  drives = slice_get signals p.drives;
  control = option_map (slice_get signals) p.control;
}

-- the card of a part
abbrev pub card_of_part : PlacedPart → BodyCard
card_of_part (TablePart t) = TableCard t.table
card_of_part (LatchPart l) = LatchCard l.latch

-- the signal that controls a part, if it is a latch with one
abbrev pub control_of_part : PlacedPart → Option Signal
control_of_part (TablePart t) = None
control_of_part (LatchPart l) = option_map (signal_of l.path) (option_and_then (λ (c : Control). c.signal) l.latch.control)

-- the signals at some ends
abbrev pub signals_at : List End → List (Option Signal)
signals_at ends = map (λ (e : End). Some e.signal) ends

abbrev pub placed_part : PlacedPart → PartBySignals
placed_part part = record {
  card = Some (card_of_part part);
  reads = signals_at (read_ends part);
  drives = Some (driven_end part).signal;
  control = option_map Some (control_of_part part);
}

-- a list of signals that all differ, the main model's names first, numbers those of the expanded list
pub record IsNumberedFile (f : BlifFileData) (signals : List Signal) (n : NumberedFileData) : Type 0 where
  pub apart : (j k : ℕ) (s : Signal) → slice_get signals j ≡ Some s → slice_get signals k ≡ Some s → j ≡ k
  pub count : length signals ≡ n.signals
  pub few : n.signals ≤ most_signals
  pub names : n.names ≡ unique_keys same (names_of (main_model f))
  pub main_first : take (length n.names) signals ≡ map (signal_of []) n.names
  pub others_below : All (λ (s : Signal). is_main s.path ≡ false) (drop (length n.names) signals)
  pub inputs : map (slice_get signals) n.inputs ≡ signals_at (main_inputs f)
  pub outputs : map (slice_get signals) n.outputs ≡ signals_at (main_outputs f)
  pub parts : map (numbered_part f signals) n.parts ≡ map placed_part (expanded f)

-- there is such a list of signals
abbrev pub HasNumbers : BlifFileData → NumberedFileData → Type 0
HasNumbers f n = (signals : List Signal) × IsNumberedFile f signals n
