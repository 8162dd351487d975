-- The parts of a file of BLIF, the Berkeley Logic Interchange Format, by the numbers of their signals in their scopes.
use Rattle.std.specs.Prelude.{ℕ, ◌≡◌, ◌<◌, List, [], ◌∷◌, length, map, Contains, Option, Some, None, option_and_then, option_map}
use Rattle.blif_ast.specs.BlifFileData.{BlifFileData}
use Rattle.blif_ast.specs.TableData.{TableData}
use Rattle.blif_ast.specs.declared.latch.Control.{Control}
use Rattle.blif_ast.specs.declared.latch.Latch.{Latch}
use Rattle.model_calls.specs.Expanded.{BodyCard, LatchCard, TableCard}
use Rattle.part_numbers.specs.NumberedFiles.{NumberedPartData, card_at, model_at}
use Rattle.model_calls.specs.Occurrences.{names_of}
use Rattle.part_numbers.specs.SignalNumbers.{HasSignalNumber, SignalNumbersData, signal_number}
use Rattle.part_numbers.specs.declared.walk.ScopedPart.{ScopedPart}

-- the name of the signal that controls a latch, if there is one
abbrev pub control_name : Latch → Option (List ℕ)
control_name l = option_and_then (λ (c : Control). c.signal) l.control

-- a table or a latch of a scope by numbers
abbrev pub table_by_numbers : SignalNumbersData → ScopedPart → TableData → NumberedPartData
table_by_numbers n p t = record {
  model = p.model;
  card = p.card;
  reads = map (signal_number n p.scope p.model) t.inputs;
  drives = signal_number n p.scope p.model t.output;
  control = None;
}

abbrev pub latch_by_numbers : SignalNumbersData → ScopedPart → Latch → NumberedPartData
latch_by_numbers n p l = record {
  model = p.model;
  card = p.card;
  reads = signal_number n p.scope p.model l.input ∷ [];
  drives = signal_number n p.scope p.model l.output;
  control = option_map (signal_number n p.scope p.model) (control_name l);
}

-- a part by numbers: where its model has no such card it reads nothing
abbrev pub card_by_numbers : SignalNumbersData → ScopedPart → Option BodyCard → NumberedPartData
card_by_numbers n p (Some (TableCard t)) = table_by_numbers n p t
card_by_numbers n p (Some (LatchCard l)) = latch_by_numbers n p l
card_by_numbers n p _ = record { model = p.model; card = p.card; reads = []; drives = 0; control = None }

abbrev pub part_by_numbers : BlifFileData → SignalNumbersData → ScopedPart → NumberedPartData
part_by_numbers f n p = card_by_numbers n p (card_at (model_at f p.model) p.card)

-- the card of a part is there, and the names of its model have numbers in its scope
pub record IsNumberedPart (f : BlifFileData) (n : SignalNumbersData) (p : ScopedPart) : Type 0 where
  pub model_in : p.model < length f.models
  pub card : BodyCard
  pub card_is : card_at (model_at f p.model) p.card ≡ Some card
  pub numbered : (name : List ℕ) → Contains (names_of (model_at f p.model)) name → HasSignalNumber n p.scope p.model name
