-- The file of a text so far, as the reader keeps it.
use Rattle.std.specs.Prelude.{ℕ, ◌≡◌, ◌≢◌, ◌<◌, ◌+◌, ◌-◌, ◌==◌, Bool, true, if◌then◌else◌, List, [], ◌∷◌, ◌++◌, length, drop, Option, Some, None}
use Rattle.std.specs.List.{flat_map}
use Rattle.std.specs.Option.{option_map, option_to_list}
use Rattle.blif_ast.specs.declared.card.Card.{Card}
use Rattle.blif_ast.specs.declared.card.Card.TheVariants.{Inputs, Outputs, Names, Latch, Subckt, Clock}
use Rattle.blif_ast.specs.declared.latch.Latch.{Latch as LatchValue}
use Rattle.blif_ast.specs.BlifModelData.{BlifModelData}
use Rattle.blif_ast.specs.TableData.{TableData}
use Rattle.blif_ast.specs.LogicalLines.{LogicalLine}
use Rattle.blif_ast.specs.Cards.{formal_of, actual_of}
use Rattle.blif_ast.specs.Models.{instance_of, latch_of}
use Rattle.blif_numbers.specs.Build.{Built, model_with_card, model_with_table, new_model, table_after_card, table_with_row}
use Rattle.blif_numbers.specs.Steps.{OpenTable as TableContext}
use Rattle.blif_numbers.specs.declared.open_model.OpenModel.{OpenModel}
use Rattle.blif_numbers.specs.declared.open_model.OpenTable.{OpenTable}
use Rattle.numbered_file.specs.NumberedData.{NumberedData}
use Rattle.numbered_file.specs.Numbered.{Part, InstancePart, LatchPart, name_of, model_by, table_by}
use Rattle.numbered_file.specs.OpenLists.{OpenLists, open_lists, with_inputs, with_outputs, with_words, with_parts}

-- the lists of the file, and the open model
pub record BuilderData : Type 0 where
  pub file : NumberedData
  pub open_model : Option OpenModel

-- whether rows end in 1, which they do where there are none
abbrev pub is_on : Option Bool → Bool
is_on None = true
is_on (Some on) = on

-- the letter that rows end in, if there are rows
abbrev pub value_letter : Option Bool → Option ℕ
value_letter None = None
value_letter (Some on) = Some (if on then 49 else 48)

-- what rows end in, after a row with this last letter
abbrev pub value_after : Option Bool → ℕ → Option Bool
value_after None letter = Some (letter == 49)
value_after (Some on) letter = Some on

-- the table that a card of so many words opens
abbrev pub opened_table : Card → ℕ → ℕ → Option OpenTable
opened_table Names line count = Some (record { width = count - 2; value = None; line = line })
opened_table _ line count = None

-- an open table as a row meets it
abbrev pub width_and_letter : OpenTable → TableContext
width_and_letter t = record { width = t.width; letter = value_letter t.value }

abbrev pub open_table : OpenLists → OpenTable → TableData
open_table lists t = table_by lists.text (is_on t.value) t.line lists.words lists.rows

abbrev pub table_of_open : Option OpenModel → Option OpenTable
table_of_open None = None
table_of_open (Some m) = m.table

abbrev pub model_of : List (List ℕ) → OpenLists → OpenModel → BlifModelData
model_of names lists m = model_by (name_of names m.name) m.line lists.inputs lists.outputs lists.parts

-- what was made of the lines so far
abbrev pub built_of : List (List ℕ) → OpenLists → Option OpenModel → Built
built_of names lists open_model = record {
  models = lists.models;
  model = option_map (model_of names lists) open_model;
  table = option_map (open_table lists) (table_of_open open_model);
}

abbrev pub built_in : BuilderData → Built
built_in b = built_of b.file.names (open_lists b.file) b.open_model

-- the same with the open table closed, and with the open model closed too
abbrev pub table_closed : Built → Built
table_closed b = record { models = b.models; model = option_map (λ m. model_with_table m b.table) b.model; table = None }

abbrev pub model_closed : Built → Built
model_closed b = record { models = b.models ++ option_to_list b.model; model = None; table = None }

-- it is known what rows end in where there are rows
abbrev pub HasValue : Option Bool → List ℕ → Type 0
HasValue None rows = rows ≡ []
HasValue (Some on) rows = rows ≢ []

-- the words and rows behind the last part are those of the open table
abbrev pub IsOpenTable : OpenLists → Option OpenTable → Type 0
IsOpenTable lists None = (lists.words ≡ []) × (lists.rows ≡ [])
IsOpenTable lists (Some t) = (length lists.words ≡ t.width + 1) × HasValue t.value lists.rows

-- nothing stands behind the last model but what belongs to the open one, which has a name
abbrev pub IsOpenModel : ℕ → OpenLists → Option OpenModel → Type 0
IsOpenModel count lists None = (lists.inputs ≡ []) × (lists.outputs ≡ []) × (lists.parts ≡ [])
IsOpenModel count lists (Some m) = m.name < count

pub record IsBuilder (b : BuilderData) : Type 0 where
  pub model : IsOpenModel (length b.file.names) (open_lists b.file) b.open_model
  pub table : IsOpenTable (open_lists b.file) (table_of_open b.open_model)

abbrev pub latch_parts : Option LatchValue → List Part
latch_parts latch = option_to_list (option_map LatchPart latch)

-- the words of bindings: each formal and its actual
abbrev pub binding_words : List (List ℕ) → List (List ℕ)
binding_words bindings = flat_map (λ word. formal_of word ∷ actual_of word ∷ []) bindings

-- the lists with what a card that neither opens nor closes a model says of it
abbrev pub card_lists : OpenLists → Card → LogicalLine → OpenLists
card_lists l Inputs line = with_inputs l (drop 1 line.words)
card_lists l Outputs line = with_outputs l (drop 1 line.words)
card_lists l Names line = with_words l (drop 1 line.words)
card_lists l Latch line = with_parts l (latch_parts (latch_of line.number line.words))
card_lists l Subckt line = with_parts l (InstancePart (instance_of line) ∷ [])
card_lists l _ line = l

-- a card that neither opens nor closes a model
pub data IsInner : Card → Type 0 where
  InnerInputs : IsInner Inputs
  InnerOutputs : IsInner Outputs
  InnerNames : IsInner Names
  InnerLatch : IsInner Latch
  InnerSubckt : IsInner Subckt
  InnerClock : IsInner Clock

-- the same after a row of the open table, after a card `.model` where no model is open, and after a card that neither opens
-- nor closes a model where no table is open
abbrev pub row_taken : Built → List (List ℕ) → Built
row_taken b words = record b { table = table_with_row b.table words }

abbrev pub model_taken : Built → LogicalLine → Built
model_taken b line = record { models = b.models; model = Some (new_model line); table = None }

abbrev pub card_taken : Built → Card → LogicalLine → Built
card_taken b card line = record b { model = option_map (λ m. model_with_card m card line) b.model; table = table_after_card card line }
