-- The models of a text as the reader makes them, line by line.
use Rattle.std.specs.Prelude.{ℕ, Bool, true, false, ◌==◌, if◌then◌else◌, List, [], ◌∷◌, ◌++◌, length, map, drop, slice_index_or, Option, Some, None}
use Rattle.std.specs.List.{take_while}
use Rattle.std.specs.Option.{option_to_list}
use Rattle.blif_ast.specs.declared.letter.Letter.{Letter}
use Rattle.blif_ast.specs.declared.card.Card.{Card}
use Rattle.blif_ast.specs.declared.card.Card.TheVariants.{Model, Inputs, Outputs, Names, Latch, Subckt, End}
use Rattle.blif_ast.specs.TableData.{TableData}
use Rattle.blif_ast.specs.BlifModelData.{BlifModelData}
use Rattle.blif_ast.specs.LogicalLines.{LogicalLine}
use Rattle.blif_ast.specs.Cards.{is_row, card_of, last_letter, last_word, table_inputs, inputs_card, outputs_card}
use Rattle.blif_ast.specs.Models.{row_letters, latch_of, instance_of, names_on, tables_of, latches_of, instances_of, models_of, is_inside}
use Rattle.blif_numbers.specs.Steps.{Context, OpenTable}

-- what was made of the lines so far: the closed models, the open model and its open table
pub record Built : Type 0 where
  pub models : List BlifModelData
  pub model : Option BlifModelData
  pub table : Option TableData

-- the letter that the rows of a table end in, if it has rows
abbrev pub first_letter_in : List (List Letter) → Bool → Option ℕ
first_letter_in [] on = None
first_letter_in (row ∷ rows) on = Some (if on then 49 else 48)

-- an open table as a row meets it
abbrev pub opened_by : Option TableData → Option OpenTable
opened_by None = None
opened_by (Some t) = Some (record { width = length t.inputs; letter = first_letter_in t.rows t.on })

abbrev pub has_model : Option BlifModelData → Bool
has_model None = false
has_model (Some m) = true

-- what the built parts say of the next line
abbrev pub context_in : Built → Context
context_in b = record { model = has_model b.model; table = opened_by b.table }

-- whether the rows end in 1, after a row with this last letter
abbrev pub on_after : List (List Letter) → Bool → ℕ → Bool
on_after [] on letter = letter == 49
on_after (row ∷ rows) on letter = on

abbrev pub table_with_row : Option TableData → List (List ℕ) → Option TableData
table_with_row None row = None
table_with_row (Some t) row =
    Some (record t { on = on_after t.rows t.on (last_letter row); rows = t.rows ++ row_letters row ∷ [] })

abbrev pub model_with_table : BlifModelData → Option TableData → BlifModelData
model_with_table m table = record m { tables = m.tables ++ option_to_list table }

-- the names, latch or instance of a card that neither opens nor closes a model, in the open one
abbrev pub model_with_card : BlifModelData → Card → LogicalLine → BlifModelData
model_with_card m Inputs line = record m { inputs = m.inputs ++ drop 1 line.words }
model_with_card m Outputs line = record m { outputs = m.outputs ++ drop 1 line.words }
model_with_card m Latch line = record m { latches = m.latches ++ option_to_list (latch_of line.number line.words) }
model_with_card m Subckt line = record m { instances = m.instances ++ instance_of line ∷ [] }
model_with_card m _ line = m

abbrev pub new_table : LogicalLine → TableData
new_table line = record { inputs = table_inputs line.words; output = last_word line.words; on = true; rows = []; line = line.number }

abbrev pub new_model : LogicalLine → BlifModelData
new_model line = record {
  name = slice_index_or line.words 1 [];
  inputs = [];
  outputs = [];
  tables = [];
  latches = [];
  instances = [];
  line = line.number;
}

-- the models with the open model closed
abbrev pub closed_models : List BlifModelData → Option BlifModelData → Option TableData → List BlifModelData
closed_models models None table = models
closed_models models (Some m) table = models ++ model_with_table m table ∷ []

-- the open model after a card that neither opens nor closes one
abbrev pub model_after_card : Option BlifModelData → Option TableData → Card → LogicalLine → Option BlifModelData
model_after_card None table card line = None
model_after_card (Some m) table card line = Some (model_with_card (model_with_table m table) card line)

-- the table that a card opens
abbrev pub table_after_card : Card → LogicalLine → Option TableData
table_after_card Names line = Some (new_table line)
table_after_card _ line = None

-- the built parts after a line without fault: one that is no card is a row
abbrev pub built_by : Built → Option Card → LogicalLine → Built
built_by b None line = record b { table = table_with_row b.table line.words }
built_by b (Some Model) line = record { models = closed_models b.models b.model b.table; model = Some (new_model line); table = None }
built_by b (Some End) line = record { models = closed_models b.models b.model b.table; model = None; table = None }
built_by b (Some card) line = record b { model = model_after_card b.model b.table card line; table = table_after_card card line }

abbrev pub built_after : Built → LogicalLine → Built
built_after b line = built_by b (card_of line) line

-- What the built parts and the lines that are left give together.

abbrev pub rows_on : List (List Letter) → Bool → List LogicalLine → Bool
rows_on [] on [] = on
rows_on [] on (row ∷ rows) = last_letter row.words == 49
rows_on (row ∷ more) on rows = on

abbrev pub table_with_rows : TableData → List LogicalLine → TableData
table_with_rows t rows = record t { on = rows_on t.rows t.on rows; rows = t.rows ++ map (λ row. row_letters row.words) rows }

abbrev pub tables_from : Option TableData → List LogicalLine → List TableData
tables_from None body = tables_of body
tables_from (Some t) body = table_with_rows t (take_while is_row body) ∷ tables_of body

abbrev pub model_with_lines : BlifModelData → Option TableData → List LogicalLine → BlifModelData
model_with_lines m table body = record m {
  inputs = m.inputs ++ names_on inputs_card body;
  outputs = m.outputs ++ names_on outputs_card body;
  tables = m.tables ++ tables_from table body;
  latches = m.latches ++ latches_of body;
  instances = m.instances ++ instances_of body;
}

abbrev pub models_from : Option BlifModelData → Option TableData → List LogicalLine → List BlifModelData
models_from None table rest = models_of rest
models_from (Some m) table rest = model_with_lines m table (take_while is_inside rest) ∷ models_of rest

abbrev pub finished : Built → List LogicalLine → List BlifModelData
finished b rest = b.models ++ models_from b.model b.table rest
