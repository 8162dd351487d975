-- The models that the lines of a BLIF text say (Berkeley Logic Interchange Format).
use Rattle.std.specs.Prelude.{ℕ, ◌-◌, Bool, true, ◌==◌, ◌||◌, not, if◌then◌else◌, List, [], ◌∷◌, map, filter, drop, take, slice_index, slice_index_or, Option, Some, None, codes}
use Rattle.std.specs.List.{flat_map, filter_map, take_while}
use Rattle.blif_ast.specs.declared.letter.Letter.{Letter}
use Rattle.blif_ast.specs.declared.letter.Letter.TheVariants.{Zero, One, Any}
use Rattle.blif_ast.specs.declared.latch.Latch.{Latch}
use Rattle.blif_ast.specs.declared.latch.Control.{Control}
use Rattle.blif_ast.specs.declared.latch.Edge2.TheVariants.{Rising, Falling}
use Rattle.blif_ast.specs.declared.instance.Binding.{Binding}
use Rattle.blif_ast.specs.TableData.{TableData}
use Rattle.blif_ast.specs.InstanceData.{InstanceData}
use Rattle.blif_ast.specs.BlifModelData.{BlifModelData}
use Rattle.blif_ast.specs.LogicalLines.{LogicalLine}
use Rattle.blif_ast.specs.Cards.{same, begins, is_row, last_word, last_letter, formal_of, actual_of, table_inputs, model_card, end_card, inputs_card, outputs_card, names_card, latch_card, subckt_card}

-- What the lines of an accepted text say: each card and row is in its form.

-- the letter of a byte `0`, `1` or `-`
abbrev pub row_letter : ℕ → Letter
row_letter b = if b == 48 then Zero else (if b == 49 then One else Any)

-- the row of so many letters that begins at this place of a text
abbrev pub row_at : List ℕ → ℕ → ℕ → List Letter
row_at text width place = map row_letter (take width (drop place text))

-- the letters of a row by its words: a row of one word has none
abbrev pub row_letters : List (List ℕ) → List Letter
row_letters (letters ∷ value ∷ more) = map row_letter letters
row_letters _ = []

-- whether the rows end in 1; it is so without rows
abbrev pub rows_are_on : List LogicalLine → Bool
rows_are_on [] = true
rows_are_on (row ∷ rows) = last_letter row.words == 49

-- the table of a card `.names`, with the rows that follow it
abbrev pub table_of : LogicalLine → List LogicalLine → TableData
table_of line rows = record {
  inputs = table_inputs line.words;
  output = last_word line.words;
  on = rows_are_on rows;
  rows = map (λ row. row_letters row.words) rows;
  line = line.number;
}

-- the tables of some lines, each with the rows up to the next card
abbrev pub tables_of : List LogicalLine → List TableData
tables_of [] = []
tables_of (line ∷ more) = if begins names_card line then table_of line (take_while is_row more) ∷ tables_of more else tables_of more

-- the control of a latch by its type and its word, where `NIL` is no signal
abbrev pub control_of : List ℕ → List ℕ → Control
control_of type word = record {
  edge = if same type (codes "re") then Rising else Falling;
  signal = if same word (codes "NIL") then None else Some word;
}

-- the start value of a word `0`, `1`, `2` or `3`
abbrev pub init_of : List ℕ → ℕ
init_of word = slice_index word 0 - 48

-- the latch of a card's number and words; an absent start value is 3
abbrev pub latch_of : ℕ → List (List ℕ) → Option Latch
latch_of number (card ∷ input ∷ output ∷ []) = Some (record { input = input; output = output; control = None; init = 3; line = number })
latch_of number (card ∷ input ∷ output ∷ init ∷ []) =
    Some (record { input = input; output = output; control = None; init = init_of init; line = number })
latch_of number (card ∷ input ∷ output ∷ type ∷ control ∷ []) =
    Some (record { input = input; output = output; control = Some (control_of type control); init = 3; line = number })
latch_of number (card ∷ input ∷ output ∷ type ∷ control ∷ init ∷ []) =
    Some (record { input = input; output = output; control = Some (control_of type control); init = init_of init; line = number })
latch_of number _ = None

abbrev pub latches_of : List LogicalLine → List Latch
latches_of all = filter_map (λ line. latch_of line.number line.words) (filter (begins latch_card) all)

abbrev pub binding_of : List ℕ → Binding
binding_of word = record { formal = formal_of word; actual = actual_of word }

abbrev pub instance_of : LogicalLine → InstanceData
instance_of line = record { unit = slice_index_or line.words 1 []; bindings = map binding_of (drop 2 line.words); line = line.number }

abbrev pub instances_of : List LogicalLine → List InstanceData
instances_of all = map instance_of (filter (begins subckt_card) all)

-- the names on the cards of this word, one card after the other
abbrev pub names_on : List ℕ → List LogicalLine → List (List ℕ)
names_on card all = flat_map (λ line. drop 1 line.words) (filter (begins card) all)

-- the model of a card `.model`, with the lines that belong to it
abbrev pub blif_model : LogicalLine → List LogicalLine → BlifModelData
blif_model line all = record {
  name = slice_index_or line.words 1 [];
  inputs = names_on inputs_card all;
  outputs = names_on outputs_card all;
  tables = tables_of all;
  latches = latches_of all;
  instances = instances_of all;
  line = line.number;
}

-- a line that neither opens nor closes a model
abbrev pub is_inside : LogicalLine → Bool
is_inside line = not (begins model_card line || begins end_card line)

-- the models of some lines: one for each `.model`, with the lines up to the next `.model` or `.end`
abbrev pub models_of : List LogicalLine → List BlifModelData
models_of [] = []
models_of (line ∷ more) = if begins model_card line then blif_model line (take_while is_inside more) ∷ models_of more else models_of more
