-- Models and tables that are open at a line of BLIF, the Berkeley Logic Interchange Format.
use Rattle.std.specs.Prelude.{ℕ, Bool, false, ◌==◌, ◌||◌, not, List, [], ◌∷◌, length, reverse, Option, Some, None}
use Rattle.std.specs.List.{find, take_while}
use Rattle.dom_base.specs.Lines.{first_word}
use Rattle.blif_ast.specs.LogicalLines.{LogicalLine}
use Rattle.blif_ast.specs.Cards.{same, begins, last_letter, is_card, is_row, table_inputs, model_card, end_card, names_card}

-- the words of a line, if there is one
abbrev pub words_of : Option LogicalLine → List (List ℕ)
words_of None = []
words_of (Some line) = line.words

-- What stands before a line is given as the lines before it, the nearest first.

-- a model is open: the nearest `.model` or `.end` before is a `.model`
abbrev pub is_model_open : List LogicalLine → Bool
is_model_open before = same (first_word (words_of (find (λ line. begins model_card line || begins end_card line) before))) model_card

-- a table is open: the nearest card before is a `.names`
abbrev pub is_table_open : List LogicalLine → Bool
is_table_open before = same (first_word (words_of (find is_card before))) names_card

-- how many inputs the open table has
abbrev pub open_width : List LogicalLine → ℕ
open_width before = length (table_inputs (words_of (find is_card before)))

-- the rows that the open table has so far, in the order of the text
abbrev pub open_rows : List LogicalLine → List LogicalLine
open_rows before = reverse (take_while is_row before)

-- a letter that isn't the last letter of the first of these rows
abbrev pub differs_from_first : ℕ → List LogicalLine → Bool
differs_from_first letter [] = false
differs_from_first letter (row ∷ rows) = not (letter == last_letter row.words)
