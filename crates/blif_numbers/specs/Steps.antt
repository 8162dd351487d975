-- The fault of a line as the reader finds it: by its card and by what the lines before it say, as far as that is kept.
use Rattle.std.specs.Prelude.{ℕ, ◌==◌, Bool, false, not, nat_lt, if◌then◌else◌, List, [], ◌∷◌, length, Option, Some, None}
use Rattle.std.specs.List.{find, list_any}
use Rattle.dom_base.specs.Lines.{is_control}
use Rattle.blif_ast.specs.declared.kind.BlifKind.{BlifKind}
use Rattle.blif_ast.specs.declared.kind.BlifKind.TheVariants.{ControlByte, UnknownCard, BadCard, RowOutsideTable, BadRow, MixedCover, TooWide, NoModel, LatchKind}
use Rattle.blif_ast.specs.declared.card.Card.{Card}
use Rattle.blif_ast.specs.declared.card.Card.TheVariants.{Model, Names, Latch}
use Rattle.blif_ast.specs.LogicalLines.{LogicalLine}
use Rattle.blif_ast.specs.Cards.{card_of, is_card, is_form, is_row_form, is_level_form, last_letter, table_inputs}
use Rattle.blif_ast.specs.Context.{is_model_open, is_table_open, open_width, open_rows}
use Rattle.blif_ast.specs.Faults.{has_blif_fault}

-- the table to which a row belongs: how many inputs it has, and the last letter of its first row
pub record OpenTable : Type 0 where
  pub width : ℕ
  pub letter : Option ℕ

-- what the lines before a line say of it: whether a model is open, and the open table
pub record Context : Type 0 where
  pub model : Bool
  pub table : Option OpenTable

-- the kinds by rising number
abbrev pub kinds : List BlifKind
kinds = ControlByte ∷ UnknownCard ∷ BadCard ∷ RowOutsideTable ∷ BadRow ∷ MixedCover ∷ TooWide ∷ NoModel ∷ LatchKind ∷ []

-- the fault of a line with the smallest number, where the lines before it, the nearest first, are these
abbrev pub smallest_fault : List LogicalLine → LogicalLine → Option BlifKind
smallest_fault before line = find (λ kind. has_blif_fault kind before line) kinds

-- the last letter of the first of some rows
abbrev pub first_letter : List LogicalLine → Option ℕ
first_letter [] = None
first_letter (row ∷ rows) = Some (last_letter row.words)

-- the open table of the lines before, the nearest first
abbrev pub open_table : List LogicalLine → Option OpenTable
open_table before =
    if is_table_open before then Some (record { width = open_width before; letter = first_letter (open_rows before) })
    else None

-- what the lines before, the nearest first, say of a line
abbrev pub context_of : List LogicalLine → Context
context_of before = record { model = is_model_open before; table = open_table before }

-- whether a row ends in another letter than the first
abbrev pub differs : Option ℕ → ℕ → Bool
differs None letter = false
differs (Some first) letter = not (letter == first)

-- the fault of a row by the open table
abbrev pub row_fault : Option OpenTable → List (List ℕ) → Option BlifKind
row_fault None words = Some RowOutsideTable
row_fault (Some table) words =
    if not (is_row_form table.width words) then Some BadRow
    else (if differs table.letter (last_letter words) then Some MixedCover else None)

-- the fault of a card that is known and in its form
abbrev pub formed_card_fault : Bool → Card → List (List ℕ) → Option BlifKind
formed_card_fault open_model Model words = None
formed_card_fault open_model Names words =
    if nat_lt 4096 (length (table_inputs words)) then Some TooWide else (if not open_model then Some NoModel else None)
formed_card_fault open_model Latch words = if not open_model then Some NoModel else (if is_level_form words then Some LatchKind else None)
formed_card_fault open_model _ words = if not open_model then Some NoModel else None

-- the fault of a line that begins with `.`
abbrev pub card_fault : Bool → Option Card → List (List ℕ) → Option BlifKind
card_fault open_model None words = Some UnknownCard
card_fault open_model (Some card) words = if not (is_form card words) then Some BadCard else formed_card_fault open_model card words

-- the fault of a line by its context
abbrev pub context_fault : Context → LogicalLine → Option BlifKind
context_fault context line =
    if list_any (list_any is_control) line.words then Some ControlByte
    else (if is_card line then card_fault context.model (card_of line) line.words else row_fault context.table line.words)

-- the last letter of the first row after a row with this last letter
abbrev pub letter_after : Option ℕ → ℕ → Option ℕ
letter_after None letter = Some letter
letter_after (Some first) letter = Some first

-- the open table after a row with this last letter
abbrev pub with_letter : Option OpenTable → ℕ → Option OpenTable
with_letter None letter = None
with_letter (Some table) letter = Some (record { width = table.width; letter = letter_after table.letter letter })
