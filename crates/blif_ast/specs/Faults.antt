-- The faults of a line of BLIF, the Berkeley Logic Interchange Format.
use Rattle.std.specs.Prelude.{ℕ, Bool, ◌&&◌, not, List, codes}
use Rattle.std.specs.List.{list_any}
use Rattle.dom_base.specs.Lines.{is_control}
use Rattle.blif_ast.specs.declared.kind.BlifKind.{BlifKind}
use Rattle.blif_ast.specs.declared.kind.BlifKind.TheVariants.{ControlByte, UnknownCard, BadCard, RowOutsideTable, BadRow, MixedCover, TooWide, NoModel, LatchKind}
use Rattle.blif_ast.specs.LogicalLines.{LogicalLine}
use Rattle.blif_ast.specs.Cards.{begins, is_card, is_row, card_of, is_known, is_out_of_form, is_row_form, is_too_wide, is_level_latch, last_letter, model_card}
use Rattle.blif_ast.specs.Context.{is_model_open, is_table_open, open_width, open_rows, differs_from_first}

-- the number of a kind: of two faults of a line the smaller one is reported
abbrev pub blif_kind_number : BlifKind → ℕ
blif_kind_number ControlByte = 1
blif_kind_number UnknownCard = 2
blif_kind_number BadCard = 3
blif_kind_number RowOutsideTable = 4
blif_kind_number BadRow = 5
blif_kind_number MixedCover = 6
blif_kind_number TooWide = 7
blif_kind_number NoModel = 8
blif_kind_number LatchKind = 9

-- the word of a kind, as it is printed
abbrev pub blif_kind_word : BlifKind → List ℕ
blif_kind_word ControlByte = codes "ControlByte"
blif_kind_word UnknownCard = codes "UnknownCard"
blif_kind_word BadCard = codes "BadCard"
blif_kind_word RowOutsideTable = codes "RowOutsideTable"
blif_kind_word BadRow = codes "BadRow"
blif_kind_word MixedCover = codes "MixedCover"
blif_kind_word TooWide = codes "TooWide"
blif_kind_word NoModel = codes "NoModel"
blif_kind_word LatchKind = codes "LatchKind"

-- a row of the open table
abbrev pub is_row_inside : List LogicalLine → LogicalLine → Bool
is_row_inside before line = is_row line && is_table_open before

-- a line has a fault of this kind, where the lines before it, the nearest first, are these
abbrev pub has_blif_fault : BlifKind → List LogicalLine → LogicalLine → Bool
-- a byte outside comments is a control byte; blanks and tabs are none, so it stands in a word
has_blif_fault ControlByte before line = list_any (list_any is_control) line.words
has_blif_fault UnknownCard before line = is_card line && not (is_known (card_of line))
has_blif_fault BadCard before line = is_out_of_form (card_of line) line.words
has_blif_fault RowOutsideTable before line = is_row line && not (is_table_open before)
has_blif_fault BadRow before line = is_row_inside before line && not (is_row_form (open_width before) line.words)
has_blif_fault MixedCover before line =
    is_row_inside before line && is_row_form (open_width before) line.words
    && differs_from_first (last_letter line.words) (open_rows before)
has_blif_fault TooWide before line = is_too_wide line
has_blif_fault NoModel before line = is_card line && not (begins model_card line) && not (is_model_open before)
has_blif_fault LatchKind before line = is_level_latch line
