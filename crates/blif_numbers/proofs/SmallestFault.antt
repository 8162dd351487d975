-- The fault that the reader finds in a line is that of the smallest number.
use Rattle.std.proofs.Common.{◌≡◌, ℕ, Bool, true, false, cond, List, [], ◌∷◌, refl, sym, ap, ◌∙◌, Some, None}
use Rattle.std.specs.Prelude.{Option, ◌&&◌, not, nat_lt, length, codes, if◌then◌else◌}
use Rattle.std.specs.List.{list_any}
use Rattle.std.proofs.lemmas.Bool.{true≢false}
use Rattle.dom_base.specs.Lines.{is_control, first_word}
use Rattle.blif_ast.specs.declared.card.Card.{Card}
use Rattle.blif_ast.specs.declared.card.Card.TheVariants.{Model, Inputs, Outputs, Names, Latch, Subckt, Clock, End}
use Rattle.blif_ast.specs.declared.kind.BlifKind.TheVariants.{ControlByte, UnknownCard, BadCard, RowOutsideTable, BadRow, MixedCover, TooWide, NoModel, LatchKind}
use Rattle.blif_ast.specs.LogicalLines.{LogicalLine}
use Rattle.blif_ast.specs.Cards.{same, begins, card_word, card_of, is_card, is_known, is_form, is_out_of_form, is_row_form, is_too_wide, is_level_form, is_level_latch, last_letter, model_card, names_card, latch_card, table_inputs}
use Rattle.blif_ast.specs.Context.{is_model_open, is_table_open, open_rows, open_width, differs_from_first}
use Rattle.blif_numbers.specs.Steps.{OpenTable, context_of, open_table, first_letter, context_fault, card_fault, formed_card_fault, row_fault, differs, smallest_fault}
use Rattle.blif_numbers.proofs.LineContexts.{no_dot, row_no_card, card_begins}

row_in_form : (line : LogicalLine) → is_card line ≡ false → is_out_of_form (card_of line) line.words ≡ false
row_in_form line row = ap (λ card. is_out_of_form card line.words) (row_no_card line row)

row_not_wide : (line : LogicalLine) → is_card line ≡ false → is_too_wide line ≡ false
row_not_wide line row = rw (no_dot (first_word line.words) (codes "names") row) refl

row_no_latch : (line : LogicalLine) → is_card line ≡ false → is_level_latch line ≡ false
row_no_latch line row = rw (no_dot (first_word line.words) (codes "latch") row) refl

-- the order of the tests doesn't matter
decide : (control card known bad inside form_of_row mixed wide model opened latch : Bool)
    → (card ≡ false → bad ≡ false) → (card ≡ false → wide ≡ false) → (card ≡ false → latch ≡ false)
    → cond control (Some ControlByte) (cond card (cond (not known) (Some UnknownCard) (cond bad (Some BadCard) (cond wide (Some TooWide) (cond (not model && not opened) (Some NoModel) (cond latch (Some LatchKind) None)))))
    (cond inside (cond (not form_of_row) (Some BadRow) (cond mixed (Some MixedCover) None)) (Some RowOutsideTable)))
    ≡ cond control (Some ControlByte) (cond (card && not known) (Some UnknownCard) (cond bad (Some BadCard) (cond (not card && not inside) (Some RowOutsideTable)
    (cond ((not card && inside) && not form_of_row) (Some BadRow) (cond ((not card && inside) && form_of_row && mixed) (Some MixedCover) (cond wide (Some TooWide)
    (cond (card && not model && not opened) (Some NoModel) (cond latch (Some LatchKind) None))))))))
decide true card known bad inside form_of_row mixed wide model opened latch h1 h2 h3 = refl
decide false true false bad inside form_of_row mixed wide model opened latch h1 h2 h3 = refl
decide false true true true inside form_of_row mixed wide model opened latch h1 h2 h3 = refl
decide false true true false inside form_of_row mixed true model opened latch h1 h2 h3 = refl
decide false true true false inside form_of_row mixed false true opened latch h1 h2 h3 = refl
decide false true true false inside form_of_row mixed false false opened latch h1 h2 h3 = refl
decide false false known true inside form_of_row mixed wide model opened latch h1 h2 h3 = absurd (true≢false (h1 refl))
decide false false known false false form_of_row mixed wide model opened latch h1 h2 h3 = refl
decide false false known false true false mixed wide model opened latch h1 h2 h3 = refl
decide false false known false true true true wide model opened latch h1 h2 h3 = refl
decide false false known false true true false true model opened latch h1 h2 h3 = absurd (true≢false (h2 refl))
decide false false known false true true false false model opened true h1 h2 h3 = absurd (true≢false (h3 refl))
decide false false known false true true false false model opened false h1 h2 h3 = refl

-- the fault of a card in its form, by tests of its first word
formed-tests : (open_model : Bool) (card : Card) (words : List (List ℕ)) → formed_card_fault open_model card words
    ≡ cond (same (card_word card) names_card && nat_lt 4096 (length (table_inputs words))) (Some TooWide)
    (cond (not (same (card_word card) model_card) && not open_model) (Some NoModel) (cond (same (card_word card) latch_card && is_level_form words) (Some LatchKind) None))
formed-tests open_model Model words = refl
formed-tests open_model Inputs words = refl
formed-tests open_model Outputs words = refl
formed-tests open_model Names words = refl
formed-tests open_model Latch words = refl
formed-tests open_model Subckt words = refl
formed-tests open_model Clock words = refl
formed-tests open_model End words = refl

card_fault-tests : (open_model : Bool) (line : LogicalLine) → card_fault open_model (card_of line) line.words
    ≡ cond (not (is_known (card_of line))) (Some UnknownCard) (cond (is_out_of_form (card_of line) line.words) (Some BadCard)
    (cond (is_too_wide line) (Some TooWide) (cond (not (begins model_card line) && not open_model) (Some NoModel) (cond (is_level_latch line) (Some LatchKind) None))))
card_fault-tests open_model line = by (card_of line) refl
  where
    formed : (card : Card) → card_of line ≡ Some card → formed_card_fault open_model card line.words
        ≡ cond (is_too_wide line) (Some TooWide) (cond (not (begins model_card line) && not open_model) (Some NoModel) (cond (is_level_latch line) (Some LatchKind) None))
    formed card e =
        formed-tests open_model card line.words
        ∙ ap (λ b. cond (b && nat_lt 4096 (length (table_inputs line.words))) (Some TooWide)
        (cond (not (same (card_word card) model_card) && not open_model) (Some NoModel) (cond (same (card_word card) latch_card && is_level_form line.words) (Some LatchKind) None))) (sym (card_begins names_card line card e))
        ∙ ap (λ b. cond (is_too_wide line) (Some TooWide) (cond (not b && not open_model) (Some NoModel) (cond (same (card_word card) latch_card && is_level_form line.words) (Some LatchKind) None))) (sym (card_begins model_card line card e))
        ∙ ap (λ b. cond (is_too_wide line) (Some TooWide) (cond (not (begins model_card line) && not open_model) (Some NoModel) (cond (b && is_level_form line.words) (Some LatchKind) None))) (sym (card_begins latch_card line card e))

    by : (o : Option Card) → card_of line ≡ o → card_fault open_model o line.words
        ≡ cond (not (is_known o)) (Some UnknownCard) (cond (is_out_of_form o line.words) (Some BadCard)
        (cond (is_too_wide line) (Some TooWide) (cond (not (begins model_card line) && not open_model) (Some NoModel) (cond (is_level_latch line) (Some LatchKind) None))))
    by None e = refl
    by (Some card) e = ap (λ f. cond (not (is_form card line.words)) (Some BadCard) f) (formed card e)

differs-first : (letter : ℕ) (rows : List LogicalLine) → differs (first_letter rows) letter ≡ differs_from_first letter rows
differs-first letter [] = refl
differs-first letter (row ∷ rows) = refl

row_fault-if : (b : Bool) (table : OpenTable) (line : LogicalLine) → row_fault (if b then Some table else None) line.words
    ≡ cond b (cond (not (is_row_form table.width line.words)) (Some BadRow) (cond (differs table.letter (last_letter line.words)) (Some MixedCover) None)) (Some RowOutsideTable)
row_fault-if true table line = refl
row_fault-if false table line = refl

row_fault-open : (before : List LogicalLine) (line : LogicalLine) → row_fault (open_table before) line.words
    ≡ cond (is_table_open before) (cond (not (is_row_form (open_width before) line.words)) (Some BadRow) (cond (differs_from_first (last_letter line.words) (open_rows before)) (Some MixedCover) None)) (Some RowOutsideTable)
row_fault-open before line =
    row_fault-if (is_table_open before) (record { width = open_width before; letter = first_letter (open_rows before) }) line
    ∙ ap (λ b. cond (is_table_open before) (cond (not (is_row_form (open_width before) line.words)) (Some BadRow) (cond b (Some MixedCover) None)) (Some RowOutsideTable)) (differs-first (last_letter line.words) (open_rows before))

-- the fault that the context gives is the smallest of the line
pub context_fault-smallest : (before : List LogicalLine) (line : LogicalLine) → context_fault (context_of before) line ≡ smallest_fault before line
context_fault-smallest before line =
    ap (λ fault. cond (list_any (list_any is_control) line.words) (Some ControlByte) (cond (is_card line) fault (row_fault (open_table before) line.words))) (card_fault-tests (is_model_open before) line)
    ∙ ap (λ row. cond (list_any (list_any is_control) line.words) (Some ControlByte) (cond (is_card line) (cond (not (is_known (card_of line))) (Some UnknownCard) (cond (is_out_of_form (card_of line) line.words) (Some BadCard)
    (cond (is_too_wide line) (Some TooWide) (cond (not (begins model_card line) && not (is_model_open before)) (Some NoModel) (cond (is_level_latch line) (Some LatchKind) None))))) row)) (row_fault-open before line)
    ∙ decide (list_any (list_any is_control) line.words) (is_card line) (is_known (card_of line)) (is_out_of_form (card_of line) line.words) (is_table_open before) (is_row_form (open_width before) line.words)
    (differs_from_first (last_letter line.words) (open_rows before)) (is_too_wide line) (begins model_card line) (is_model_open before) (is_level_latch line)
    (row_in_form line) (row_not_wide line) (row_no_latch line)
