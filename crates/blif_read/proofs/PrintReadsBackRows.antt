-- No row of a printed table has a fault, and so no line of a printed file.
use Rattle.std.proofs.Common.{◌≡◌, ℕ, suc, ◌+◌, Bool, true, false, cond, ◌==◌, ◌&&◌, not, nat_lt, if◌then◌else◌, List, [], ◌∷◌, ◌++◌, length, reverse, map, refl, ap, sym, subst, ◌∙◌, append_assoc, arith, codes, Some}
use Rattle.std.specs.List.{AllByRecursion, flat_map, list_all, find, take_while}
use Rattle.std.proofs.lemmas.Bool.Decides.{nat_tests}
use Rattle.std.proofs.lemmas.Grind.{reverse_onto}
use Rattle.std.proofs.lemmas.List.Elements.{recursion_from_All}
use Rattle.dom_base.proofs.Lists.{take_while-keep}
use Rattle.blif_ast.specs.declared.letter.Letter.{Letter}
use Rattle.blif_ast.specs.declared.letter.Letter.TheVariants.{Zero, One, Any}
use Rattle.blif_ast.specs.declared.latch.Latch.{Latch}
use Rattle.blif_ast.specs.TableData.{TableData}
use Rattle.blif_ast.specs.InstanceData.{InstanceData}
use Rattle.blif_ast.specs.BlifModelData.{BlifModelData}
use Rattle.blif_ast.specs.Good.{IsGoodName, IsGoodTable, IsGoodLatch, IsGoodInstance, IsGoodModel}
use Rattle.blif_ast.specs.Printed.{ports_card, letter_byte, row_words, value_word, names_words, model_lines}
use Rattle.blif_ast.specs.declared.kind.BlifKind.TheVariants.{ControlByte, UnknownCard, BadCard, RowOutsideTable, BadRow, MixedCover, TooWide, NoModel, LatchKind}
use Rattle.blif_ast.specs.LogicalLines.{LogicalLine}
use Rattle.blif_ast.specs.Cards.{is_card, is_row, is_letter, is_value, is_row_form, last_letter, model_card, inputs_card, outputs_card, end_card}
use Rattle.blif_ast.specs.Context.{is_model_open, is_table_open, open_width, open_rows, differs_from_first}
use Rattle.blif_ast.specs.Faults.{has_blif_fault, is_row_inside}
use Rattle.blif_read.proofs.AcceptedIsGoodLines.{Free}
use Rattle.blif_read.proofs.PrintReadsBackLines.{line_at, numbered}
use Rattle.blif_read.proofs.PrintReadsBackParts.{tables_lines, latches_lines, instances_lines, inner_lines, model_lines-inner, by_rows}
use Rattle.blif_read.proofs.PrintReadsBackCards.{row_last, names_inputs}
use Rattle.blif_read.proofs.PrintReadsBackNames.{name-test, row_names, table_names, latch_names, instance_names}
use Rattle.blif_read.proofs.PrintReadsBackNoFault.{IsFree, no_control, model_free, end_free, inputs_free, outputs_free, names_free, latch_free, instance_free}

and_false : (x y : Bool) → y ≡ false → (x && y) ≡ false
and_false true y h = h
and_false false y h = refl

letters_form : (row : List Letter) → list_all is_letter (map letter_byte row) ≡ true
letters_form [] = refl
letters_form (Zero ∷ row) = letters_form row
letters_form (One ∷ row) = letters_form row
letters_form (Any ∷ row) = letters_form row

bytes_length : (row : List Letter) → length (map letter_byte row) ≡ length row
bytes_length [] = refl
bytes_length (l ∷ row) = ap suc (bytes_length row)

value_form : (on : Bool) → is_value (value_word on) ≡ true
value_form true = refl
value_form false = refl

row_form : (on : Bool) (row : List Letter) → is_row_form (length row) (row_words on row) ≡ true
row_form on [] = value_form on
row_form on (l ∷ row) =
    let wide : nat_lt 0 (length (l ∷ row)) ≡ true = grind (arith, nat_tests) in
    let count = bytes_length (l ∷ row) in
    let same : (length (map letter_byte (l ∷ row)) == length (l ∷ row)) ≡ true = grind (arith, nat_tests, count) in
    rw (wide, same, letters_form (l ∷ row), value_form on) refl

-- a table of this width is open, whose rows so far end as its rows end
abbrev IsInTable : Bool → ℕ → List LogicalLine → Type 0
IsInTable on width before = (is_table_open before ≡ true) × (open_width before ≡ width) × (differs_from_first (if on then 49 else 48) (open_rows before) ≡ false)

row_free : (before : List LogicalLine) (n : ℕ) (on : Bool) (row : List Letter) → IsInTable on (length row) before → IsFree before n (row_words on row)
row_free before n on row s ControlByte = no_control (row_words on row) (row_names on row)
row_free before n on row s UnknownCard = by_rows (λ w. has_blif_fault UnknownCard before (line_at n w) ≡ false) (λ _ _. refl) (λ _ _. refl) (λ _ _. refl) on row
row_free before n on row s BadCard = by_rows (λ w. has_blif_fault BadCard before (line_at n w) ≡ false) (λ _ _. refl) (λ _ _. refl) (λ _ _. refl) on row
row_free before n on row s RowOutsideTable = and_false (is_row (line_at n (row_words on row))) (not (is_table_open before)) (ap not s.0)
row_free before n on row s BadRow =
    and_false (is_row_inside before (line_at n (row_words on row))) (not (is_row_form (open_width before) (row_words on row)))
    (ap (λ width. not (is_row_form width (row_words on row))) s.1 ∙ ap not (row_form on row))
row_free before n on row s MixedCover =
    and_false (is_row_inside before (line_at n (row_words on row)) && is_row_form (open_width before) (row_words on row)) (differs_from_first (last_letter (row_words on row)) (open_rows before))
    (ap (λ letter. differs_from_first letter (open_rows before)) (row_last on row) ∙ s.2)
row_free before n on row s TooWide = by_rows (λ w. has_blif_fault TooWide before (line_at n w) ≡ false) (λ _ _. refl) (λ _ _. refl) (λ _ _. refl) on row
row_free before n on row s NoModel = by_rows (λ w. has_blif_fault NoModel before (line_at n w) ≡ false) (λ _ _. refl) (λ _ _. refl) (λ _ _. refl) on row
row_free before n on row s LatchKind = by_rows (λ w. has_blif_fault LatchKind before (line_at n w) ≡ false) (λ _ _. refl) (λ _ _. refl) (λ _ _. refl) on row

differs-push : (on : Bool) (rows : List LogicalLine) (line : LogicalLine) → differs_from_first (if on then 49 else 48) rows ≡ false → last_letter line.words ≡ (if on then 49 else 48)
    → differs_from_first (if on then 49 else 48) (rows ++ line ∷ []) ≡ false
differs-push true [] line h e = ap (λ k. not (49 == k)) e
differs-push false [] line h e = ap (λ k. not (48 == k)) e
differs-push on (row ∷ rows) line h e = h

row_after : (before : List LogicalLine) (n : ℕ) (on : Bool) (row : List Letter) (width : ℕ) → IsInTable on width before → IsInTable on width (line_at n (row_words on row) ∷ before)
row_after before n on row width s =
    let line = line_at n (row_words on row) in
    let no_card : is_card line ≡ false = by_rows (λ w. is_card (line_at n w) ≡ false) (λ _ _. refl) (λ _ _. refl) (λ _ _. refl) on row in
    let card : find is_card (line ∷ before) ≡ find is_card before = ap (λ b. cond b (Some line) (find is_card before)) no_card in
    let rows : open_rows (line ∷ before) ≡ open_rows before ++ line ∷ [] = ap reverse (take_while-keep is_row line before (ap not no_card)) ∙ reverse_onto (take_while is_row before) line [] in (
      rw card s.0,
      rw card s.1,
      ap (differs_from_first (if on then 49 else 48)) rows ∙ differs-push on (open_rows before) line s.2 (row_last on row),
    )

-- lines that are free wherever a model is open
abbrev Next : List (List (List ℕ)) → Type 0
Next rest = (before : List LogicalLine) (n : ℕ) → is_model_open before ≡ true → Free before (numbered n rest)

abbrev Segment : List (List (List ℕ)) → Type 0
Segment xs = (rest : List (List (List ℕ))) → Next rest → Next (xs ++ rest)

segments : (xs ys : List (List (List ℕ))) → Segment xs → Segment ys → Segment (xs ++ ys)
segments xs ys f g rest next before n o = subst (λ l. Free before (numbered n l)) (sym (append_assoc xs ys rest)) (f (ys ++ rest) (g rest next) before n o)

rows_free : (on : Bool) (width : ℕ) (rows : List (List Letter)) → AllByRecursion (λ row. length row ≡ width) rows → (rest : List (List (List ℕ))) → Next rest
    → (before : List LogicalLine) (n : ℕ) → is_model_open before ≡ true → IsInTable on width before → Free before (numbered n (map (row_words on) rows ++ rest))
rows_free on width [] h rest next before n o s = next before n o
rows_free on width (row ∷ rows) h rest next before n o s = (
  row_free before n on row (subst (λ w. IsInTable on w before) (sym h.0) s),
  rows_free on width rows h.1 rest next (line_at n (row_words on row) ∷ before) (n + 1)
      (by_rows (λ w. is_model_open (line_at n w ∷ before) ≡ true) (λ _ _. o) (λ _ _. o) (λ _ _. o) on row) (row_after before n on row width s),
)

tables_free : (tables : List TableData) → AllByRecursion IsGoodTable tables → Segment (tables_lines tables)
tables_free [] h rest next before n o = next before n o
tables_free (t ∷ tables) h rest next before n o =
    let line = line_at n (names_words t) in
    let rows = map (row_words t.on) t.rows in (
      names_free before n t o h.0 (table_names t h.0),
      subst (λ l. Free (line ∷ before) (numbered (n + 1) l)) (sym (append_assoc rows (tables_lines tables) rest))
          (rows_free t.on (length t.inputs) t.rows (recursion_from_All (λ row. length row ≡ length t.inputs) t.rows h.0.rows) (tables_lines tables ++ rest) (tables_free tables h.1 rest next)
          (line ∷ before) (n + 1) o (refl, ap (λ (l : List (List ℕ)). length l) (names_inputs (codes ".names") t.inputs t.output), refl)),
    )

latches_free : (latches : List Latch) → AllByRecursion IsGoodLatch latches → Segment (latches_lines latches)
latches_free [] h rest next before n o = next before n o
latches_free (l ∷ latches) h rest next before n o = (latch_free before n l o h.0 (latch_names l h.0), latches_free latches h.1 rest next (_ ∷ before) (n + 1) o)

instances_free : (instances : List InstanceData) → AllByRecursion IsGoodInstance instances → Segment (instances_lines instances)
instances_free [] h rest next before n o = next before n o
instances_free (i ∷ instances) h rest next before n o = (instance_free before n i o h.0 (instance_names i h.0), instances_free instances h.1 rest next (_ ∷ before) (n + 1) o)

inputs_lines_free : (names : List (List ℕ)) → AllByRecursion IsGoodName names → Segment (ports_card inputs_card names)
inputs_lines_free [] h rest next before n o = next before n o
inputs_lines_free (name ∷ names) h rest next before n o = (inputs_free before n (name ∷ names) o (name-test inputs_card refl, h), next (_ ∷ before) (n + 1) o)

outputs_lines_free : (names : List (List ℕ)) → AllByRecursion IsGoodName names → Segment (ports_card outputs_card names)
outputs_lines_free [] h rest next before n o = next before n o
outputs_lines_free (name ∷ names) h rest next before n o = (outputs_free before n (name ∷ names) o (name-test outputs_card refl, h), next (_ ∷ before) (n + 1) o)

inner_free : (m : BlifModelData) → IsGoodModel m → Segment (inner_lines m)
inner_free m h =
    let i = ports_card inputs_card m.inputs in
    let o = ports_card outputs_card m.outputs in
    let t = tables_lines m.tables in
    let l = latches_lines m.latches in
    let s = instances_lines m.instances in
    segments i (o ++ (t ++ (l ++ s))) (inputs_lines_free m.inputs (recursion_from_All IsGoodName m.inputs h.inputs))
    (segments o (t ++ (l ++ s)) (outputs_lines_free m.outputs (recursion_from_All IsGoodName m.outputs h.outputs))
    (segments t (l ++ s) (tables_free m.tables (recursion_from_All IsGoodTable m.tables h.tables))
    (segments l s (latches_free m.latches (recursion_from_All IsGoodLatch m.latches h.latches)) (instances_free m.instances (recursion_from_All IsGoodInstance m.instances h.instances)))))

-- no line of good models has a fault
pub models_free : (models : List BlifModelData) → AllByRecursion IsGoodModel models → (before : List LogicalLine) (n : ℕ) → Free before (numbered n (flat_map model_lines models))
models_free [] h before n = tt
models_free (m ∷ models) h before n =
    subst (λ l. Free before (numbered n l)) (sym (model_lines-inner m (flat_map model_lines models))) (
      model_free before n m.name (name-test model_card refl, (h.0.name, tt)),
      inner_free m h.0 ((end_card ∷ []) ∷ flat_map model_lines models)
          (λ b k o. (end_free b k o (name-test end_card refl, tt), models_free models h.1 (_ ∷ b) (k + 1))) (_ ∷ before) (n + 1) refl,
    )
