-- Rows of the tables of lines without faults.
use Rattle.std.proofs.Common.{◌≡◌, ℕ, ◌≤◌, ◌-◌, Bool, true, false, cond, ◌==◌, ◌&&◌, not, nat_lt, if◌then◌else◌, List, [], ◌∷◌, length, map, drop, slice_index, Some, refl, ap, sym, ◌∙◌, subst, arith, eqb-true}
use Rattle.std.specs.List.{AllByRecursion, find, take_while, list_all}
use Rattle.std.proofs.lemmas.Bool.Decides.{nat_tests}
use Rattle.std.proofs.lemmas.List.{length-map}
use Rattle.std.proofs.lemmas.List.Elements.{All-from_recursion}
use Rattle.dom_base.specs.Lines.{first_word}
use Rattle.dom_base.proofs.Bools.{false_from_not}
use Rattle.dom_base.proofs.Lists.{AllByRecursion-take, take_while-keep, take_while-stop, AllByRecursion-drop}
use Rattle.blif_ast.specs.Good.{IsGoodName, IsGoodTable}
use Rattle.blif_ast.specs.declared.kind.BlifKind.{BlifKind}
use Rattle.blif_ast.specs.declared.kind.BlifKind.TheVariants.{BadRow, TooWide}
use Rattle.blif_ast.specs.LogicalLines.{LogicalLine}
use Rattle.blif_ast.specs.Cards.{same, begins, is_card, is_row, is_letter, is_value, is_row_form, table_inputs, names_card}
use Rattle.blif_ast.specs.Context.{words_of}
use Rattle.blif_ast.specs.Faults.{has_blif_fault}
use Rattle.blif_ast.specs.Models.{row_letter, row_letters, rows_are_on, table_of, tables_of}
use Rattle.blif_numbers.proofs.KnownWords.{same-true}
use Rattle.blif_read.proofs.AcceptedIsGoodLines.{Free, IsGoodLine, good_word-at}

and_last : (a b c : Bool) → a ≡ true → b ≡ true → (a && b && not c) ≡ false → c ≡ true
and_last true true true p q h = refl
and_last true true false p q h = sym h
and_last true false c p q h = absurd (cc)
and_last false b c p q h = absurd (cc)

-- a row behind a card `.names`, with rows alone between them
row_form : (card : LogicalLine) (before : List LogicalLine) (row : LogicalLine) → find is_card before ≡ Some card → begins names_card card ≡ true → is_row row ≡ true
    → has_blif_fault BadRow before row ≡ false → is_row_form (length (table_inputs card.words)) row.words ≡ true
row_form card before row found names is free =
    and_last (is_row row) (begins names_card card) (is_row_form (length (table_inputs card.words)) row.words) is names
    (ap (λ o. is_row row && same (first_word (words_of o)) names_card && not (is_row_form (length (table_inputs (words_of o))) row.words)) (sym found) ∙ free)

rows_form : (card : LogicalLine) (before all : List LogicalLine) → find is_card before ≡ Some card → begins names_card card ≡ true → Free before all
    → AllByRecursion (λ row. is_row_form (length (table_inputs card.words)) row.words ≡ true) (take_while is_row all)
rows_form card before [] found names free = tt
rows_form card before (row ∷ more) found names free = by (is_row row) refl (λ f. rows_form card (row ∷ before) more f names free.1)
  where
    by : (b : Bool) → is_row row ≡ b
        → (find is_card (row ∷ before) ≡ Some card → AllByRecursion (λ r. is_row_form (length (table_inputs card.words)) r.words ≡ true) (take_while is_row more))
        → AllByRecursion (λ r. is_row_form (length (table_inputs card.words)) r.words ≡ true) (take_while is_row (row ∷ more))
    by true e rest =
        let still : find is_card (row ∷ before) ≡ Some card = ap (λ b. cond b (Some row) (find is_card before)) (false_from_not (is_card row) e) ∙ found in
        subst (AllByRecursion (λ r. is_row_form (length (table_inputs card.words)) r.words ≡ true)) (sym (take_while-keep is_row row more e))
        (row_form card before row found names e (free.0 BadRow), rest still)
    by false e rest = subst (AllByRecursion (λ r. is_row_form (length (table_inputs card.words)) r.words ≡ true)) (sym (take_while-stop is_row row more e)) tt

pub and_first : (a b : Bool) → (a && b) ≡ true → a ≡ true
and_first true b h = refl
and_first false b h = h

pub and_second : (a b : Bool) → (a && b) ≡ true → b ≡ true
and_second true b h = h
and_second false b h = absurd (cc)

-- a row in its form has a letter for each input
row_length : (width : ℕ) (words : List (List ℕ)) → is_row_form width words ≡ true → length (row_letters words) ≡ width
row_length width [] h = absurd (cc)
row_length width (value ∷ []) h = sym (eqb-true width 0 (and_first (width == 0) (is_value value) h))
row_length width (letters ∷ value ∷ []) h =
    let wide = and_first (nat_lt 0 width && (length letters == width)) (list_all is_letter letters)
    (and_first (nat_lt 0 width && (length letters == width) && list_all is_letter letters) (is_value value) h) in
    length-map letters row_letter ∙ eqb-true (length letters) width (and_second (nat_lt 0 width) (length letters == width) wide)
row_length width (a ∷ b ∷ c ∷ more) h = absurd (cc)

rows_length : (width : ℕ) (rows : List LogicalLine) → AllByRecursion (λ row. is_row_form width row.words ≡ true) rows
    → AllByRecursion (λ row. length row ≡ width) (map (λ row. row_letters row.words) rows)
rows_length width [] h = tt
rows_length width (row ∷ rows) h = (row_length width row.words h.0, rows_length width rows h.1)

on_without_rows : (rows : List LogicalLine) → map (λ row. row_letters row.words) rows ≡ [] → rows_are_on rows ≡ true
on_without_rows [] e = refl
on_without_rows (row ∷ rows) e = absurd (cc)

few : (a : Bool) (m n : ℕ) → a ≡ true → (a && nat_lt m n) ≡ false → n ≤ m
few true m n e h = grind (arith, nat_tests)
few false m n e h = absurd (cc)

pub card_is_card : (card : List ℕ) (line : LogicalLine) → begins card line ≡ true → (slice_index card 0 == 46) ≡ true → is_card line ≡ true
card_is_card card line is e = ap (λ f. slice_index f 0 == 46) (same-true (first_word line.words) card is) ∙ e

good_table : (before : List LogicalLine) (line : LogicalLine) (more : List LogicalLine) → begins names_card line ≡ true → ((kind : BlifKind) → has_blif_fault kind before line ≡ false)
    → Free (line ∷ before) more → IsGoodLine line → IsGoodTable (table_of line (take_while is_row more))
good_table before line more is free rest good = record {
  inputs = All-from_recursion IsGoodName (table_inputs line.words) (AllByRecursion-take IsGoodName (length line.words - 2) (drop 1 line.words) (AllByRecursion-drop IsGoodName 1 line.words good.1));
  output = good_word-at line.words (length line.words - 1) good.1 (omega (arith, good.0));
  few_inputs = few (begins names_card line) 4096 (length (table_inputs line.words)) is (free TooWide);
  rows = All-from_recursion (λ row. length row ≡ length (table_inputs line.words)) (map (λ row. row_letters row.words) (take_while is_row more))
      (rows_length (length (table_inputs line.words)) (take_while is_row more) (rows_form line (line ∷ before) more found is rest));
  on = on_without_rows (take_while is_row more);
}
  where
    found : find is_card (line ∷ before) ≡ Some line
    found = ap (λ b. cond b (Some line) (find is_card before)) (card_is_card names_card line is refl)

pub good_tables : (before all : List LogicalLine) → Free before all → AllByRecursion IsGoodLine all → AllByRecursion IsGoodTable (tables_of all)
good_tables before [] free good = tt
good_tables before (line ∷ more) free good = by (begins names_card line) refl (good_tables (line ∷ before) more free.1 good.1)
  where
    by : (b : Bool) → begins names_card line ≡ b → AllByRecursion IsGoodTable (tables_of more) → AllByRecursion IsGoodTable (tables_of (line ∷ more))
    by true e rest = subst (AllByRecursion IsGoodTable) (sym (ap (λ b. if b then table_of line (take_while is_row more) ∷ tables_of more else tables_of more) e)) (good_table before line more e free.0 free.1 good.0, rest)
    by false e rest = subst (AllByRecursion IsGoodTable) (sym (ap (λ b. if b then table_of line (take_while is_row more) ∷ tables_of more else tables_of more) e)) rest
