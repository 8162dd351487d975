-- Rows by the places at which their letters stand in a text of letters.
use Rattle.std.proofs.Common.{◌≡◌, ℕ, ◌-◌, ◌≤◌, ◌+◌, List, [], ◌∷◌, ◌++◌, All, length, map, take, drop, refl, sym, ap, ◌∙◌, arith, append_assoc, append-nil}
use Rattle.std.specs.Prelude.{Some, slice_get}
use Rattle.std.proofs.lemmas.Grind.{flat_map-append}
use Rattle.std.proofs.lemmas.List.{append_cancel_left, length-append, length-map, take-append-drop, take_all}
use Rattle.std.proofs.Math.Seq.{drop-append_seam, take-append_seam}
use Rattle.dom_base.proofs.Lists.{All-at, drop_next, map-push}
use Rattle.blif_ast.specs.declared.letter.Letter.{Letter}
use Rattle.blif_ast.specs.declared.letter.Letter.TheVariants.{Zero, One, Any}
use Rattle.blif_ast.specs.Models.{row_at, row_letter}
use Rattle.blif_ast.specs.Printed.{letter_byte}
use Rattle.file_copies.specs.FileLetters.{rows_letters}
use Rattle.numbered_file.specs.OpenLists.{OpenLists, with_row}
use Rattle.blif_lines.specs.TextPlaces.{IsFrontOf, IsRestOf}
use Rattle.file_copies.specs.Pushing.{HasRows}
use Rattle.numbered_file.proofs.PartLists.{take-get}

-- the end of a text begins where so many bytes are left
rest-there : (text rest : List ℕ) → IsRestOf text rest → drop (length text - length rest) text ≡ rest
rest-there text rest is =
    let front : length text - length rest ≡ length is.0 = omega (arith, ap length is.1, length-append is.0 rest) in
    ap (λ n. drop n text) front ∙ ap (drop (length is.0)) is.1 ∙ drop-append_seam is.0 rest

pub letter-back : (letter : Letter) → row_letter (letter_byte letter) ≡ letter
letter-back Zero = refl
letter-back One = refl
letter-back Any = refl

pub row-back : (row : List Letter) → map row_letter (map letter_byte row) ≡ row
row-back [] = refl
row-back (letter ∷ row) = λ i. letter-back letter i ∷ row-back row i

-- a row whose letters are the first of the end of a text
row-there : (text rest more : List ℕ) (row : List Letter) (width : ℕ) → IsRestOf text rest → rest ≡ map letter_byte row ++ more → length row ≡ width
    → row_at text width (length text - length rest) ≡ row
row-there text rest more row width end is wide =
    let letters = map letter_byte row in
    ap (λ t. map row_letter (take width t)) (rest-there text rest end ∙ is)
    ∙ ap (λ n. map row_letter (take n (letters ++ more))) (sym wide ∙ sym (length-map row letter_byte))
    ∙ ap (map row_letter) (take-append_seam letters more) ∙ row-back row

-- what stands behind a row
behind-row : (rest more : List ℕ) (row : List Letter) (width : ℕ) → rest ≡ map letter_byte row ++ more → length row ≡ width → drop width rest ≡ more
behind-row rest more row width is wide =
    let letters = map letter_byte row in
    ap (drop width) is ∙ ap (λ n. drop n (letters ++ more)) (sym wide ∙ sym (length-map row letter_byte)) ∙ drop-append_seam letters more

-- the end of a text, without some letters at its front
pub rest-behind : (text rest eaten left : List ℕ) → IsRestOf text rest → rest ≡ eaten ++ left → IsRestOf text left
rest-behind text rest eaten left is e = (is.0 ++ eaten, is.1 ∙ ap (λ l. is.0 ++ l) e ∙ sym (append_assoc is.0 eaten left))

-- the first rows of a table are there
pub record IsFilling (before now : OpenLists) (width index : ℕ) (rows : List (List Letter)) (letters left : List ℕ) : Type 0 where
  pub lists : now ≡ record before { rows = now.rows }
  pub rows_are : map (row_at before.text width) now.rows ≡ take index rows
  pub left_is : letters ≡ rows_letters (take index rows) ++ left

pub filling-starts : (before : OpenLists) (width : ℕ) (rows : List (List Letter)) (letters : List ℕ) → before.rows ≡ [] → IsFilling before before width 0 rows letters letters
filling-starts before width rows letters none = record { lists = refl; rows_are = ap (map (row_at before.text width)) none; left_is = refl }

module _ (before now : OpenLists) (width index : ℕ) (rows : List (List Letter)) (letters left : List ℕ) (f : IsFilling before now width index rows letters left)
    (wide : All (λ row. length row ≡ width) rows) (front : IsFrontOf (rows_letters rows) letters) (there : IsRestOf before.text letters) where
  module _ (row : List Letter) (is : slice_get rows index ≡ Some row) where
    rest_is : left ≡ map letter_byte row ++ (rows_letters (drop (index + 1) rows) ++ front.0)
    rest_is =
        append_cancel_left (rows_letters (take index rows)) left (rows_letters (drop index rows) ++ front.0)
        (sym f.left_is ∙ front.1
        ∙ ap (λ l. rows_letters l ++ front.0) (sym (take-append-drop index rows))
        ∙ ap (λ l. l ++ front.0) (flat_map-append (map letter_byte) (take index rows) (drop index rows))
        ∙ append_assoc (rows_letters (take index rows)) (rows_letters (drop index rows)) front.0)
        ∙ ap (λ l. rows_letters l ++ front.0) (drop_next rows index row is)
        ∙ append_assoc (map letter_byte row) (rows_letters (drop (index + 1) rows)) front.0

    is_wide : length row ≡ width
    is_wide = All-at (λ r. length r ≡ width) rows index row wide is

    pub filling-step : (after : OpenLists) → after ≡ with_row now (length now.text - length left)
        → IsFilling before after width (index + 1) rows letters (drop width left)
    filling-step after pushed =
        let place = length before.text - length left in
        let same_text : now.text ≡ before.text = ap (λ (l : OpenLists). l.text) f.lists in
        let after_rows : after.rows ≡ now.rows ++ place ∷ [] = ap (λ (l : OpenLists). l.rows) pushed ∙ ap (λ t. now.rows ++ (length t - length left) ∷ []) same_text in
        let next = take-get rows index row is in
        record {
          lists = pushed ∙ ap (λ (l : OpenLists). record l { rows = now.rows ++ (length now.text - length left) ∷ [] }) f.lists
              ∙ ap (λ r. record before { rows = r }) (sym (ap (λ (l : OpenLists). l.rows) pushed));
          rows_are = ap (map (row_at before.text width)) after_rows ∙ map-push (row_at before.text width) now.rows place
              ∙ (λ i. f.rows_are i ++ row-there before.text left (rows_letters (drop (index + 1) rows) ++ front.0) row width
              (rest-behind before.text letters (rows_letters (take index rows)) left there f.left_is) rest_is is_wide i ∷ [])
              ∙ sym next;
          left_is = f.left_is
              ∙ ap (λ l. rows_letters (take index rows) ++ l) (rest_is
              ∙ ap (λ l. map letter_byte row ++ l) (sym (behind-row left (rows_letters (drop (index + 1) rows) ++ front.0) row width rest_is is_wide)))
              ∙ sym (append_assoc (rows_letters (take index rows)) (map letter_byte row) (drop width left))
              ∙ ap (λ l. l ++ drop width left) (rows-push (take index rows) row ∙ ap rows_letters (sym next));
        }
      where
        rows-push : (some : List (List Letter)) (one : List Letter) → rows_letters some ++ map letter_byte one ≡ rows_letters (some ++ one ∷ [])
        rows-push some one = sym (flat_map-append (map letter_byte) some (one ∷ []) ∙ ap (λ l. rows_letters some ++ l) (append-nil (map letter_byte one)))

  pub filling-ends : length rows ≤ index → HasRows before now width rows × (letters ≡ rows_letters rows ++ left)
  filling-ends all = let whole = take_all index rows all in
      (record { lists = f.lists; rows_are = f.rows_are ∙ whole }, f.left_is ∙ ap (λ l. rows_letters l ++ left) whole)
