-- The next line of a text.
use Rattle.std.proofs.Common.{◌≡◌, ℕ, ◌+◌, Bool, true, false, if◌then◌else◌, List, [], ◌∷◌, map, sym, ap, ◌∙◌, arith}
use Rattle.std.specs.List.{enumerate_from}
use Rattle.std.specs.Str.{str_to_ascii_lowercase}
use Rattle.dom_base.specs.Cuts.{IsCut}
use Rattle.dom_base.specs.Lines.{unindented}
use Rattle.deck.specs.DeckText.{deck_lines, read_line, through_end, is_end}
use Rattle.spice_read.specs.Readers.{end_from, LinesLeft, ReadsLine}
use Rattle.spice_read.proofs.FirstWords.{unindented-twice}
use Rattle.spice_read.proofs.LowerCase.{unindented-lower}

lines-cut : (text raw tail : List ℕ) → IsCut text raw tail → deck_lines text ≡ read_line raw ∷ (if is_end (read_line raw) then [] else deck_lines tail)
lines-cut text raw tail cut = ap (λ l. through_end (map read_line l)) cut.lines_are

no_indent : (raw : List ℕ) → unindented (read_line raw) ≡ read_line raw
no_indent raw = unindented-lower (unindented raw) ∙ ap str_to_ascii_lowercase (unindented-twice raw)

module _ (before : LinesLeft) (raw tail : List ℕ) (cut : IsCut before.rest raw tail) where
  -- the line `.end`, behind which nothing is read
  pub last_line : (line : List ℕ) → line ≡ unindented raw → is_end (str_to_ascii_lowercase line) ≡ true
      → ReadsLine before (str_to_ascii_lowercase line) (record { number = before.number; rest = [] })
  last_line line is ends =
      let lower : str_to_ascii_lowercase line ≡ read_line raw = ap str_to_ascii_lowercase is in
      let ends_raw : is_end (read_line raw) ≡ true = ap is_end (sym lower) ∙ ends in
      let all : deck_lines before.rest ≡ str_to_ascii_lowercase line ∷ [] =
      lines-cut before.rest raw tail cut ∙ ap (λ (t : Bool). read_line raw ∷ (if t then [] else deck_lines tail)) ends_raw ∙ ap (λ l. l ∷ []) (sym lower) in
      record {
        lines_are = all;
        numbered = ap (enumerate_from before.number) all;
        end_is = ap (end_from before.number) all ∙ ap (λ (t : Bool). if t then before.number else before.number + 1) ends;
        no_indent = ap unindented lower ∙ no_indent raw ∙ sym lower;
        shorter = omega (arith, cut.shorter);
      }

  -- any other line
  pub other_line : (line : List ℕ) → line ≡ unindented raw → is_end (str_to_ascii_lowercase line) ≡ false
      → ReadsLine before (str_to_ascii_lowercase line) (record { number = before.number + 1; rest = tail })
  other_line line is goes =
      let lower : str_to_ascii_lowercase line ≡ read_line raw = ap str_to_ascii_lowercase is in
      let goes_raw : is_end (read_line raw) ≡ false = ap is_end (sym lower) ∙ goes in
      let all : deck_lines before.rest ≡ str_to_ascii_lowercase line ∷ deck_lines tail =
      lines-cut before.rest raw tail cut ∙ ap (λ (t : Bool). read_line raw ∷ (if t then [] else deck_lines tail)) goes_raw ∙ ap (λ l. l ∷ deck_lines tail) (sym lower) in
      record {
        lines_are = all;
        numbered = ap (enumerate_from before.number) all;
        end_is = ap (end_from before.number) all ∙ ap (λ (t : Bool). if t then before.number else end_from (before.number + 1) (deck_lines tail)) goes;
        no_indent = ap unindented lower ∙ no_indent raw ∙ sym lower;
        shorter = cut.shorter;
      }
