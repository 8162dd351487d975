-- The first line of a text of BLIF (Berkeley Logic Interchange Format), cut into words in one pass: what is read of it, and where it ends.
use Rattle.std.specs.Prelude.{ℕ, ◌≡◌, ◌<◌, Bool, ◌==◌, ◌||◌, List, ◌++◌, length, take, slice_index_or}
use Rattle.std.specs.List.{list_any, before_first, after_first, position_or_len}
use Rattle.dom_base.specs.Lines.{is_blank, is_control, is_line_feed, first_word, without_comment, without_return, some_piece, words}
use Rattle.blif_ast.specs.LogicalLines.{is_joined}
use Rattle.blif_lines.specs.Cuts.{own_part}
use Rattle.blif_lines.specs.TextPlaces.{IsFrontOf, StandsAt}

-- a byte that ends a word: a blank, a tab, LF, or the `#` of a comment
abbrev pub ends_word : ℕ → Bool
ends_word b = is_blank b || (is_line_feed b || (b == 35))

-- a byte that ends a word or is a control byte
abbrev pub is_special : ℕ → Bool
is_special b = ends_word b || is_control b

-- the first line of a text without its comment
abbrev pub first_line : List ℕ → List ℕ
first_line text = without_comment (without_return (before_first is_line_feed text))

-- the words of the first line, whether it is joined with the next one, and the text behind it
abbrev pub line_words : List ℕ → List (List ℕ)
line_words text = words (own_part (first_line text))

abbrev pub line_joined : List ℕ → Bool
line_joined text = is_joined (first_line text)

abbrev pub behind_line : List ℕ → List ℕ
behind_line text = after_first is_line_feed text

-- what is kept of the words of a line: whether they have a control byte, and where the first of them stands
pub record IsNoted (text : List ℕ) (words : List (List ℕ)) (has_control : Bool) (place : ℕ) : Type 0 where
  pub control : has_control ≡ list_any (list_any is_control) words
  pub stands : StandsAt text place (first_word words)

-- a blank or a `#` at a place of a text; behind its end there is none
abbrev pub has_blank_at : List ℕ → ℕ → Bool
has_blank_at text place = is_blank (slice_index_or text place 0)

abbrev pub has_hash_at : List ℕ → ℕ → Bool
has_hash_at text place = slice_index_or text place 0 == 35

-- without the `\` at its end that joins the line with the next, where it has one, this word is the one word of the first line, or the line
-- has no word where nothing of it is left; and it stands at the start of so many bytes of the text
pub record IsLast (text word : List ℕ) (end : ℕ) : Type 0 where
  pub words : line_words text ≡ some_piece (own_part word)
  pub joined : line_joined text ≡ is_joined word
  pub front : IsFrontOf (own_part word) (take end text)

-- so many bytes stand before the first that ends a word, and it is known whether there is a control byte among them
pub record IsWordEnd (text : List ℕ) (end : ℕ) (has_control : Bool) : Type 0 where
  pub end_is : end ≡ position_or_len ends_word text
  pub control_is : has_control ≡ list_any is_control (take end text)

-- a word that a blank ends is the first of the line, and the others are those of the text behind the blank
pub record IsStep (text rest : List ℕ) (end : ℕ) : Type 0 where
  pub words : line_words text ≡ some_piece (take end text) ++ line_words rest
  pub joined : line_joined text ≡ line_joined rest
  pub behind : behind_line text ≡ behind_line rest
  pub shorter : length rest < length text
