-- The first line of a text and the text behind it.
use Rattle.std.specs.Prelude.{ℕ, ◌≡◌, ◌<◌, ◌+◌, ◌^◌, List, ◌∷◌, ◌++◌, length}
use Rattle.std.specs.List.{after_first}
use Rattle.dom_base.specs.Lines.{is_line_feed, lines}

-- a text is cut into its first line and the text behind its first LF, or no text where it has no LF; what ends the line
-- stands between them
pub record IsCut (text line rest : List ℕ) : Type 0 where
  pub ending : List ℕ
  pub text_is : text ≡ line ++ ending ++ rest
  pub rest_is : rest ≡ after_first is_line_feed text
  pub lines_are : lines text ≡ line ∷ lines rest
  pub shorter : length rest < length text

-- numbers of lines fit while the text is read: each line has a byte
abbrev pub NumbersFit : ℕ → List ℕ → Type 0
NumbersFit number rest = number + length rest < 2 ^ 64
