-- How logical lines are cut out of the lines of a text, piece by piece.
use Rattle.std.specs.Prelude.{ℕ, ◌≡◌, Bool, true, false, if◌then◌else◌, List, [], ◌∷◌, ◌++◌, map}
use Rattle.dom_base.specs.Lines.{words, without_comment}
use Rattle.blif_ast.specs.LogicalLines.{LogicalLine, but_last, in_words, is_joined, joined_lines}

-- a logical line by its number and its words
abbrev pub numbered_line : ℕ → List (List ℕ) → LogicalLine
numbered_line number all = record { number = number; words = all }

-- logical lines by their words
abbrev pub worded_lines : ℕ → List (List ℕ) → List LogicalLine
worded_lines number all = map in_words (joined_lines number (map without_comment all))

-- a line without its comment and without the byte that joins it
abbrev pub own_part : List ℕ → List ℕ
own_part line = if is_joined line then but_last line else line

-- the first line adds its words to those before it, and goes on where it is joined with the next
pub record IsPiece (all : List (List ℕ)) (goes_on : Bool) (before after : List (List ℕ)) (rest : List (List ℕ)) : Type 0 where
  pub line : List ℕ
  pub lines_are : all ≡ line ∷ rest
  pub goes_on_is : goes_on ≡ is_joined (without_comment line)
  pub words_are : after ≡ before ++ words (own_part (without_comment line))

-- words that stand before some logical lines, as a line of this number: the first of them is appended where the line goes on
abbrev pub with_words : Bool → ℕ → List (List ℕ) → List LogicalLine → List LogicalLine
with_words false number front next = record { number = number; words = front } ∷ next
with_words true number front [] = record { number = number; words = front } ∷ []
with_words true number front (next ∷ more) = record { number = number; words = front ++ next.words } ∷ more
