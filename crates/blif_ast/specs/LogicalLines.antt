-- Joined lines and logical lines of BLIF, the Berkeley Logic Interchange Format.
use Rattle.std.specs.Prelude.{ℕ, nat_eq, nat_lt, ◌+◌, ◌-◌, Bool, if◌then◌else◌, List, [], ◌∷◌, ◌++◌, length, map, filter, take}
use Rattle.std.specs.List.{ends_with}
use Rattle.dom_base.specs.Lines.{lines, words, without_comment}

-- a logical line: the number of its first line, from 1, and its words
pub record LogicalLine : Type 0 where
  pub number : ℕ
  pub words : List (List ℕ)

-- the bytes of a logical line, with the number of its first line
pub record NumberedBytes : Type 0 where
  pub number : ℕ
  pub bytes : List ℕ

-- the last byte, or 0 where there is none
abbrev pub last_byte : List ℕ → ℕ
last_byte [] = 0
last_byte (b ∷ []) = b
last_byte (b ∷ next ∷ bs) = last_byte (next ∷ bs)

-- a line that is joined with the next one: its last byte is `\`
abbrev pub is_joined : List ℕ → Bool
is_joined line = ends_with nat_eq line (92 ∷ [])

-- a line without its last byte
abbrev pub but_last : List ℕ → List ℕ
but_last line = take (length line - 1) line

-- a line with a blank in place of its last byte
abbrev pub with_blank : List ℕ → List ℕ
with_blank line = but_last line ++ 32 ∷ []

-- a line in front of the logical line that comes next, as one; at the end of the text it stands alone
abbrev pub with_next : ℕ → List ℕ → List NumberedBytes → List NumberedBytes
with_next number line [] = record { number = number; bytes = line } ∷ []
with_next number line (next ∷ more) = record { number = number; bytes = line ++ next.bytes } ∷ more

-- a line in front of the logical lines that come next: where it ends with `\`, that byte becomes a blank, and the
-- first of them is appended
abbrev pub with_line : ℕ → List ℕ → List NumberedBytes → List NumberedBytes
with_line number line next =
    if is_joined line then with_next number (with_blank line) next
    else record { number = number; bytes = line } ∷ next

-- the logical lines of lines without comments, the first of which has this number
abbrev pub joined_lines : ℕ → List (List ℕ) → List NumberedBytes
joined_lines number [] = []
joined_lines number (line ∷ more) = with_line number line (joined_lines (number + 1) more)

-- a logical line by its words
abbrev pub in_words : NumberedBytes → LogicalLine
in_words line = record { number = line.number; words = words line.bytes }

abbrev pub has_words : LogicalLine → Bool
has_words line = nat_lt 0 (length line.words)

-- the logical lines of some lines, the first of which has this number, without those that have no words
abbrev pub logical_lines_from : ℕ → List (List ℕ) → List LogicalLine
logical_lines_from number all = filter has_words (map in_words (joined_lines number (map without_comment all)))

-- the logical lines of a text that have words
abbrev pub logical_lines : List ℕ → List LogicalLine
logical_lines text = logical_lines_from 1 (lines text)
