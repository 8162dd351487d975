-- The lines of a text, the words of a line, and their bytes.
use Rattle.std.specs.Prelude.{ℕ, ◌≡◌, ◌<◌, ◌⊎◌, Bool, true, false, ◌==◌, ◌||◌, ◌&&◌, not, nat_lt, if◌then◌else◌, List, [], ◌∷◌, map, filter, slice_index_or}
use Rattle.std.specs.List.{AllByRecursion, before_first, slice_split}

-- a byte that ends a line: LF
abbrev pub is_line_feed : ℕ → Bool
is_line_feed b = b == 10

-- a byte that parts words: a blank or a tab
abbrev pub is_blank : ℕ → Bool
is_blank b = (b == 32) || (b == 9)

-- a control byte: one below 32 that is no tab, or 127
abbrev pub is_control : ℕ → Bool
is_control b = (nat_lt b 32 && not (b == 9)) || (b == 127)

-- a last piece, or nothing where it is empty
abbrev pub some_piece : List ℕ → List (List ℕ)
some_piece [] = []
some_piece (b ∷ bs) = (b ∷ bs) ∷ []

-- the pieces without the last one where that is empty
abbrev pub without_empty_last : List (List ℕ) → List (List ℕ)
without_empty_last [] = []
without_empty_last (piece ∷ []) = some_piece piece
without_empty_last (piece ∷ next ∷ pieces) = piece ∷ without_empty_last (next ∷ pieces)

-- a line without one CR at its end
abbrev pub without_return : List ℕ → List ℕ
without_return [] = []
without_return (b ∷ []) = if b == 13 then [] else b ∷ []
without_return (b ∷ next ∷ bs) = b ∷ without_return (next ∷ bs)

-- a line without its comment, which begins at the first `#`
abbrev pub without_comment : List ℕ → List ℕ
without_comment line = before_first (λ b. b == 35) line

-- the lines of a text: it is cut at LF, a last piece that is empty is no line, and a CR that ends a line is dropped
abbrev pub lines : List ℕ → List (List ℕ)
lines text = map without_return (without_empty_last (slice_split is_line_feed text))

-- a piece of a line is a word where it has a byte
abbrev pub is_word : List ℕ → Bool
is_word [] = false
is_word (b ∷ bs) = true

-- the words of a line, which blanks and tabs part
abbrev pub words : List ℕ → List (List ℕ)
words line = filter is_word (slice_split is_blank line)

-- the first of some words, or no bytes where there is none
abbrev pub first_word : List (List ℕ) → List ℕ
first_word all = slice_index_or all 0 []

-- a line without the blanks and tabs at its start
abbrev pub unindented : List ℕ → List ℕ
unindented [] = []
unindented (b ∷ bs) = if is_blank b then unindented bs else b ∷ bs

-- a byte that is no upper-case ASCII letter
abbrev pub IsLower : ℕ → Type 0
IsLower b = (b < 65) ⊎ (90 < b)

-- a word of a line without upper-case letters: it has a byte, and no blank
abbrev pub IsLowerWord : List ℕ → Type 0
IsLowerWord word = (is_word word ≡ true) × AllByRecursion (λ b. IsLower b × (is_blank b ≡ false)) word
