-- Words of logical lines: each has a byte, and none has a blank or a byte that begins a comment.
use Rattle.std.proofs.Common.{◌≡◌, ℕ, ◌<◌, ◌+◌, ◌-◌, Bool, true, false, ◌==◌, List, [], ◌∷◌, length, nat_lt, map, refl, arith}
use Rattle.std.specs.List.{AllByRecursion, slice_split}
use Rattle.dom_base.specs.Lines.{is_blank, is_word, words, lines, without_comment}
use Rattle.dom_base.proofs.Lists.{AllByRecursion-filter, AllByRecursion-append, AllByRecursion-take, before_first-all}
use Rattle.dom_base.proofs.WordBytes.{pieces_all}
use Rattle.blif_ast.specs.LogicalLines.{LogicalLine, NumberedBytes, in_words, has_words, is_joined, but_last, with_blank, joined_lines, with_line, with_next, logical_lines}

-- a byte that begins no comment
abbrev pub IsNoMark : ℕ → Type 0
IsNoMark b = (b == 35) ≡ false

-- a word that has a byte, and no blank or byte that begins a comment
abbrev pub IsPlainWord : List ℕ → Type 0
IsPlainWord word = (is_word word ≡ true) × AllByRecursion (λ b. IsNoMark b × (is_blank b ≡ false)) word

abbrev pub IsPlainLine : LogicalLine → Type 0
IsPlainLine line = (0 < length line.words) × AllByRecursion IsPlainWord line.words

words_plain : (line : List ℕ) → AllByRecursion IsNoMark line → AllByRecursion IsPlainWord (words line)
words_plain line h = AllByRecursion-filter (AllByRecursion (λ b. IsNoMark b × (is_blank b ≡ false))) is_word (slice_split is_blank line) (pieces_all IsNoMark is_blank line h)

uncommented_plain : (all : List (List ℕ)) → AllByRecursion (AllByRecursion IsNoMark) (map without_comment all)
uncommented_plain [] = tt
uncommented_plain (line ∷ more) = (before_first-all (λ b. b == 35) line, uncommented_plain more)

abbrev PlainBytes : List NumberedBytes → Type 0
PlainBytes all = AllByRecursion (λ line. AllByRecursion IsNoMark line.bytes) all

next_plain : (n : ℕ) (line : List ℕ) (next : List NumberedBytes) → AllByRecursion IsNoMark line → PlainBytes next → PlainBytes (with_next n line next)
next_plain n line [] h k = (h, tt)
next_plain n line (next ∷ more) h k = (AllByRecursion-append IsNoMark line next.bytes h k.0, k.1)

line_plain : (n : ℕ) (line : List ℕ) (next : List NumberedBytes) → AllByRecursion IsNoMark line → PlainBytes next → PlainBytes (with_line n line next)
line_plain n line next h k = by (is_joined line) refl
  where
    by : (b : Bool) → is_joined line ≡ b → PlainBytes (with_line n line next)
    by true e = rw e (next_plain n (with_blank line) next (AllByRecursion-append IsNoMark (but_last line) (32 ∷ []) (AllByRecursion-take IsNoMark (length line - 1) line h) (refl, tt)) k)
    by false e = rw e (h, k)

joined_plain : (n : ℕ) (all : List (List ℕ)) → AllByRecursion (AllByRecursion IsNoMark) all → PlainBytes (joined_lines n all)
joined_plain n [] h = tt
joined_plain n (line ∷ more) h = line_plain n line (joined_lines (n + 1) more) h.0 (joined_plain (n + 1) more h.1)

lines_plain : (all : List NumberedBytes) → PlainBytes all → AllByRecursion (λ line. AllByRecursion IsPlainWord line.words) (map in_words all)
lines_plain [] h = tt
lines_plain (line ∷ more) h = (words_plain line.bytes h.0, lines_plain more h.1)

worded : (all : List LogicalLine) → AllByRecursion (λ line. (has_words line ≡ true) × AllByRecursion IsPlainWord line.words) all → AllByRecursion IsPlainLine all
worded [] h = tt
worded (line ∷ more) h = ((some line.words h.0.0, h.0.1), worded more h.1)
  where
    some : (all : List (List ℕ)) → nat_lt 0 (length all) ≡ true → 0 < length all
    some [] e = absurd (cc)
    some (word ∷ all) e = omega arith

-- the words of the logical lines of a text
pub logical_lines-plain : (text : List ℕ) → AllByRecursion IsPlainLine (logical_lines text)
logical_lines-plain text =
    let bytes = joined_lines 1 (map without_comment (lines text)) in
    worded (logical_lines text) (AllByRecursion-filter (λ line. AllByRecursion IsPlainWord line.words) has_words (map in_words bytes)
    (lines_plain bytes (joined_plain 1 (map without_comment (lines text)) (uncommented_plain (lines text)))))
