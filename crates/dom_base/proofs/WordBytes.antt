-- The bytes of lines and words: of the words of a line, of a line in lower case, and of lines that are put together from names.
use Rattle.std.proofs.Common.{◌≡◌, ℕ, ◌<◌, ◌⊎◌, Bool, true, false, List, [], ◌∷◌, refl, ap, ◌∙◌, arith, All, ◌≢◌, ◌==◌, not, inl, inr, ◌++◌, map, filter, append-nil, append_assoc, if◌then◌else◌, drop}
use Rattle.std.specs.Char.{to_ascii_lowercase}
use Rattle.std.specs.Str.{str_to_ascii_lowercase}
use Rattle.std.specs.List.{AllByRecursion, slice_split, onto_first, prefix_len}
use Rattle.std.proofs.lemmas.Bool.Decides.{nat_tests}
use Rattle.std.proofs.lemmas.List.Elements.{All-from_recursion, recursion_from_All, All-append, All-cons, All-nil, All-weaker, filter-append}
use Rattle.dom_base.specs.Lines.{is_blank, is_word, words, is_line_feed, IsLower, IsLowerWord, lines, some_piece, without_comment, without_empty_last, without_return, unindented}
use Rattle.dom_base.specs.Names.{IsNetByte, IsNetName}
use Rattle.std.proofs.lemmas.List.Folds.{map_fixed}
use Rattle.std.proofs.lemmas.Str.Ascii.{lowercase_is}
use Rattle.dom_base.specs.Joined.{after_blanks, joined, IsClean, IsSolid}
use Rattle.std.proofs.lemmas.List.Splits.{slice_split_at}
use Rattle.dom_base.proofs.Lists.{AllByRecursion-filter, AllByRecursion-kept, AllByRecursion-take, AllByRecursion-weaker, filter_all, AllByRecursion-drop}

onto_first-all : (P : ℕ → Type 0) (b : ℕ) (pieces : List (List ℕ)) → P b → AllByRecursion (AllByRecursion P) pieces → AllByRecursion (AllByRecursion P) (onto_first b pieces)
onto_first-all P b [] p h = ((p, tt), tt)
onto_first-all P b (piece ∷ pieces) p h = ((p, h.0), h.1)

-- the bytes of the pieces of a line
pub pieces_all : (P : ℕ → Type 0) (test : ℕ → Bool) (bs : List ℕ) → AllByRecursion P bs
    → AllByRecursion (AllByRecursion (λ b. P b × (test b ≡ false))) (slice_split test bs)
pieces_all P test [] h = (tt, tt)
pieces_all P test (b ∷ bs) h = by (test b) refl (pieces_all P test bs h.1)
  where
    by : (t : Bool) → test b ≡ t → AllByRecursion (AllByRecursion (λ c. P c × (test c ≡ false))) (slice_split test bs)
        → AllByRecursion (AllByRecursion (λ c. P c × (test c ≡ false))) (slice_split test (b ∷ bs))
    by true e rest = rw e (tt, rest)
    by false e rest = rw e (onto_first-all (λ c. P c × (test c ≡ false)) b (slice_split test bs) (h.0, e) rest)

-- the same without the test: the words and the lines of a text have its bytes alone
pieces_each : (P : ℕ → Type 0) (test : ℕ → Bool) (bs : List ℕ) → AllByRecursion P bs → AllByRecursion (AllByRecursion P) (slice_split test bs)
pieces_each P test bs h =
    AllByRecursion-weaker (AllByRecursion (λ b. P b × (test b ≡ false))) (AllByRecursion P)
    (λ piece k. AllByRecursion-weaker (λ b. P b × (test b ≡ false)) P (λ b both. both.0) piece k) (slice_split test bs) (pieces_all P test bs h)

pub words_each : (P : ℕ → Type 0) (line : List ℕ) → AllByRecursion P line → AllByRecursion (AllByRecursion P) (words line)
words_each P line h = AllByRecursion-kept (AllByRecursion P) is_word (slice_split is_blank line) (pieces_each P is_blank line h)

some_piece-each : (P : ℕ → Type 0) (piece : List ℕ) → AllByRecursion P piece → AllByRecursion (AllByRecursion P) (some_piece piece)
some_piece-each P [] h = tt
some_piece-each P (b ∷ bs) h = (h, tt)

without_empty_last-each : (P : ℕ → Type 0) (pieces : List (List ℕ)) → AllByRecursion (AllByRecursion P) pieces → AllByRecursion (AllByRecursion P) (without_empty_last pieces)
without_empty_last-each P [] h = tt
without_empty_last-each P (piece ∷ []) h = some_piece-each P piece h.0
without_empty_last-each P (piece ∷ next ∷ pieces) h = (h.0, without_empty_last-each P (next ∷ pieces) h.1)

pub without_return-each : (P : ℕ → Type 0) (line : List ℕ) → AllByRecursion P line → AllByRecursion P (without_return line)
without_return-each P [] h = tt
without_return-each P (b ∷ []) h = by (b == 13) refl
  where
    by : (t : Bool) → (b == 13) ≡ t → AllByRecursion P (without_return (b ∷ []))
    by true e = rw e tt
    by false e = rw e h
without_return-each P (b ∷ next ∷ bs) h = (h.0, without_return-each P (next ∷ bs) h.1)

returns-each : (P : ℕ → Type 0) (all : List (List ℕ)) → AllByRecursion (AllByRecursion P) all → AllByRecursion (AllByRecursion P) (map without_return all)
returns-each P [] h = tt
returns-each P (line ∷ more) h = (without_return-each P line h.0, returns-each P more h.1)

pub lines_each : (P : ℕ → Type 0) (text : List ℕ) → AllByRecursion P text → AllByRecursion (AllByRecursion P) (lines text)
lines_each P text h =
    returns-each P (without_empty_last (slice_split is_line_feed text))
    (without_empty_last-each P (slice_split is_line_feed text) (pieces_each P is_line_feed text h))

pub without_comment_each : (P : ℕ → Type 0) (line : List ℕ) → AllByRecursion P line → AllByRecursion P (without_comment line)
without_comment_each P line h = AllByRecursion-take P (prefix_len (λ b. not (b == 35)) line) line h

pub unindented_each : (P : ℕ → Type 0) (line : List ℕ) → AllByRecursion P line → AllByRecursion P (unindented line)
unindented_each P [] h = tt
unindented_each P (b ∷ bs) h = by (is_blank b) (unindented_each P bs h.1)
  where
    by : (t : Bool) → AllByRecursion P (unindented bs) → AllByRecursion P (if t then unindented bs else b ∷ bs)
    by true rest = rest
    by false rest = h

lower-lowercase : (b : ℕ) → (to_ascii_lowercase b < 65) ⊎ (90 < to_ascii_lowercase b)
lower-lowercase b = grind (arith, nat_tests)

-- a text in lower-case has no upper-case letter
pub lower_bytes : (bs : List ℕ) → AllByRecursion IsLower (str_to_ascii_lowercase bs)
lower_bytes [] = tt
lower_bytes (b ∷ bs) = (lower-lowercase b, lower_bytes bs)

-- the words of a line without upper-case letters
pub lower_words : (line : List ℕ) → AllByRecursion IsLower line → AllByRecursion IsLowerWord (words line)
lower_words line h = AllByRecursion-filter (AllByRecursion (λ b. IsLower b × (is_blank b ≡ false))) is_word (slice_split is_blank line) (pieces_all IsLower is_blank line h)

-- a line without its first byte
pub lower-drop : (line : List ℕ) → AllByRecursion IsLower line → AllByRecursion IsLower (drop 1 line)
lower-drop line h = AllByRecursion-drop IsLower 1 line h

-- a word that has a byte
pub some_byte : (word : List ℕ) → word ≢ [] → is_word word ≡ true
some_byte [] n = absurd (n refl)
some_byte (b ∷ bs) n = refl

net_byte_no_blank : (b : ℕ) → IsNetByte b → is_blank b ≡ false
net_byte_no_blank b h = grind (arith, nat_tests, h.0)

-- a byte of a line of plain words: a blank, or a byte of a name
abbrev pub IsLineByte : ℕ → Type 0
IsLineByte b = (31 < b) × ((b < 65) ⊎ (90 < b))

-- a byte that is no control byte is no LF and no CR
pub printed_no_feed : (b : ℕ) → 31 < b → is_line_feed b ≡ false
printed_no_feed b h = grind (arith, nat_tests, h)

pub printed_no_return : (b : ℕ) → 31 < b → (b == 13) ≡ false
printed_no_return b h = grind (arith, nat_tests, h)

-- a line without control bytes holds no LF and no CR
pub IsClean-printed : (line : List ℕ) → AllByRecursion (λ b. 31 < b) line → IsClean line
IsClean-printed line h = record {
  no_feed = All-from_recursion (λ b. is_line_feed b ≡ false) line (AllByRecursion-weaker (λ b. 31 < b) (λ b. is_line_feed b ≡ false) printed_no_feed line h);
  no_return = All-from_recursion (λ b. (b == 13) ≡ false) line (AllByRecursion-weaker (λ b. 31 < b) (λ b. (b == 13) ≡ false) printed_no_return line h);
}

line_byte_lower : (b : ℕ) → IsLineByte b → to_ascii_lowercase b ≡ b
line_byte_lower b h = by h.1
  where
    by : (b < 65) ⊎ (90 < b) → to_ascii_lowercase b ≡ b
    by (inl low) = (lowercase_is b).1 low
    by (inr high) = (lowercase_is b).2 high

net_byte_is_line_byte : (b : ℕ) → IsNetByte b → IsLineByte b
net_byte_is_line_byte b h = (omega (arith, h.0), h.2)

-- a name has no blank
pub IsSolid-name : (word : List ℕ) → IsNetName word → IsSolid word
IsSolid-name word h = record { some = some_byte word h.some; no_blank = All-weaker IsNetByte (λ b. is_blank b ≡ false) net_byte_no_blank word h.good }

pub AllSolid-names : (all : List (List ℕ)) → AllByRecursion IsNetName all → AllByRecursion IsSolid all
AllSolid-names [] h = tt
AllSolid-names (word ∷ all) h = (IsSolid-name word h.0, AllSolid-names all h.1)

line_bytes-after_blanks : (others : List (List ℕ)) → AllByRecursion IsNetName others → All IsLineByte (after_blanks others)
line_bytes-after_blanks [] h = All-nil IsLineByte
line_bytes-after_blanks (word ∷ others) h =
    All-append IsLineByte (32 ∷ word) (after_blanks others)
    (All-cons IsLineByte 32 word (omega arith, inl (omega arith)) (All-weaker IsNetByte IsLineByte net_byte_is_line_byte word h.0.good))
    (line_bytes-after_blanks others h.1)

line_bytes-joined : (first : List ℕ) (others : List (List ℕ)) → IsNetName first → AllByRecursion IsNetName others → All IsLineByte (joined first others)
line_bytes-joined first others f h =
    All-append IsLineByte first (after_blanks others) (All-weaker IsNetByte IsLineByte net_byte_is_line_byte first f.good) (line_bytes-after_blanks others h)

-- a line of names holds no LF and no CR
pub IsClean-joined : (first : List ℕ) (others : List (List ℕ)) → IsNetName first → AllByRecursion IsNetName others → IsClean (joined first others)
IsClean-joined first others f h =
    IsClean-printed (joined first others) (AllByRecursion-weaker IsLineByte (λ b. 31 < b) (λ b k. k.0) (joined first others)
    (recursion_from_All IsLineByte (joined first others) (line_bytes-joined first others f h)))

-- and no upper-case letter
pub lowercase-joined : (first : List ℕ) (others : List (List ℕ)) → IsNetName first → AllByRecursion IsNetName others
    → str_to_ascii_lowercase (joined first others) ≡ joined first others
lowercase-joined first others f h =
    map_fixed to_ascii_lowercase (joined first others)
    (All-weaker IsLineByte (λ b. to_ascii_lowercase b ≡ b) line_byte_lower (joined first others) (line_bytes-joined first others f h))

-- words that are put together with one blank between any two, and a blank behind the last
split-trailing : (first : List ℕ) (others : List (List ℕ)) → IsSolid first → AllByRecursion IsSolid others
    → slice_split is_blank (joined first others ++ 32 ∷ []) ≡ (first ∷ others) ++ [] ∷ []
split-trailing first [] f h = ap (λ l. slice_split is_blank (l ++ 32 ∷ [])) (append-nil first) ∙ slice_split_at is_blank first 32 [] f.no_blank refl
split-trailing first (word ∷ others) f h =
    ap (slice_split is_blank) (append_assoc first (32 ∷ joined word others) (32 ∷ []))
    ∙ slice_split_at is_blank first 32 (joined word others ++ 32 ∷ []) f.no_blank refl
    ∙ ap (λ l. first ∷ l) (split-trailing word others h.0 h.1)

pub words-trailing : (first : List ℕ) (others : List (List ℕ)) → IsSolid first → AllByRecursion IsSolid others
    → words (joined first others ++ 32 ∷ []) ≡ first ∷ others
words-trailing first others f h =
    ap (filter is_word) (split-trailing first others f h)
    ∙ filter-append is_word (first ∷ others) ([] ∷ [])
    ∙ append-nil (filter is_word (first ∷ others))
    ∙ filter_all is_word (first ∷ others) (f.some, AllByRecursion-weaker IsSolid (λ word. is_word word ≡ true) (λ word k. k.some) others h)
