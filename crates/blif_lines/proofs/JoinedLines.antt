-- Lines that are joined by a `\` at their end: their words are those of the logical line.
use Rattle.std.proofs.Common.{◌≡◌, ℕ, ◌<◌, ◌+◌, Bool, true, false, cond, List, [], ◌∷◌, ◌++◌, length, map, refl, sym, ap, ◌∙◌, subst, arith}
use Rattle.std.specs.List.{slice_split, onto_first, filter}
use Rattle.std.proofs.lemmas.List.{append_assoc, append-nil}
use Rattle.std.proofs.lemmas.List.Elements.{filter-append}
use Rattle.std.proofs.lemmas.List.Splits.{length-slice_split}
use Rattle.dom_base.specs.Lines.{words, is_blank, is_word, without_comment}
use Rattle.blif_ast.specs.LogicalLines.{LogicalLine, NumberedBytes, in_words, is_joined, joined_lines, but_last, with_line, with_next}
use Rattle.blif_lines.specs.Cuts.{worded_lines, own_part, with_words, IsPiece}

onto_first-append : (x : ℕ) (parts more : List (List ℕ)) → 0 < length parts → onto_first x (parts ++ more) ≡ onto_first x parts ++ more
onto_first-append x [] more some = absurd (omega arith)
onto_first-append x (part ∷ parts) more some = refl

cond-append : (x : ℕ) (b : Bool) (parts more : List (List ℕ)) → 0 < length parts → cond b ([] ∷ parts ++ more) (onto_first x (parts ++ more)) ≡ cond b ([] ∷ parts) (onto_first x parts) ++ more
cond-append x true parts more some = refl
cond-append x false parts more some = onto_first-append x parts more some

-- a list that is cut at an element: its parts are those before it and those behind it
slice_split-append : (p : ℕ → Bool) (front : List ℕ) (y : ℕ) (rest : List ℕ) → p y ≡ true → slice_split p (front ++ y ∷ rest) ≡ slice_split p front ++ slice_split p rest
slice_split-append p [] y rest is = ap (λ b. cond b ([] ∷ slice_split p rest) (onto_first y (slice_split p rest))) is
slice_split-append p (x ∷ front) y rest is =
    ap (λ parts. cond (p x) ([] ∷ parts) (onto_first x parts)) (slice_split-append p front y rest is)
    ∙ cond-append x (p x) (slice_split p front) (slice_split p rest) (omega (arith, length-slice_split p front))

-- the words before a blank and those behind it
pub words-blank : (front rest : List ℕ) → words (front ++ 32 ∷ rest) ≡ words front ++ words rest
words-blank front rest = ap (filter is_word) (slice_split-append is_blank front 32 rest refl) ∙ filter-append is_word (slice_split is_blank front) (slice_split is_blank rest)

words-with_blank : (front : List ℕ) → words (front ++ 32 ∷ []) ≡ words front
words-with_blank front = words-blank front [] ∙ append-nil (words front)

words-joined : (front rest : List ℕ) → words (front ++ 32 ∷ [] ++ rest) ≡ words front ++ words rest
words-joined front rest = ap words (append_assoc front (32 ∷ []) rest) ∙ words-blank front rest

with_next-words : (number : ℕ) (front : List ℕ) (next : List NumberedBytes)
    → map in_words (with_next number (front ++ 32 ∷ []) next) ≡ with_words true number (words front) (map in_words next)
with_next-words number front [] = ap (λ w. record { number = number; words = w } ∷ []) (words-with_blank front)
with_next-words number front (next ∷ more) = ap (λ w. record { number = number; words = w } ∷ map in_words more) (words-joined front next.bytes)

with_line-words : (number : ℕ) (line : List ℕ) (next : List NumberedBytes) (joined : Bool) → is_joined line ≡ joined
    → map in_words (with_line number line next) ≡ with_words joined number (words (own_part line)) (map in_words next)
with_line-words number line next true is = rw is (with_next-words number (but_last line) next)
with_line-words number line next false is = rw is refl

-- the first line in front of the logical lines behind it
pub worded_lines-line : (number : ℕ) (line : List ℕ) (more : List (List ℕ))
    → worded_lines number (line ∷ more) ≡ with_words (is_joined (without_comment line)) number (words (own_part (without_comment line))) (worded_lines (number + 1) more)
worded_lines-line number line more = with_line-words number (without_comment line) (joined_lines (number + 1) (map without_comment more)) (is_joined (without_comment line)) refl

-- words in front of words in front of logical lines
pub with_words-twice : (goes_on : Bool) (number other : ℕ) (front words : List (List ℕ)) (next : List LogicalLine)
    → with_words true number front (with_words goes_on other words next) ≡ with_words goes_on number (front ++ words) next
with_words-twice false number other front words next = refl
with_words-twice true number other front words [] = refl
with_words-twice true number other front words (next ∷ more) = ap (λ w. record { number = number; words = w } ∷ more) (sym (append_assoc front words next.words))

piece_words : (all : List (List ℕ)) (number : ℕ) (goes_on : Bool) (before after rest : List (List ℕ)) (p : IsPiece all goes_on before after rest)
    → worded_lines number all ≡ with_words goes_on number (words (own_part (without_comment p.line))) (worded_lines (number + 1) rest)
piece_words all number goes_on before after rest p =
    ap (worded_lines number) p.lines_are ∙ worded_lines-line number p.line rest
    ∙ ap (λ b. with_words b number (words (own_part (without_comment p.line))) (worded_lines (number + 1) rest)) (sym p.goes_on_is)

-- the first piece of a logical line
pub first_piece : (all : List (List ℕ)) (number next : ℕ) (goes_on : Bool) (after rest : List (List ℕ)) → next ≡ number + 1 → IsPiece all goes_on [] after rest
    → worded_lines number all ≡ with_words goes_on number after (worded_lines next rest)
first_piece all number next goes_on after rest is p =
    piece_words all number goes_on [] after rest p
    ∙ ap (λ w. with_words goes_on number w (worded_lines (number + 1) rest)) (sym p.words_are)
    ∙ ap (λ n. with_words goes_on number after (worded_lines n rest)) (sym is)

-- one more piece of a logical line
pub one_more_piece : {whole : List LogicalLine} {all : List (List ℕ)} (first number : ℕ) {next : ℕ} {goes_on : Bool} {before after rest : List (List ℕ)}
    → whole ≡ with_words true first before (worded_lines number all) → next ≡ number + 1 → IsPiece all goes_on before after rest
    → whole ≡ with_words goes_on first after (worded_lines next rest)
one_more_piece {all = all} first number {goes_on = goes_on} {before = before} {after = after} {rest = rest} so_far is p =
    so_far ∙ ap (with_words true first before) (piece_words all number goes_on before after rest p)
    ∙ with_words-twice goes_on first number before (words (own_part (without_comment p.line))) (worded_lines (number + 1) rest)
    ∙ ap (λ w. with_words goes_on first w (worded_lines (number + 1) rest)) (sym p.words_are)
    ∙ ap (λ n. with_words goes_on first after (worded_lines n rest)) (sym is)

pub first_piece_of : {all : List (List ℕ)} (number : ℕ) {next : ℕ} {goes_on : Bool} {before after rest : List (List ℕ)} → before ≡ [] → next ≡ number + 1 → IsPiece all goes_on before after rest
    → worded_lines number all ≡ with_words goes_on number after (worded_lines next rest)
first_piece_of {all = all} number {next = next} {goes_on = goes_on} {after = after} {rest = rest} none is p = first_piece all number next goes_on after rest is (subst (λ b. IsPiece all goes_on b after rest) none p)

-- a line fewer, a number more
pub count_piece : {all rest : List (List ℕ)} (number : ℕ) {next : ℕ} {goes_on : Bool} {before after : List (List ℕ)} → next ≡ number + 1 → IsPiece all goes_on before after rest
    → next + length rest ≡ number + length all
count_piece number is p = omega (arith, is, ap length p.lines_are)

pub more_pieces : {whole : List LogicalLine} {all : List (List ℕ)} (first number : ℕ) {next : ℕ} (was : Bool) {goes_on : Bool} {before after rest : List (List ℕ)}
    → was ≡ true → whole ≡ with_words was first before (worded_lines number all) → next ≡ number + 1 → IsPiece all goes_on before after rest
    → whole ≡ with_words goes_on first after (worded_lines next rest)
more_pieces {all = all} first number was {before = before} still so_far is p =
    one_more_piece first number (so_far ∙ ap (λ b. with_words b first before (worded_lines number all)) still) is p
