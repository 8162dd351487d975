-- Where the reader of a deck stands, and what one step of it reads: lines and cards, in lower case.
use Rattle.std.specs.Prelude.{ℕ, ◌≡◌, ◌<◌, ◌+◌, Bool, true, false, ◌&&◌, ◌||◌, ◌==◌, not, nat_eq, nat_lt, if◌then◌else◌, List, [], ◌∷◌, ◌++◌, length, map, drop, codes, Option, Some, None, IsNone}
use Rattle.std.specs.Cmp.Lexicographic.{pointwise}
use Rattle.std.specs.List.{enumerate_from, filter_map, list_any}
use Rattle.dom_base.specs.Lines.{is_control, unindented, words}
use Rattle.deck.specs.declared.phase.Phase.{Phase}
use Rattle.deck.specs.DeckText.{deck_lines, deck_phases, added_words, is_of_card, continues, is_end, phase_of}
use Rattle.deck.specs.DeckCards.{NumberedCard, numbered_lines, numbered_lines_from, numbered_cards, numbered_cards_of}
use Rattle.deck.specs.DeckFaults.{end_line}

-- the cards of some lines, the first of which has this number
abbrev pub cards_from : ℕ → List (List ℕ) → List NumberedCard
cards_from number all = numbered_cards_of (numbered_lines_from number all)

-- the phases of some lines
abbrev pub phases_from : List (List ℕ) → List Phase
phases_from all = filter_map phase_of (map words all)

-- the number of the line `.end` of some lines, or of the one behind them
abbrev pub end_from : ℕ → List (List ℕ) → ℕ
end_from number [] = number
end_from number (line ∷ more) = if is_end line then number else end_from (number + 1) more

-- a line with which a card begins
abbrev pub begins_card : List ℕ → Bool
begins_card line = is_of_card line && not (continues line)

-- the lines that are left: the number of the next one, and the text from it on
pub record LinesLeft : Type 0 where
  pub number : ℕ
  pub rest : List ℕ

-- a line was read: it was the first of those that were left
pub record ReadsLine (before : LinesLeft) (line : List ℕ) (after : LinesLeft) : Type 0 where
  pub lines_are : deck_lines before.rest ≡ line ∷ deck_lines after.rest
  pub numbered : enumerate_from before.number (deck_lines before.rest)
      ≡ (before.number, line) ∷ enumerate_from after.number (deck_lines after.rest)
  pub end_is : end_from before.number (deck_lines before.rest) ≡ end_from after.number (deck_lines after.rest)
  pub no_indent : unindented line ≡ line
  pub shorter : length after.rest < length before.rest

-- where a reader stands: the line that it holds, which begins the next card, with its number; the lines that are left; and
-- the phases of those that were read
pub record Reader : Type 0 where
  pub held : Option (ℕ × List ℕ)
  pub left : LinesLeft
  pub phases : List Phase

-- the words that a line adds to the card before it
abbrev pub continued_words : List ℕ → List (List ℕ)
continued_words line = if continues line then words (drop 1 line) else []

-- a card of this number with these words, to which the lines that continue it add words, and the cards behind it
abbrev pub continued_card : ℕ → List (List ℕ) → List (ℕ × List ℕ) → List NumberedCard
continued_card number front lines =
    record { number = number; words = front ++ added_words (map (λ q. q.1) lines) } ∷ numbered_cards_of lines

-- the lines of cards among those that are left, each with its number
abbrev pub card_lines_left : LinesLeft → List (ℕ × List ℕ)
card_lines_left left = numbered_lines_from left.number (deck_lines left.rest)

-- the cards of a held line, if there is one, and of the lines behind it
abbrev pub cards_behind : Option (ℕ × List ℕ) → List (ℕ × List ℕ) → List NumberedCard
cards_behind None lines = []
cards_behind (Some first) lines = continued_card first.0 (words first.1) lines

-- the cards that a reader has not read yet
abbrev pub cards_left : Reader → List NumberedCard
cards_left reader = cards_behind reader.held (card_lines_left reader.left)

-- how many bytes are left, and one more for a held line
abbrev pub size_with : Option (ℕ × List ℕ) → ℕ → ℕ
size_with None bytes = bytes
size_with (Some first) bytes = bytes + 1

abbrev pub size_left : Reader → ℕ
size_left reader = size_with reader.held (length reader.left.rest)

-- the phases of the whole text, and the number of the line at which it ends, seen from two standings of a reader, are the same
pub record IsSameText (before after : Reader) : Type 0 where
  pub same_phases : before.phases ++ phases_from (deck_lines before.left.rest) ≡ after.phases ++ phases_from (deck_lines after.left.rest)
  pub same_end : end_from before.left.number (deck_lines before.left.rest) ≡ end_from after.left.number (deck_lines after.left.rest)

-- from one standing to the next a card was read, and the phases among its lines
pub record ReadsCard (before : Reader) (card : NumberedCard) (after : Reader) : Type 0 where
  pub cards_are : cards_left before ≡ card ∷ cards_left after
  pub text : IsSameText before after
  pub last : IsNone after.held → after.left.rest ≡ []
  pub shorter : size_left after < size_left before

-- a card was read, or no line is held that begins one
abbrev pub IsNextRead : Bool → Reader → NumberedCard → Reader → Type 0
IsNextRead true before card after = ReadsCard before card after
IsNextRead false before card after = (before.held ≡ None) × (after ≡ before)

-- the first of some lines of cards, if there is one, continues no card
abbrev pub BeginsNumbered : List (ℕ × List ℕ) → Type 0
BeginsNumbered [] = Unit {0}
BeginsNumbered (p ∷ more) = continues p.1 ≡ false

-- the first of some lines of cards has this number, and continues a card
abbrev pub IsStrayAt : List (ℕ × List ℕ) → ℕ → Type 0
IsStrayAt [] number = ⊥
IsStrayAt (p ∷ more) number = (p.0 ≡ number) × (continues p.1 ≡ true)

-- a reader stands before the first card of a text, which begins with no line that continues a card
pub record IsAtFirstCard (text : List ℕ) (reader : Reader) : Type 0 where
  pub begins : BeginsNumbered (numbered_lines text)
  pub cards_are : numbered_cards text ≡ cards_left reader
  pub phases_are : deck_phases text ≡ reader.phases ++ phases_from (deck_lines reader.left.rest)
  pub end_is : end_line text ≡ end_from reader.left.number (deck_lines reader.left.rest)
  pub last : IsNone reader.held → reader.left.rest ≡ []

-- a line whose first byte is `.`
abbrev pub begins_dotted : List ℕ → Bool
begins_dotted [] = false
begins_dotted (b ∷ bs) = b == 46

-- a byte that is no letter, digit or sign: each byte that parts words is one, and each control byte
abbrev pub is_unplain : ℕ → Bool
is_unplain b = nat_lt b 33 || nat_lt 126 b

-- whether a sign is `+`, where it is `+` or `-`
abbrev pub sign_given : List ℕ → Option Bool
sign_given sign = if pointwise nat_eq sign (codes "+") then Some true else (if pointwise nat_eq sign (codes "-") then Some false else None)

-- the words before the sign of a phase
abbrev pub begins_phase : List ℕ → List ℕ → List ℕ → Bool
begins_phase star word name = pointwise nat_eq star (codes "*") && pointwise nat_eq word (codes "phase") && not (list_any is_control name)
