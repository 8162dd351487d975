-- Numbered lines and cards, and the lines and cards that they number.
use Rattle.std.proofs.Common.{◌≡◌, ℕ, ◌+◌, Bool, true, false, cond, if◌then◌else◌, List, [], ◌∷◌, ◌++◌, map, filter, drop, refl, sym, ap, ◌∙◌, subst}
use Rattle.std.specs.List.{AllByRecursion}
use Rattle.dom_base.specs.Lines.{lines, unindented, words, IsLower, IsLowerWord}
use Rattle.dom_base.proofs.Lists.{AllByRecursion-append}
use Rattle.dom_base.proofs.WordBytes.{lower_bytes, lower_words, lower-drop}
use Rattle.deck.specs.DeckText.{BeginsACard, added_words, deck_card_lines, cards_of, continues, deck_cards, deck_lines, is_end, is_of_card, read_line, through_end}
use Rattle.deck.specs.DeckCards.{numbered_cards, numbered_cards_of, numbered_lines, numbered_lines_from}
use Rattle.spice_read.specs.Readers.{BeginsNumbered}
use Rattle.spice_read.specs.ReadSubckts.{IsWordedCard}

pub numbered-lines : (n : ℕ) (all : List (List ℕ)) → map (λ p. p.1) (numbered_lines_from n all) ≡ filter is_of_card all
numbered-lines n [] = refl
numbered-lines n (line ∷ all) = by (is_of_card line) (numbered-lines (n + 1) all)
  where
    by : (t : Bool) → map (λ p. p.1) (numbered_lines_from (n + 1) all) ≡ filter is_of_card all
        → map (λ p. p.1) (cond t ((n, line) ∷ numbered_lines_from (n + 1) all) (numbered_lines_from (n + 1) all)) ≡ cond t (line ∷ filter is_of_card all) (filter is_of_card all)
    by true rest = ap (λ l. line ∷ l) rest
    by false rest = rest

cards-words : (ps : List (ℕ × List ℕ)) → map (λ card. card.words) (numbered_cards_of ps) ≡ cards_of (map (λ p. p.1) ps)
cards-words [] = refl
cards-words (p ∷ ps) = by (continues p.1) (cards-words ps)
  where
    added : List (List ℕ)
    added = words p.1 ++ added_words (map (λ q. q.1) ps)

    by : (t : Bool) → map (λ card. card.words) (numbered_cards_of ps) ≡ cards_of (map (λ q. q.1) ps)
        → map (λ card. card.words) (if t then numbered_cards_of ps else record { number = p.0; words = added } ∷ numbered_cards_of ps) ≡ (if t then cards_of (map (λ q. q.1) ps) else added ∷ cards_of (map (λ q. q.1) ps))
    by true rest = rest
    by false rest = ap (λ l. added ∷ l) rest

-- the words of the numbered cards are the cards
pub deck_cards-numbered : (text : List ℕ) → map (λ card. card.words) (numbered_cards text) ≡ deck_cards text
deck_cards-numbered text = cards-words (numbered_lines text) ∙ ap cards_of (numbered-lines 1 (deck_lines text))

begins-lines : (ps : List (ℕ × List ℕ)) → BeginsNumbered ps → BeginsACard (map (λ p. p.1) ps)
begins-lines [] h = tt
begins-lines (p ∷ ps) h = h

lines-begin : (ps : List (ℕ × List ℕ)) → BeginsACard (map (λ p. p.1) ps) → BeginsNumbered ps
lines-begin [] h = tt
lines-begin (p ∷ ps) h = h

pub begins_a_card : (text : List ℕ) → BeginsNumbered (numbered_lines text) → BeginsACard (deck_card_lines text)
begins_a_card text h = subst BeginsACard (numbered-lines 1 (deck_lines text)) (begins-lines (numbered_lines text) h)

pub begins_numbered : (text : List ℕ) → BeginsACard (deck_card_lines text) → BeginsNumbered (numbered_lines text)
begins_numbered text h = lines-begin (numbered_lines text) (subst BeginsACard (sym (numbered-lines 1 (deck_lines text))) h)

-- the words of a deck's cards have no upper-case letters

LowerLine : ℕ × List ℕ → Type 0
LowerLine p = AllByRecursion IsLower p.1

lower-lines : (n : ℕ) (all : List (List ℕ)) → AllByRecursion LowerLine (numbered_lines_from n (through_end (map read_line all)))
unfolding LowerLine
lower-lines n [] = tt
lower-lines n (line ∷ all) = by (is_of_card (read_line line)) (is_end (read_line line)) (lower-lines (n + 1) all)
  where
    by : (s t : Bool) → AllByRecursion LowerLine (numbered_lines_from (n + 1) (through_end (map read_line all)))
        → AllByRecursion LowerLine (cond s ((n, read_line line) ∷ numbered_lines_from (n + 1) (if t then [] else through_end (map read_line all))) (numbered_lines_from (n + 1) (if t then [] else through_end (map read_line all))))
    by true true rest = (lower_bytes (unindented line), tt)
    by true false rest = (lower_bytes (unindented line), rest)
    by false true rest = tt
    by false false rest = rest

lower-added : (ps : List (ℕ × List ℕ)) → AllByRecursion LowerLine ps → AllByRecursion IsLowerWord (added_words (map (λ q. q.1) ps))
unfolding LowerLine
lower-added [] h = tt
lower-added (p ∷ ps) h = by (continues p.1) (lower-added ps h.1)
  where
    by : (t : Bool) → AllByRecursion IsLowerWord (added_words (map (λ q. q.1) ps)) → AllByRecursion IsLowerWord (if t then words (drop 1 p.1) ++ added_words (map (λ q. q.1) ps) else [])
    by true rest = AllByRecursion-append IsLowerWord (words (drop 1 p.1)) (added_words (map (λ q. q.1) ps)) (lower_words (drop 1 p.1) (lower-drop p.1 h.0)) rest
    by false rest = tt

lower-cards : (ps : List (ℕ × List ℕ)) → AllByRecursion LowerLine ps → AllByRecursion IsWordedCard (numbered_cards_of ps)
unfolding LowerLine
lower-cards [] h = tt
lower-cards (p ∷ ps) h = by (continues p.1) (lower-cards ps h.1)
  where
    by : (t : Bool) → AllByRecursion IsWordedCard (numbered_cards_of ps)
        → AllByRecursion IsWordedCard (if t then numbered_cards_of ps else record { number = p.0; words = words p.1 ++ added_words (map (λ q. q.1) ps) } ∷ numbered_cards_of ps)
    by true rest = rest
    by false rest = (AllByRecursion-append IsLowerWord (words p.1) (added_words (map (λ q. q.1) ps)) (lower_words p.1 h.0) (lower-added ps h.1), rest)

pub cards_are_lower : (text : List ℕ) → AllByRecursion IsWordedCard (numbered_cards text)
cards_are_lower text = lower-cards (numbered_lines text) (lower-lines 1 (lines text))
