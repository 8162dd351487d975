-- The cards of a deck, each with the number of its first line (SPICE subcircuits, M and X cards).
use Rattle.std.specs.Prelude.{ℕ, Bool, true, false, ◌-◌, ◌==◌, ◌||◌, ◌&&◌, not, nat_eq, nat_lt, if◌then◌else◌, List, [], ◌∷◌, ◌++◌, map, filter, length, take, drop, slice_index, slice_index_or, Option, Some, None, codes}
use Rattle.std.specs.List.{list_any, find, enumerate_from}
use Rattle.std.specs.Set.{distinct_count}
use Rattle.std.specs.Cmp.Lexicographic.{pointwise}
use Rattle.dom_base.specs.Lines.{words, first_word}
use Rattle.dom_base.specs.declared.kind.Kind.{Kind}
use Rattle.dom_base.specs.declared.kind.Kind.TheVariants.{N as nch, P as pch, Keep}
use Rattle.deck.specs.DeckText.{deck_lines, is_of_card, continues, added_words}
use Rattle.deck.specs.NamedDevices.{NamedDevice}
use Rattle.deck.specs.Subckts.{Call}

-- a card of a deck: the number of its first line, from 1, and its words
pub record NumberedCard : Type 0 where
  pub number : ℕ
  pub words : List (List ℕ)

-- some lines of cards, each with its number, where the first of all the lines has this number
abbrev pub numbered_lines_from : ℕ → List (List ℕ) → List (ℕ × List ℕ)
numbered_lines_from number all = filter (λ p. is_of_card p.1) (enumerate_from number all)

-- the lines of a deck's cards, each with its number
abbrev pub numbered_lines : List ℕ → List (ℕ × List ℕ)
numbered_lines text = numbered_lines_from 1 (deck_lines text)

-- the cards of these lines, each with the number of its first line
abbrev pub numbered_cards_of : List (ℕ × List ℕ) → List NumberedCard
numbered_cards_of [] = []
numbered_cards_of (p ∷ more) =
    if continues p.1 then numbered_cards_of more
    else record { number = p.0; words = words p.1 ++ added_words (map (λ q. q.1) more) } ∷ numbered_cards_of more

-- the cards of a deck, up to `.end`, with it
abbrev pub numbered_cards : List ℕ → List NumberedCard
numbered_cards text = numbered_cards_of (numbered_lines text)

-- the cards, each as its first word
abbrev pub dot_subckt : List ℕ
dot_subckt = codes ".subckt"

abbrev pub dot_ends : List ℕ
dot_ends = codes ".ends"

abbrev pub dot_end : List ℕ
dot_end = codes ".end"

abbrev pub dot_model : List ℕ
dot_model = codes ".model"

-- a card that begins with this word
abbrev pub has_first_word : List ℕ → NumberedCard → Bool
has_first_word word card = pointwise nat_eq (first_word card.words) word

-- the card of a device: its first letter is `m`
abbrev pub is_device : NumberedCard → Bool
is_device card = slice_index (first_word card.words) 0 == 109

-- a card that is known, and is no call
abbrev pub is_deck_card : NumberedCard → Bool
is_deck_card card =
    is_device card || has_first_word dot_subckt card || has_first_word dot_ends card || has_first_word dot_end card
    || has_first_word dot_model card

-- a word with the byte `=`
abbrev pub has_equals : List ℕ → Bool
has_equals word = list_any (λ b. b == 61) word

-- such a card in its form: a device has at least six words, `.subckt` has a name and no word with `=`,
-- `.ends` has at most one word behind it, and `.end` and `.model` have any words
abbrev pub is_deck_form : NumberedCard → Bool
is_deck_form card =
    if is_device card then nat_lt 5 (length card.words)
    else (if has_first_word dot_subckt card then nat_lt 1 (length card.words) && not (list_any has_equals card.words)
    else (if has_first_word dot_ends card then nat_lt (length card.words) 3
    else true))

-- the word of this index of a card, from 0, or no bytes where there is none
abbrev pub word_at : NumberedCard → ℕ → List ℕ
word_at card index = slice_index_or card.words index []

-- a word for a kind of device
abbrev pub is_model_word : List ℕ → Bool
is_model_word word = pointwise nat_eq word (codes "nch") || pointwise nat_eq word (codes "pch") || pointwise nat_eq word (codes "pkeep")

-- the kind of device of one of the words for kinds
abbrev pub kind_of : List ℕ → Kind
kind_of word = if pointwise nat_eq word (codes "nch") then nch else (if pointwise nat_eq word (codes "pch") then pch else Keep)

-- the device of a card
abbrev pub device_of_card : NumberedCard → NamedDevice (List ℕ)
device_of_card card = record { kind = kind_of (word_at card 5); drain = word_at card 1; gate = word_at card 2; source = word_at card 3 }

-- the ports that a card `.subckt` names, behind the name of the subcircuit
abbrev pub port_names : NumberedCard → List (List ℕ)
port_names card = drop 2 card.words

-- it names fewer different ports than it names ports: one of them twice
abbrev pub names_twice : NumberedCard → Bool
names_twice card = nat_lt (distinct_count (pointwise nat_eq) (port_names card)) (length (port_names card))

-- the card of a call: its first letter is `x`
abbrev pub is_call : NumberedCard → Bool
is_call card = slice_index (first_word card.words) 0 == 120

-- a card that is known
abbrev pub is_known_card : NumberedCard → Bool
is_known_card card = is_call card || is_deck_card card

-- a known card in its form: a call has at least two words, and none with `=`
abbrev pub is_known_form : NumberedCard → Bool
is_known_form card = if is_call card then nat_lt 1 (length card.words) && not (list_any has_equals card.words) else is_deck_form card

-- the nets that a call passes: the words between the first and the last
abbrev pub passed_nets : NumberedCard → List (List ℕ)
passed_nets card = take (length card.words - 2) (drop 1 card.words)

-- the subcircuit that a call names: the last word
abbrev pub unit_word : NumberedCard → List ℕ
unit_word card = word_at card (length card.words - 1)

abbrev pub call_of_card : NumberedCard → Call
call_of_card card = record { name = first_word card.words; nets = passed_nets card; unit = unit_word card }

-- What stands before a card is given as the cards before it, the nearest first.

-- the first of some cards, if there is one, begins with this word
abbrev pub begins_some : List ℕ → Option NumberedCard → Bool
begins_some word None = false
begins_some word (Some card) = has_first_word word card

-- a subcircuit is open: the nearest `.subckt` or `.ends` before is a `.subckt`
abbrev pub is_open : List NumberedCard → Bool
is_open before = begins_some dot_subckt (find (λ card. has_first_word dot_subckt card || has_first_word dot_ends card) before)

-- a `.subckt` stands before
abbrev pub has_subckt : List NumberedCard → Bool
has_subckt before = list_any (has_first_word dot_subckt) before
