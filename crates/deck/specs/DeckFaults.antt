-- Why the text of a deck is refused: the faults of its cards and of its end.
use Rattle.std.specs.Prelude.{ℕ, ◌≡◌, ◌+◌, ◌-◌, ◌⊎◌, Bool, true, false, ◌==◌, ◌||◌, ◌&&◌, not, nat_lt, if◌then◌else◌, List, [], ◌∷◌, ◌++◌, length, reverse, slice_index_or, is_none, Option, Some, None}
use Rattle.std.specs.List.{list_any}
use Rattle.dom_base.specs.Answers.{IsFirstFault}
use Rattle.dom_base.specs.Lines.{is_control}
use Rattle.deck.specs.declared.fault.DeckKind.{DeckKind}
use Rattle.deck.specs.declared.fault.DeckKind.TheVariants.{ControlByte, UnknownCard, BadCard, UnknownDevice, NoSubckt, SecondSubckt, NotClosed, DuplicatePort, TooMany, UnknownSubckt, WrongCount}
use Rattle.deck.specs.DeckKinds.{deck_kind_number}
use Rattle.deck.specs.DeckText.{deck_lines, is_end, continues}
use Rattle.deck.specs.DeckCards.{NumberedCard, numbered_lines, numbered_cards_of, numbered_cards, has_first_word, dot_subckt, dot_ends, is_call, is_device, is_known_card, is_known_form, is_model_word, port_names, names_twice, is_open, has_subckt, unit_word, word_at}
use Rattle.deck.specs.Limits.{most_depth, most_devices, most_ports}
use Rattle.deck.specs.SubcktCards.{open_subckt, closed_subckts, is_named_before}
use Rattle.deck.specs.Subckts.{Size, size_named, size, sizes, devices_in, depth_over}

-- the size of the subcircuit that a call names, if it was closed before
abbrev pub called_size : List NumberedCard → NumberedCard → Option Size
called_size before card = size_named (unit_word card) (sizes (closed_subckts before))

-- how many devices the open subcircuit stands for so far
abbrev pub open_count : List NumberedCard → ℕ
open_count before = (size (sizes (closed_subckts before)) (open_subckt before)).devices

-- another number of ports than nets are passed
abbrev pub has_wrong_count : Option Size → NumberedCard → Bool
has_wrong_count None card = false
has_wrong_count (Some s) card = not (s.ports == length card.words - 2)

-- a card has a fault of this kind, where the cards before it, the nearest first, are these
abbrev pub has_deck_fault : DeckKind → List NumberedCard → NumberedCard → Bool
-- blanks and tabs are no control bytes, so each control byte of a card stands in a word
has_deck_fault ControlByte before card = list_any (list_any is_control) card.words
has_deck_fault UnknownCard before card = not (is_known_card card)
has_deck_fault BadCard before card = is_known_card card && not (is_known_form card)
has_deck_fault UnknownDevice before card =
    is_device card && nat_lt 5 (length card.words) && not (is_model_word (slice_index_or card.words 5 []))
has_deck_fault NoSubckt before card = (is_device card || is_call card || has_first_word dot_ends card) && not (is_open before)
has_deck_fault SecondSubckt before card =
    has_first_word dot_subckt card && (is_open before || is_named_before (word_at card 1) before)
has_deck_fault NotClosed before card = false
has_deck_fault DuplicatePort before card = has_first_word dot_subckt card && names_twice card
has_deck_fault TooMany before card =
    (is_device card && nat_lt most_devices (open_count before + 1))
    || (is_call card
    && (nat_lt most_devices (open_count before + devices_in (called_size before card))
    || nat_lt most_depth (depth_over (called_size before card))))
    || (has_first_word dot_subckt card && nat_lt most_ports (length (port_names card)))
has_deck_fault UnknownSubckt before card = is_call card && is_none (called_size before card)
has_deck_fault WrongCount before card = is_call card && has_wrong_count (called_size before card) card

-- a deck ends with a fault of this kind, where its cards, the last first, are these
abbrev pub has_end_fault : DeckKind → List NumberedCard → Bool
has_end_fault NoSubckt all = not (has_subckt all)
has_end_fault NotClosed all = is_open all
has_end_fault _ all = false

-- the line at which a deck ends: that of `.end`, which is the last one read, or the one behind the last line
abbrev pub end_line : List ℕ → ℕ
end_line text = if list_any is_end (deck_lines text) then length (deck_lines text) else length (deck_lines text) + 1

-- A table of faults of decks, by kinds that have numbers: of two faults of a line the one with the smaller number is reported.
pub record FaultTable (Kind : Type 0) : Type 0 where
  pub number_of : Kind → ℕ
  -- a card has a fault of this kind, where the cards before it, the nearest first, are these
  pub of_card : Kind → List NumberedCard → NumberedCard → Bool
  -- a deck ends with a fault of this kind, where its cards, the last first, are these
  pub of_end : Kind → List NumberedCard → Bool
  -- the kind of a line with `+` that no card stands before
  pub of_stray : Kind

module _ {Kind : Type 0} (table : FaultTable Kind) where
  -- the card of this number has a fault of this kind; its context is what the cards before it say
  pub record IsFaultOfCard (text : List ℕ) (number : ℕ) (kind : Kind) : Type 0 where
    -- the cards before it, the nearest first
    pub before : List NumberedCard
    pub card : NumberedCard
    pub after : List NumberedCard
    pub cards_are : numbered_cards text ≡ reverse before ++ card ∷ after
    pub number_is : card.number ≡ number
    pub fault : table.of_card kind before card ≡ true

  -- the line of this number begins with `+` and no card stands before it
  pub record IsStrayLine (text : List ℕ) (number : ℕ) (kind : Kind) : Type 0 where
    pub before : List (ℕ × List ℕ)
    pub line : List ℕ
    pub after : List (ℕ × List ℕ)
    pub lines_are : numbered_lines text ≡ before ++ (number, line) ∷ after
    pub line_continues : continues line ≡ true
    pub no_card : numbered_cards_of before ≡ []
    pub kind_is : kind ≡ table.of_stray

  -- the deck ends at the line of this number with a fault of this kind
  pub record IsFaultOfEnd (text : List ℕ) (number : ℕ) (kind : Kind) : Type 0 where
    pub number_is : number ≡ end_line text
    pub fault : table.of_end kind (reverse (numbered_cards text)) ≡ true

  -- the text has a fault of this kind at the line of this number
  abbrev pub IsFaultBy : List ℕ → ℕ → Kind → Type 0
  IsFaultBy text number kind = IsFaultOfCard text number kind ⊎ IsStrayLine text number kind ⊎ IsFaultOfEnd text number kind

  -- the text is refused at this line for this kind: the first line with a fault, and the smallest kind of it there
  abbrev pub IsFaultAtBy : List ℕ → ℕ → Kind → Type 0
  IsFaultAtBy text number kind = IsFirstFault table.number_of (IsFaultBy text) number kind

-- the faults of a deck
abbrev pub deck_faults : FaultTable DeckKind
deck_faults = record { number_of = deck_kind_number; of_card = has_deck_fault; of_end = has_end_fault; of_stray = BadCard }

-- the text has a fault of this kind at the line of this number
abbrev pub IsDeckFault : List ℕ → ℕ → DeckKind → Type 0
IsDeckFault = IsFaultBy deck_faults

-- the text is refused at this line for this kind
abbrev pub IsDeckFaultAt : List ℕ → ℕ → DeckKind → Type 0
IsDeckFaultAt = IsFaultAtBy deck_faults
