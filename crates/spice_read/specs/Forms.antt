-- What a card of a deck is, by its words alone: the forms of cards, and the faults that no other card matters for.
use Rattle.std.specs.Prelude.{ℕ, Bool, ◌||◌, ◌&&◌, not, nat_lt, if◌then◌else◌, List, length, Option, Some, None, Result, Ok, Err}
use Rattle.std.specs.List.{list_any}
use Rattle.dom_base.specs.Lines.{is_control}
use Rattle.dom_base.specs.declared.kind.Kind.{Kind}
use Rattle.deck.specs.declared.fault.DeckKind.{DeckKind}
use Rattle.deck.specs.declared.fault.DeckKind.TheVariants.{ControlByte, UnknownCard, BadCard, UnknownDevice}
use Rattle.deck.specs.DeckCards.{NumberedCard, has_first_word, dot_subckt, dot_ends, dot_end, dot_model, is_call, is_device, has_equals, is_model_word, word_at, kind_of}
use Rattle.spice_read.specs.declared.cards.Form.{Form}
use Rattle.spice_read.specs.declared.cards.Form.TheVariants.{Device, Call, Subckt, Ends, Skipped}

-- the kind of device of a word, where it is one of the words for kinds
abbrev pub known_kind : List ℕ → Option Kind
known_kind word = if is_model_word word then Some (kind_of word) else None

-- a card with a name behind its first word and no word with `=`
abbrev pub is_named_card : NumberedCard → Bool
is_named_card card = nat_lt 1 (length card.words) && not (list_any has_equals card.words)

-- the form of such a card, or its fault
abbrev pub named_form : Form → NumberedCard → Result Form DeckKind
named_form form card = if is_named_card card then Ok form else Err BadCard

-- a card whose first letter is `m`: a device, or its fault
abbrev pub device_form : NumberedCard → Result Form DeckKind
device_form card =
    if nat_lt 5 (length card.words)
    then (if is_model_word (word_at card 5) then Ok (Device (kind_of (word_at card 5))) else Err UnknownDevice)
    else Err BadCard

-- what a card is, or the smallest of the faults that it has whatever stands before it
abbrev pub card_form : NumberedCard → Result Form DeckKind
card_form card =
    if list_any (list_any is_control) card.words then Err ControlByte
    else (if is_device card then device_form card
    else (if is_call card then named_form Call card
    else (if has_first_word dot_subckt card then named_form Subckt card
    else (if has_first_word dot_ends card then (if nat_lt (length card.words) 3 then Ok Ends else Err BadCard)
    else (if has_first_word dot_end card || has_first_word dot_model card then Ok Skipped
    else Err UnknownCard)))))
