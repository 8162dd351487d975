-- What the cards before a card of a deck say: the subcircuits that are closed above it, and the open one.
use Rattle.std.specs.Prelude.{ℕ, Bool, ◌&&◌, nat_eq, if◌then◌else◌, List, [], ◌∷◌, ◌++◌, Option, Some, None}
use Rattle.std.specs.List.{list_any, find}
use Rattle.std.specs.Cmp.Lexicographic.{pointwise}
use Rattle.deck.specs.DeckCards.{NumberedCard, has_first_word, dot_subckt, dot_ends, is_call, is_device, call_of_card, port_names, word_at, device_of_card}
use Rattle.deck.specs.Subckts.{SubcktPart, Single, Called, Subckt}

-- the part that a card adds, if it adds one
abbrev pub card_parts : NumberedCard → List SubcktPart
card_parts card =
    if is_device card then Single (device_of_card card) ∷ []
    else (if is_call card then Called (call_of_card card) ∷ [] else [])

-- What stands before a card is given as the cards before it, the nearest first.

-- the parts since the nearest `.subckt`
abbrev pub open_parts : List NumberedCard → List SubcktPart
open_parts [] = []
open_parts (card ∷ before) = if has_first_word dot_subckt card then [] else open_parts before ++ card_parts card

-- the subcircuit that this card opened, with these parts
abbrev pub opened_subckt : Option NumberedCard → List SubcktPart → Subckt
opened_subckt None parts = record { name = []; ports = []; parts = parts }
opened_subckt (Some card) parts = record { name = word_at card 1; ports = port_names card; parts = parts }

-- the subcircuit that the nearest `.subckt` opened, as far as it is read
abbrev pub open_subckt : List NumberedCard → Subckt
open_subckt before = opened_subckt (find (has_first_word dot_subckt) before) (open_parts before)

-- the subcircuits that were closed, the nearest first
abbrev pub closed_subckts : List NumberedCard → List Subckt
closed_subckts [] = []
closed_subckts (card ∷ before) = if has_first_word dot_ends card then open_subckt before ∷ closed_subckts before else closed_subckts before

-- a `.subckt` of this name stands before
abbrev pub is_named_before : List ℕ → List NumberedCard → Bool
is_named_before name before = list_any (λ card. has_first_word dot_subckt card && pointwise nat_eq (word_at card 1) name) before
