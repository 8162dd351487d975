-- Numbers and words of the kinds of faults of a deck.
use Rattle.std.specs.Prelude.{ℕ, List, codes}
use Rattle.deck.specs.declared.fault.DeckKind.{DeckKind}
use Rattle.deck.specs.declared.fault.DeckKind.TheVariants.{ControlByte, UnknownCard, BadCard, UnknownDevice, NoSubckt, SecondSubckt, NotClosed, DuplicatePort, TooMany, UnknownSubckt, WrongCount}

-- the number of a kind: of two faults of a line the one with the smaller number is reported
abbrev pub deck_kind_number : DeckKind → ℕ
deck_kind_number ControlByte = 1
deck_kind_number UnknownCard = 2
deck_kind_number BadCard = 3
deck_kind_number UnknownDevice = 4
deck_kind_number NoSubckt = 5
deck_kind_number SecondSubckt = 6
deck_kind_number NotClosed = 7
deck_kind_number DuplicatePort = 8
deck_kind_number TooMany = 9
deck_kind_number UnknownSubckt = 10
deck_kind_number WrongCount = 11

-- the word for a kind, as it is printed
abbrev pub deck_kind_word : DeckKind → List ℕ
deck_kind_word ControlByte = codes "ControlByte"
deck_kind_word UnknownCard = codes "UnknownCard"
deck_kind_word BadCard = codes "BadCard"
deck_kind_word UnknownDevice = codes "UnknownDevice"
deck_kind_word NoSubckt = codes "NoSubckt"
deck_kind_word SecondSubckt = codes "SecondSubckt"
deck_kind_word NotClosed = codes "NotClosed"
deck_kind_word DuplicatePort = codes "DuplicatePort"
deck_kind_word TooMany = codes "TooMany"
deck_kind_word UnknownSubckt = codes "UnknownSubckt"
deck_kind_word WrongCount = codes "WrongCount"
