-- Cards without a fault, by what they are and what stands before them.
use Rattle.std.proofs.Common.{◌≡◌, ◌+◌, ◌-◌, Bool, true, false, ◌==◌, ◌||◌, List, [], length, nat_lt, slice_index_or, Some, refl, sym}
use Rattle.std.specs.List.{list_any}
use Rattle.std.proofs.lemmas.Bool.{true≢false}
use Rattle.dom_base.specs.Lines.{is_control}
use Rattle.deck.specs.DeckCards.{NumberedCard, has_first_word, dot_subckt, dot_ends, dot_end, dot_model, is_device, is_model_word, has_equals, port_names, names_twice, is_open, word_at, is_call}
use Rattle.deck.specs.Limits.{most_devices, most_ports, most_depth}
use Rattle.deck.specs.declared.fault.DeckKind.TheVariants.{ControlByte, UnknownCard, BadCard, UnknownDevice, NoSubckt, SecondSubckt, NotClosed, DuplicatePort, TooMany, UnknownSubckt, WrongCount}
use Rattle.deck.specs.Subckts.{Size}
use Rattle.deck.specs.SubcktCards.{is_named_before}
use Rattle.deck.specs.declared.fault.DeckKind.{DeckKind}
use Rattle.deck.specs.DeckFaults.{has_deck_fault, called_size, open_count}

-- a test that fails doesn't hold
pub unmet : {P : Type 0} → false ≡ true → P
unmet e = absurd (true≢false (sym e))

-- the card has no fault, where the cards before it, the nearest first, are these
abbrev pub IsClean : List NumberedCard → NumberedCard → Type 0
IsClean before card = (kind : DeckKind) → has_deck_fault kind before card ≡ false

-- no control byte stands in the card
abbrev pub HasNoControl : NumberedCard → Type 0
HasNoControl card = list_any (list_any is_control) card.words ≡ false

-- whether a card is a device, a call, `.subckt` or `.ends`
pub record IsOf (card : NumberedCard) (device call opening ending : Bool) : Type 0 where
  pub device_is : is_device card ≡ device
  pub call_is : is_call card ≡ call
  pub opening_is : has_first_word dot_subckt card ≡ opening
  pub ending_is : has_first_word dot_ends card ≡ ending

pub skipped_clean : (before : List NumberedCard) (card : NumberedCard) → IsOf card false false false false → HasNoControl card
    → (has_first_word dot_end card || has_first_word dot_model card) ≡ true → IsClean before card
skipped_clean before card o v h ControlByte = v
skipped_clean before card o v h UnknownCard = rw (o.call_is, o.device_is, o.opening_is, o.ending_is, h) refl
skipped_clean before card o v h BadCard = rw (o.call_is, o.device_is, o.opening_is, o.ending_is, h) refl
skipped_clean before card o v h UnknownDevice = rw o.device_is refl
skipped_clean before card o v h NoSubckt = rw (o.call_is, o.device_is, o.ending_is) refl
skipped_clean before card o v h SecondSubckt = rw o.opening_is refl
skipped_clean before card o v h NotClosed = refl
skipped_clean before card o v h DuplicatePort = rw o.opening_is refl
skipped_clean before card o v h TooMany = rw (o.call_is, o.device_is, o.opening_is) refl
skipped_clean before card o v h UnknownSubckt = rw o.call_is refl
skipped_clean before card o v h WrongCount = rw o.call_is refl

-- a `.subckt` in its form, with good ports, where none is open and none has its name
pub record IsGoodOpening (before : List NumberedCard) (card : NumberedCard) : Type 0 where
  pub long : nat_lt 1 (length card.words) ≡ true
  pub no_equals : list_any has_equals card.words ≡ false
  pub closed : is_open before ≡ false
  pub new_name : is_named_before (word_at card 1) before ≡ false
  pub once : names_twice card ≡ false
  pub few : nat_lt most_ports (length (port_names card)) ≡ false

pub opening_clean : (before : List NumberedCard) (card : NumberedCard) → IsOf card false false true false → HasNoControl card → IsGoodOpening before card → IsClean before card
opening_clean before card o v g ControlByte = v
opening_clean before card o v g UnknownCard = rw (o.call_is, o.device_is, o.opening_is) refl
opening_clean before card o v g BadCard = rw (o.call_is, o.device_is, o.opening_is, g.long, g.no_equals) refl
opening_clean before card o v g UnknownDevice = rw o.device_is refl
opening_clean before card o v g NoSubckt = rw (o.call_is, o.device_is, o.ending_is) refl
opening_clean before card o v g SecondSubckt = rw (o.opening_is, g.closed, g.new_name) refl
opening_clean before card o v g NotClosed = refl
opening_clean before card o v g DuplicatePort = rw (o.opening_is, g.once) refl
opening_clean before card o v g TooMany = rw (o.call_is, o.device_is, o.opening_is, g.few) refl
opening_clean before card o v g UnknownSubckt = rw o.call_is refl
opening_clean before card o v g WrongCount = rw o.call_is refl

-- a device in its form, for which there is room in the open subcircuit
pub record IsGoodDevice (before : List NumberedCard) (card : NumberedCard) : Type 0 where
  pub long : nat_lt 5 (length card.words) ≡ true
  pub known : is_model_word (slice_index_or card.words 5 []) ≡ true
  pub opened : is_open before ≡ true
  pub room : nat_lt most_devices (open_count before + 1) ≡ false

pub device_clean : (before : List NumberedCard) (card : NumberedCard) → IsOf card true false false false → HasNoControl card → IsGoodDevice before card → IsClean before card
device_clean before card o v g ControlByte = v
device_clean before card o v g UnknownCard = rw (o.call_is, o.device_is) refl
device_clean before card o v g BadCard = rw (o.call_is, o.device_is, g.long) refl
device_clean before card o v g UnknownDevice = rw (o.device_is, g.long, g.known) refl
device_clean before card o v g NoSubckt = rw (o.device_is, g.opened) refl
device_clean before card o v g SecondSubckt = rw o.opening_is refl
device_clean before card o v g NotClosed = refl
device_clean before card o v g DuplicatePort = rw o.opening_is refl
device_clean before card o v g TooMany = rw (o.call_is, o.device_is, o.opening_is, g.room) refl
device_clean before card o v g UnknownSubckt = rw o.call_is refl
device_clean before card o v g WrongCount = rw o.call_is refl

-- a call in its form of a subcircuit that was closed, with as many nets as ports, for which there is room
pub record IsGoodCall (before : List NumberedCard) (card : NumberedCard) : Type 0 where
  pub long : nat_lt 1 (length card.words) ≡ true
  pub no_equals : list_any has_equals card.words ≡ false
  pub opened : is_open before ≡ true
  pub called : Size
  pub called_is : called_size before card ≡ Some called
  pub room : nat_lt most_devices (open_count before + called.devices) ≡ false
  pub shallow : nat_lt most_depth (1 + called.depth) ≡ false
  pub count : (called.ports == length card.words - 2) ≡ true

pub call_clean : (before : List NumberedCard) (card : NumberedCard) → IsOf card false true false false → HasNoControl card → IsGoodCall before card → IsClean before card
call_clean before card o v g ControlByte = v
call_clean before card o v g UnknownCard = rw o.call_is refl
call_clean before card o v g BadCard = rw (o.call_is, g.long, g.no_equals) refl
call_clean before card o v g UnknownDevice = rw o.device_is refl
call_clean before card o v g NoSubckt = rw (o.device_is, o.call_is, g.opened) refl
call_clean before card o v g SecondSubckt = rw o.opening_is refl
call_clean before card o v g NotClosed = refl
call_clean before card o v g DuplicatePort = rw o.opening_is refl
call_clean before card o v g TooMany = rw (o.device_is, o.call_is, o.opening_is, g.called_is, g.room, g.shallow) refl
call_clean before card o v g UnknownSubckt = rw (o.call_is, g.called_is) refl
call_clean before card o v g WrongCount = rw (o.call_is, g.called_is, g.count) refl

-- `.ends` in its form, where a subcircuit is open
pub ending_clean : (before : List NumberedCard) (card : NumberedCard) → IsOf card false false false true → HasNoControl card → nat_lt (length card.words) 3 ≡ true → is_open before ≡ true → IsClean before card
ending_clean before card o v short opened ControlByte = v
ending_clean before card o v short opened UnknownCard = rw (o.call_is, o.device_is, o.opening_is, o.ending_is) refl
ending_clean before card o v short opened BadCard = rw (o.call_is, o.device_is, o.opening_is, o.ending_is, short) refl
ending_clean before card o v short opened UnknownDevice = rw o.device_is refl
ending_clean before card o v short opened NoSubckt = rw (o.device_is, o.call_is, o.ending_is, opened) refl
ending_clean before card o v short opened SecondSubckt = rw o.opening_is refl
ending_clean before card o v short opened NotClosed = refl
ending_clean before card o v short opened DuplicatePort = rw o.opening_is refl
ending_clean before card o v short opened TooMany = rw (o.device_is, o.call_is, o.opening_is) refl
ending_clean before card o v short opened UnknownSubckt = rw o.call_is refl
ending_clean before card o v short opened WrongCount = rw o.call_is refl
