-- What a card is and its fault, by tests of its words one after the other.
use Rattle.std.proofs.Common.{◌≡◌, ◌<◌, ℕ, Bool, true, false, ◌||◌, ◌&&◌, not, ap, nat_lt, if◌then◌else◌, length, refl, arith, Option, Some, None, Result, Ok, Err}
use Rattle.std.specs.List.{list_any}
use Rattle.std.proofs.lemmas.Bool.Decides.{nat_tests}
use Rattle.dom_base.specs.Lines.{is_control}
use Rattle.dom_base.specs.declared.kind.Kind.{Kind}
use Rattle.dom_base.proofs.Names.{plain_words, visible_words}
use Rattle.deck.specs.declared.fault.DeckKind.{DeckKind}
use Rattle.deck.specs.declared.fault.DeckKind.TheVariants.{ControlByte, UnknownCard, BadCard, UnknownDevice}
use Rattle.deck.specs.DeckCards.{NumberedCard, has_first_word, dot_subckt, dot_ends, dot_end, dot_model, is_call, is_device, is_model_word, has_equals, kind_of, word_at}
use Rattle.spice_read.specs.declared.cards.Form.{Form}
use Rattle.spice_read.specs.declared.cards.Form.TheVariants.{Device, Call as Calling, Subckt as Opening, Ends, Skipped}
use Rattle.spice_read.specs.Forms.{card_form, is_named_card}
use Rattle.spice_read.specs.ReadSubckts.{SubcktsData, calling_fault, ending_fault, fault_by, fault_in, opening_fault, room_fault, HasNames, IsWordedCard}
use Rattle.spice_read.proofs.CleanCards.{unmet}

-- the fault of a card, by these tests
abbrev pub fault_tests : SubcktsData → NumberedCard → Option DeckKind
fault_tests s card =
    if list_any (list_any is_control) card.words then Some ControlByte
    else (if is_device card then (if nat_lt 5 (length card.words) then (if is_model_word (word_at card 5) then room_fault s else Some UnknownDevice) else Some BadCard)
    else (if is_call card then (if is_named_card card then calling_fault s card else Some BadCard)
    else (if has_first_word dot_subckt card then (if is_named_card card then opening_fault s card else Some BadCard)
    else (if has_first_word dot_ends card then (if nat_lt (length card.words) 3 then ending_fault s else Some BadCard)
    else (if has_first_word dot_end card || has_first_word dot_model card then None
    else Some UnknownCard)))))

-- the answers of the tests
record Tests : Type 0 where
  control : Bool
  device : Bool
  long : Bool
  known : Bool
  call : Bool
  subckt : Bool
  named : Bool
  ends : Bool
  short : Bool
  skipped : Bool

abbrev tests_of : NumberedCard → Tests
tests_of card = record {
  control = list_any (list_any is_control) card.words;
  device = is_device card;
  long = nat_lt 5 (length card.words);
  known = is_model_word (word_at card 5);
  call = is_call card;
  subckt = has_first_word dot_subckt card;
  named = is_named_card card;
  ends = has_first_word dot_ends card;
  short = nat_lt (length card.words) 3;
  skipped = has_first_word dot_end card || has_first_word dot_model card;
}

abbrev form_by : Kind → Tests → Result Form DeckKind
form_by kind t =
    if t.control then Err ControlByte
    else (if t.device then (if t.long then (if t.known then Ok (Device kind) else Err UnknownDevice) else Err BadCard)
    else (if t.call then (if t.named then Ok Calling else Err BadCard)
    else (if t.subckt then (if t.named then Ok Opening else Err BadCard)
    else (if t.ends then (if t.short then Ok Ends else Err BadCard)
    else (if t.skipped then Ok Skipped
    else Err UnknownCard)))))

abbrev fault_by_tests : SubcktsData → NumberedCard → Tests → Option DeckKind
fault_by_tests s card t =
    if t.control then Some ControlByte
    else (if t.device then (if t.long then (if t.known then room_fault s else Some UnknownDevice) else Some BadCard)
    else (if t.call then (if t.named then calling_fault s card else Some BadCard)
    else (if t.subckt then (if t.named then opening_fault s card else Some BadCard)
    else (if t.ends then (if t.short then ending_fault s else Some BadCard)
    else (if t.skipped then None
    else Some UnknownCard)))))

module _ (s : SubcktsData) (card : NumberedCard) (kind : Kind) where
  same_fault : (control device long known call opening named ends short skipped : Bool)
      → fault_by s card (form_by kind (record { control = control; device = device; long = long; known = known; call = call; subckt = opening; named = named; ends = ends; short = short; skipped = skipped }))
      ≡ fault_by_tests s card (record { control = control; device = device; long = long; known = known; call = call; subckt = opening; named = named; ends = ends; short = short; skipped = skipped })
  same_fault true device long known call opening named ends short skipped = refl
  same_fault false true true true call opening named ends short skipped = refl
  same_fault false true true false call opening named ends short skipped = refl
  same_fault false true false known call opening named ends short skipped = refl
  same_fault false false long known true opening true ends short skipped = refl
  same_fault false false long known true opening false ends short skipped = refl
  same_fault false false long known false true true ends short skipped = refl
  same_fault false false long known false true false ends short skipped = refl
  same_fault false false long known false false named true true skipped = refl
  same_fault false false long known false false named true false skipped = refl
  same_fault false false long known false false named false short true = refl
  same_fault false false long known false false named false short false = refl

-- the fault of a card is that of the tests
pub fault_in-tests : (s : SubcktsData) (card : NumberedCard) → fault_in s card ≡ fault_tests s card
fault_in-tests s card =
    let t = tests_of card in
    same_fault s card (kind_of (word_at card 5)) t.control t.device t.long t.known t.call t.subckt t.named t.ends t.short t.skipped

-- the words of a card without control bytes are names of nets
has_names : (card : NumberedCard) (count : ℕ) → IsWordedCard card → list_any (list_any is_control) card.words ≡ false → count < length card.words → HasNames count card
has_names card count worded clean more = record { more = more; names = plain_words card.words worded (visible_words card.words clean) }

-- the facts of a card of a device, of a call, or of a `.subckt`
record IsLong (count : ℕ) (card : NumberedCard) : Type 0 where
  clean : list_any (list_any is_control) card.words ≡ false
  more : count < length card.words

-- the least number of words but one of a card of this form
abbrev is_device_form : Result Form DeckKind → Bool
is_device_form (Ok (Device kind)) = true
is_device_form _ = false

abbrev is_named_form : Result Form DeckKind → Bool
is_named_form (Ok Calling) = true
is_named_form (Ok Opening) = true
is_named_form _ = false

device_long : (card : NumberedCard) → is_device_form (card_form card) ≡ true → IsLong 5 card
device_long card is = by (list_any (list_any is_control) card.words) (is_device card) (nat_lt 5 (length card.words)) (is_call card) (has_first_word dot_subckt card) (is_named_card card) (has_first_word dot_ends card) (nat_lt (length card.words) 3) (has_first_word dot_end card || has_first_word dot_model card) refl refl is
  where
    by : (c d l x s f e h k : Bool) → list_any (list_any is_control) card.words ≡ c → nat_lt 5 (length card.words) ≡ l
        → is_device_form (if c then Err ControlByte else (if d then (if l then (if is_model_word (word_at card 5) then Ok (Device (kind_of (word_at card 5))) else Err UnknownDevice) else Err BadCard)
        else (if x then (if f then Ok Calling else Err BadCard) else (if s then (if f then Ok Opening else Err BadCard) else (if e then (if h then Ok Ends else Err BadCard) else (if k then Ok Skipped else Err UnknownCard)))))) ≡ true → IsLong 5 card
    by true d l x s f e h k y z g = unmet g
    by false true true x s f e h k y z g = record { clean = y; more = grind (arith, nat_tests) }
    by false true false x s f e h k y z g = unmet g
    by false false l true s true e h k y z g = unmet g
    by false false l true s false e h k y z g = unmet g
    by false false l false true true e h k y z g = unmet g
    by false false l false true false e h k y z g = unmet g
    by false false l false false f true true k y z g = unmet g
    by false false l false false f true false k y z g = unmet g
    by false false l false false f false h true y z g = unmet g
    by false false l false false f false h false y z g = unmet g

named_long : (card : NumberedCard) → is_named_form (card_form card) ≡ true → IsLong 1 card
named_long card is = by (list_any (list_any is_control) card.words) (is_device card) (nat_lt 5 (length card.words)) (is_model_word (word_at card 5)) (is_call card) (has_first_word dot_subckt card) (nat_lt 1 (length card.words)) (list_any has_equals card.words) (has_first_word dot_ends card) (nat_lt (length card.words) 3) (has_first_word dot_end card || has_first_word dot_model card) refl refl is
  where
    by : (c d l m x s f q e h k : Bool) → list_any (list_any is_control) card.words ≡ c → nat_lt 1 (length card.words) ≡ f
        → is_named_form (if c then Err ControlByte else (if d then (if l then (if m then Ok (Device (kind_of (word_at card 5))) else Err UnknownDevice) else Err BadCard)
        else (if x then (if f && not q then Ok Calling else Err BadCard) else (if s then (if f && not q then Ok Opening else Err BadCard) else (if e then (if h then Ok Ends else Err BadCard) else (if k then Ok Skipped else Err UnknownCard)))))) ≡ true → IsLong 1 card
    by true d l m x s f q e h k y z g = unmet g
    by false true true true x s f q e h k y z g = unmet g
    by false true true false x s f q e h k y z g = unmet g
    by false true false m x s f q e h k y z g = unmet g
    by false false l m true s true true e h k y z g = unmet g
    by false false l m true s true false e h k y z g = record { clean = y; more = grind (arith, nat_tests) }
    by false false l m true s false q e h k y z g = unmet g
    by false false l m false true true true e h k y z g = unmet g
    by false false l m false true true false e h k y z g = record { clean = y; more = grind (arith, nat_tests) }
    by false false l m false true false q e h k y z g = unmet g
    by false false l m false false f q true true k y z g = unmet g
    by false false l m false false f q true false k y z g = unmet g
    by false false l m false false f q false h true y z g = unmet g
    by false false l m false false f q false h false y z g = unmet g

-- the words of a device's card, of a call, and of a `.subckt`
pub device_names : (card : NumberedCard) (kind : Kind) → IsWordedCard card → card_form card ≡ Ok (Device kind) → HasNames 5 card
device_names card kind worded is = let long = device_long card (ap is_device_form is) in has_names card 5 worded long.clean long.more

pub call_names : (card : NumberedCard) → IsWordedCard card → card_form card ≡ Ok Calling → HasNames 1 card
call_names card worded is = let long = named_long card (ap is_named_form is) in has_names card 1 worded long.clean long.more

pub opening_names : (card : NumberedCard) → IsWordedCard card → card_form card ≡ Ok Opening → HasNames 1 card
opening_names card worded is = let long = named_long card (ap is_named_form is) in has_names card 1 worded long.clean long.more
