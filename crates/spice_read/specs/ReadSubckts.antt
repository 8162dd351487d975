-- The subcircuits that were read of a deck: the fault of a card by what was read before it, and what is read with it.
use Rattle.std.specs.Prelude.{ℕ, ◌≡◌, ◌<◌, ◌+◌, ◌-◌, suc, Bool, false, ◌==◌, ◌||◌, not, nat_eq, nat_lt, if◌then◌else◌, List, [], ◌∷◌, ◌++◌, length, is_some, Option, Some, None, Result, Ok, Err, slice_get}
use Rattle.std.specs.Prelude.{IsErrOf}
use Rattle.std.specs.List.{AllByRecursion, list_any}
use Rattle.std.specs.Cmp.Lexicographic.{pointwise}
use Rattle.dom_base.specs.Names.{IsNetName}
use Rattle.dom_base.specs.declared.kind.Kind.{Kind}
use Rattle.dom_base.specs.Lines.{IsLowerWord}
use Rattle.deck.specs.declared.fault.DeckKind.{DeckKind}
use Rattle.deck.specs.declared.fault.DeckKind.TheVariants.{NoSubckt, SecondSubckt, NotClosed, DuplicatePort, TooMany, UnknownSubckt, WrongCount}
use Rattle.deck.specs.declared.phase.Phase.{Phase}
use Rattle.deck.specs.CircuitData.{CircuitData}
use Rattle.deck.specs.DeckText.{IsDeckOf, bare_circuit}
use Rattle.deck.specs.DeckFaults.{IsDeckFaultAt}
use Rattle.deck.specs.DeckCards.{NumberedCard, port_names, names_twice, passed_nets, unit_word, word_at}
use Rattle.deck.specs.Limits.{most_depth, most_devices, most_ports}
use Rattle.deck.specs.NamedDevices.{with_devices}
use Rattle.deck.specs.Nets.{net_number, with_net}
use Rattle.deck.specs.Numbers.{with_all}
use Rattle.subckt_expand.specs.Definitions.{CallData, DefinitionData, opened, port_names as own_ports, with_call, with_device}
use Rattle.subckt_expand.specs.Units.{IsClosed, definition_at, expansion_at, names_of}
use Rattle.spice_read.specs.declared.cards.Form.{Form}
use Rattle.spice_read.specs.declared.cards.Form.TheVariants.{Device, Call as Calling, Subckt as Opening, Ends, Skipped}
use Rattle.spice_read.specs.declared.faults.DeckFault.{DeckFault}
use Rattle.spice_read.specs.declared.faults.DeckFault.TheVariants.{At}
use Rattle.spice_read.specs.Forms.{card_form}
use Rattle.spice_read.specs.Readers.{Reader}

-- the subcircuits that were closed, in the order of the text, and the one that is open
pub record SubcktsData : Type 0 where
  pub closed : List DefinitionData
  pub current : Option DefinitionData

-- a closed subcircuit has this name
abbrev pub is_closed_name : List DefinitionData → List ℕ → Bool
is_closed_name closed name = list_any (pointwise nat_eq name) (names_of closed)

-- the closed subcircuit of this name, if there is one
abbrev pub called : List DefinitionData → List ℕ → Option DefinitionData
called closed name = slice_get closed (net_number (names_of closed) name)

-- why no device can be added
abbrev pub room_by : Option DefinitionData → Option DeckKind
room_by None = Some NoSubckt
room_by (Some d) = if nat_lt most_devices (d.devices + 1) then Some TooMany else None

abbrev pub room_fault : SubcktsData → Option DeckKind
room_fault s = room_by s.current

-- a subcircuit with so many devices that calls another has room for its devices, and is not too deep
abbrev pub has_room_for : ℕ → DefinitionData → Bool
has_room_for devices u = not (nat_lt most_devices (devices + u.devices) || nat_lt most_depth (1 + u.depth))

-- why this subcircuit can't be called from one with so many devices
abbrev pub call_fault : ℕ → Option DefinitionData → NumberedCard → Option DeckKind
call_fault devices None card = Some UnknownSubckt
call_fault devices (Some u) card =
    if has_room_for devices u then (if u.ports == length card.words - 2 then None else Some WrongCount) else Some TooMany

-- why no call can be added
abbrev pub calling_by : List DefinitionData → Option DefinitionData → NumberedCard → Option DeckKind
calling_by closed None card = Some NoSubckt
calling_by closed (Some d) card = call_fault d.devices (called closed (unit_word card)) card

abbrev pub calling_fault : SubcktsData → NumberedCard → Option DeckKind
calling_fault s card = calling_by s.closed s.current card

-- the fault of the ports of a `.subckt`
abbrev pub ports_fault : NumberedCard → Option DeckKind
ports_fault card =
    if names_twice card then Some DuplicatePort
    else (if nat_lt most_ports (length (port_names card)) then Some TooMany else None)

-- why no `.subckt` can be read behind closed subcircuits
abbrev pub next_fault : List DefinitionData → NumberedCard → Option DeckKind
next_fault closed card = if is_closed_name closed (word_at card 1) then Some SecondSubckt else ports_fault card

-- why no `.subckt` can be read
abbrev pub opening_fault : SubcktsData → NumberedCard → Option DeckKind
opening_fault s card =
    if is_some s.current || is_closed_name s.closed (word_at card 1) then Some SecondSubckt else ports_fault card

-- why no `.ends` can be read
abbrev pub ending_fault : SubcktsData → Option DeckKind
ending_fault s = if is_some s.current then None else Some NoSubckt

-- the fault of a card of this form, or this fault
abbrev pub fault_by : SubcktsData → NumberedCard → Result Form DeckKind → Option DeckKind
fault_by s card (Ok (Device kind)) = room_fault s
fault_by s card (Ok Calling) = calling_fault s card
fault_by s card (Ok Opening) = opening_fault s card
fault_by s card (Ok Ends) = ending_fault s
fault_by s card (Ok Skipped) = None
fault_by s card (Err kind) = Some kind

-- the smallest fault of a card, by what was read before it
abbrev pub fault_in : SubcktsData → NumberedCard → Option DeckKind
fault_in s card = fault_by s card (card_form card)

-- the fault of a text that ends here
abbrev pub end_fault : SubcktsData → Option DeckKind
end_fault s = if is_some s.current then Some NotClosed else (if nat_lt 0 (length s.closed) then None else Some NoSubckt)

-- a subcircuit with the device of a card
abbrev pub with_device_of : DefinitionData → Kind → NumberedCard → DefinitionData
with_device_of d kind card = with_device d kind (word_at card 1) (word_at card 2) (word_at card 3)

-- the numbers of nets, each of which is added where it is new
abbrev pub numbers_in : List (List ℕ) → List (List ℕ) → List ℕ
numbers_in nets [] = []
numbers_in nets (name ∷ names) = net_number nets name ∷ numbers_in (with_net nets name) names

-- the call of a card, where the subcircuit that it names has this number, with the numbers of its nets among these
abbrev pub numbered_call : List (List ℕ) → ℕ → NumberedCard → CallData
numbered_call nets unit card = record { name = word_at card 0; unit = unit; nets = numbers_in nets (passed_nets card) }

-- a subcircuit with the call of a card, of the subcircuit of this number, with so many devices and of this depth
abbrev pub with_call_of : DefinitionData → ℕ → ℕ → ℕ → NumberedCard → DefinitionData
with_call_of d unit devices depth card =
    with_call (record d { nets = with_all d.nets (passed_nets card) }) (numbered_call d.nets unit card) devices depth

-- a device is added to the open subcircuit
abbrev pub device_added : Option DefinitionData → Kind → NumberedCard → Option DefinitionData
device_added None kind card = None
device_added (Some d) kind card = Some (with_device_of d kind card)

abbrev pub after_device : SubcktsData → Kind → NumberedCard → SubcktsData
after_device s kind card = record s { current = device_added s.current kind card }

-- a call is added to the open subcircuit
abbrev pub called_added : DefinitionData → ℕ → Option DefinitionData → NumberedCard → DefinitionData
called_added d unit None card = d
called_added d unit (Some u) card = with_call_of d unit u.devices u.depth card

abbrev pub call_added : List DefinitionData → Option DefinitionData → NumberedCard → Option DefinitionData
call_added closed None card = None
call_added closed (Some d) card =
    Some (called_added d (net_number (names_of closed) (unit_word card)) (called closed (unit_word card)) card)

abbrev pub after_call : SubcktsData → NumberedCard → SubcktsData
after_call s card = record s { current = call_added s.closed s.current card }

-- a subcircuit is opened
abbrev pub after_opening : SubcktsData → NumberedCard → SubcktsData
after_opening s card = record s { current = Some (opened (word_at card 1) (port_names card)) }

-- the open subcircuit is closed
abbrev pub ends_added : List DefinitionData → Option DefinitionData → SubcktsData
ends_added closed None = record { closed = closed; current = None }
ends_added closed (Some d) = record { closed = closed ++ d ∷ []; current = None }

abbrev pub after_ends : SubcktsData → SubcktsData
after_ends s = ends_added s.closed s.current

-- what was read after a card of this form
abbrev pub after_form : SubcktsData → NumberedCard → Result Form DeckKind → SubcktsData
after_form s card (Ok (Device kind)) = after_device s kind card
after_form s card (Ok Calling) = after_call s card
after_form s card (Ok Opening) = after_opening s card
after_form s card (Ok Ends) = after_ends s
after_form s card (Ok Skipped) = s
after_form s card (Err kind) = s

-- what was read after a card without a fault
abbrev pub subckts_after : SubcktsData → NumberedCard → SubcktsData
subckts_after s card = after_form s card (card_form card)

-- the open subcircuit can be closed: its name is new, and it calls closed ones
pub record CanClose (closed : List DefinitionData) (d : DefinitionData) : Type 0 where
  pub new : is_closed_name closed d.name ≡ false
  pub whole : IsClosed (closed ++ d ∷ []) (length closed) d

abbrev pub ClosableBy : List DefinitionData → Option DefinitionData → Type 0
ClosableBy closed None = Unit {0}
ClosableBy closed (Some d) = CanClose closed d

abbrev pub IsClosable : SubcktsData → Type 0
IsClosable s = ClosableBy s.closed s.current

-- the subcircuit that a card calls from one with so many devices: its number, its devices and its depth
pub record IsCalledUnit (closed : List DefinitionData) (devices : ℕ) (card : NumberedCard) (unit count depth : ℕ) : Type 0 where
  pub definition : DefinitionData
  pub found : called closed (unit_word card) ≡ Some definition
  pub unit_is : unit ≡ net_number (names_of closed) (unit_word card)
  pub count_is : count ≡ definition.devices
  pub depth_is : depth ≡ definition.depth
  pub no_fault : call_fault devices (Some definition) card ≡ None

-- the circuit of a text that ends here, with its phases: what the last subcircuit stands for
pub record IsFinished (s : SubcktsData) (phases : List Phase) (circuit : CircuitData) : Type 0 where
  pub none_open : s.current ≡ None
  pub last : ℕ
  pub count : length s.closed ≡ suc last
  pub circuit_is : circuit ≡ with_devices
      (bare_circuit (definition_at s.closed last).name phases (own_ports (definition_at s.closed last)))
      (expansion_at s.closed last).devices

-- all cards of a text were read: what the last subcircuit stands for is the circuit of the text, and a fault of its end is one of it
pub record IsWholeRead (text : List ℕ) (s : SubcktsData) (reader : Reader) : Type 0 where
  pub circuit : (circuit : CircuitData) → IsFinished s reader.phases circuit → IsDeckOf text circuit
  pub fault : (line : ℕ) (kind : DeckKind) → line ≡ reader.left.number → end_fault s ≡ Some kind → IsDeckFaultAt text line kind

-- a card with more than so many words, which are names of nets
pub record HasNames (count : ℕ) (card : NumberedCard) : Type 0 where
  pub more : count < length card.words
  pub names : AllByRecursion IsNetName card.words

-- a card whose words have a byte each, and no blank, no tab and no upper-case letter
abbrev pub IsWordedCard : NumberedCard → Type 0
IsWordedCard card = AllByRecursion IsLowerWord card.words

-- a fault that a call answers stands at the line of this number, and is this one
abbrev pub AnswersFault : {T : Type 0} → Result T DeckFault → ℕ → Option DeckKind → Type 0
AnswersFault result number fault = (line : ℕ) (kind : DeckKind) → IsErrOf result (At line kind) → (line ≡ number) × (fault ≡ Some kind)
