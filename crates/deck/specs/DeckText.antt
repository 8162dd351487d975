-- The circuit of a deck, the text of subcircuits of transistors that may call one another (SPICE subcircuits, M and X cards).
use Rattle.std.specs.Prelude.{ℕ, ◌≤◌, ◌≡◌, ◌≢◌, Bool, true, false, ◌==◌, ◌||◌, ◌&&◌, not, if◌then◌else◌, List, [], ◌∷◌, ◌++◌, length, map, filter, take, drop, reverse, Option, Some, None, All, nat_eq, codes, IsSomeAnd}
use Rattle.std.specs.List.{AllZip, IsDistinct, filter_map, flat_map, list_any}
use Rattle.std.specs.Str.{str_to_ascii_lowercase}
use Rattle.std.specs.Cmp.Lexicographic.{pointwise}
use Rattle.dom_base.specs.Names.{IsNetName}
use Rattle.dom_base.specs.Lines.{is_control, lines, words, unindented, first_word}
use Rattle.dom_base.specs.declared.kind.Kind.{Kind}
use Rattle.dom_base.specs.declared.kind.Kind.TheVariants.{N as nch, P as pch, Keep}
use Rattle.deck.specs.declared.phase.Phase.{Phase}
use Rattle.deck.specs.CircuitData.{CircuitData}
use Rattle.deck.specs.Limits.{most_depth, most_devices, most_ports}
use Rattle.deck.specs.NamedDevices.{NamedDevice, with_devices}
use Rattle.deck.specs.Subckts.{Call, SubcktPart, Single, Called, Subckt, Size, size_named, size, sizes, expansion, expansions}

-- a line as it is read: without blanks and tabs at its start, and with upper-case ASCII letters as lower-case
abbrev pub read_line : List ℕ → List ℕ
read_line line = str_to_ascii_lowercase (unindented line)

-- a line that begins the card `.end`
abbrev pub is_end : List ℕ → Bool
is_end line = pointwise nat_eq (first_word (words line)) (codes ".end")

-- the lines up to the first that begins the card `.end`, with that one
abbrev pub through_end : List (List ℕ) → List (List ℕ)
through_end [] = []
through_end (line ∷ more) = line ∷ (if is_end line then [] else through_end more)

-- the lines of a deck: what stands behind the card `.end` is not read
abbrev pub deck_lines : List ℕ → List (List ℕ)
deck_lines text = through_end (map read_line (lines text))

-- a line of a card: it is not empty, and its first byte is not `*`, which begins a comment
abbrev pub is_of_card : List ℕ → Bool
is_of_card [] = false
is_of_card (b ∷ bs) = not (b == 42)

-- a line that continues the card before it: its first byte is `+`
abbrev pub continues : List ℕ → Bool
continues [] = false
continues (b ∷ bs) = b == 43

-- the lines of a deck's cards, without empty lines and comments
abbrev pub deck_card_lines : List ℕ → List (List ℕ)
deck_card_lines text = filter is_of_card (deck_lines text)

-- the words that the lines with `+` at the front of a list add to the card before them
abbrev pub added_words : List (List ℕ) → List (List ℕ)
added_words [] = []
added_words (line ∷ more) = if continues line then words (drop 1 line) ++ added_words more else []

-- the cards of these lines, each as its words: those of its first line, and those that the next lines add
abbrev pub cards_of : List (List ℕ) → List (List (List ℕ))
cards_of [] = []
cards_of (line ∷ more) = if continues line then cards_of more else (words line ++ added_words more) ∷ cards_of more

-- the cards of a deck, up to `.end`, with it
abbrev pub deck_cards : List ℕ → List (List (List ℕ))
deck_cards text = cards_of (deck_card_lines text)

-- the first line, if there is one, continues no card
abbrev pub BeginsACard : List (List ℕ) → Type 0
BeginsACard [] = Unit {0}
BeginsACard (line ∷ more) = continues line ≡ false

-- a card `.model` or `.end`, which adds nothing to the circuit
abbrev pub is_skipped : List (List ℕ) → Bool
is_skipped card = pointwise nat_eq (first_word card) (codes ".model") || pointwise nat_eq (first_word card) (codes ".end")

-- the phase with this name and sign, where the sign is `+` or `-`
abbrev pub signed_phase : List ℕ → List ℕ → Option Phase
signed_phase name sign =
    if pointwise nat_eq sign (codes "+") then Some (record { net = name; plus = true })
    else (if pointwise nat_eq sign (codes "-") then Some (record { net = name; plus = false }) else None)

-- the phase that the words of a line give: they are `*`, `phase`, a name without control bytes, and `+` or `-`
abbrev pub phase_of : List (List ℕ) → Option Phase
phase_of (star ∷ word ∷ name ∷ sign ∷ []) =
    if pointwise nat_eq star (codes "*") && pointwise nat_eq word (codes "phase") && not (list_any is_control name)
    then signed_phase name sign else None
phase_of _ = None

-- the phases of a deck, in the order of its lines
abbrev pub deck_phases : List ℕ → List Phase
deck_phases text = filter_map phase_of (map words (deck_lines text))

-- the word for a kind of device
abbrev pub model_word : Kind → List ℕ
model_word nch = codes "nch"
model_word pch = codes "pch"
model_word Keep = codes "pkeep"

-- the card of a device: a name that begins with `m`, the drain, the gate, the source, the bulk, the model, and more words,
-- which are skipped
pub record IsDeviceCard (card : List (List ℕ)) (device : NamedDevice (List ℕ)) : Type 0 where
  pub name : List ℕ
  pub bulk : List ℕ
  pub more : List (List ℕ)
  pub words_are : card ≡ (109 ∷ name) ∷ device.drain ∷ device.gate ∷ device.source ∷ bulk ∷ model_word device.kind ∷ more

-- a circuit without devices: its nets are its ports
abbrev pub bare_circuit : List ℕ → List Phase → List (List ℕ) → CircuitData
bare_circuit name phases ports = record { name = name; phases = phases; ports = length ports; nets = ports; devices = [] }

-- a word without the byte `=`
abbrev pub HasNoEquals : List ℕ → Type 0
HasNoEquals word = All (λ b. b ≢ 61) word

-- the card of a call: a name that begins with `x`, the nets, and the name of the subcircuit; no word has `=`
pub record IsCallCard (card : List (List ℕ)) (call : Call) : Type 0 where
  pub name : List ℕ
  pub name_is : call.name ≡ 120 ∷ name
  pub words_are : card ≡ call.name ∷ call.nets ++ call.unit ∷ []
  pub no_equals : All HasNoEquals card

-- the card of a part
abbrev pub IsPartCard : List (List ℕ) → SubcktPart → Type 0
IsPartCard card (Single device) = IsDeviceCard card device
IsPartCard card (Called call) = IsCallCard card call

-- the cards of a subcircuit: `.subckt`, those of its parts, and `.ends` with at most one more word
pub record AreSubcktCards (cards : List (List (List ℕ))) (s : Subckt) : Type 0 where
  pub part_cards : List (List (List ℕ))
  pub closing : List (List ℕ)
  pub cards_are : cards ≡ (codes ".subckt" ∷ s.name ∷ s.ports) ∷ part_cards ++ (codes ".ends" ∷ closing) ∷ []
  pub parts_are : AllZip IsPartCard part_cards s.parts
  pub few_closing : length closing ≤ 1

-- a call names a subcircuit above, which has as many ports as nets are passed
abbrev pub IsCallOver : List Size → SubcktPart → Type 0
IsCallOver above (Single device) = Unit {0}
IsCallOver above (Called call) = IsSomeAnd (size_named call.unit above) (λ s. s.ports ≡ length call.nets)

-- what holds of a subcircuit, by those above it
pub record IsSubcktOver (above : List Subckt) (s : Subckt) : Type 0 where
  pub new_name : All (λ t. t.name ≢ s.name) above
  pub no_equals : All HasNoEquals (s.name ∷ s.ports)
  pub ports_differ : IsDistinct (pointwise nat_eq) s.ports
  pub few_ports : length s.ports ≤ most_ports
  pub calls : All (IsCallOver (sizes above)) s.parts
  pub few_devices : (size (sizes above) s).devices ≤ most_devices
  pub shallow : (size (sizes above) s).depth ≤ most_depth

-- the same of each of some subcircuits
abbrev pub AreSubckts : List Subckt → Type 0
AreSubckts [] = Unit {0}
AreSubckts (s ∷ above) = IsSubcktOver above s × AreSubckts above

-- the text is a deck, and the circuit is its circuit: its last subcircuit, expanded
pub record IsDeckOf (text : List ℕ) (circuit : CircuitData) : Type 0 where
  pub last : Subckt
  -- the subcircuits above it, the nearest first
  pub above : List Subckt
  pub groups : List (List (List (List ℕ)))
  -- no line with `+` stands before the first card
  pub begins : BeginsACard (deck_card_lines text)
  -- no card has a control byte
  pub visible : All (All (All (λ b. is_control b ≡ false))) (deck_cards text)
  -- but for `.model` and `.end`, the cards are those of the subcircuits, one behind the other
  pub order : filter (λ card. not (is_skipped card)) (deck_cards text) ≡ flat_map (λ group. group) groups
  pub groups_are : AllZip AreSubcktCards groups (reverse (last ∷ above))
  pub sound : AreSubckts (last ∷ above)
  pub circuit_is : circuit ≡ with_devices (bare_circuit last.name (deck_phases text) last.ports) (expansion (expansions above) last).devices

-- a circuit whose name and ports can stand on a card `.subckt`
pub record IsGoodCircuit (c : CircuitData) : Type 0 where
  pub name_good : HasNoEquals c.name
  pub ports_good : All HasNoEquals (take c.ports c.nets)

-- a circuit whose names are names of nets
pub record HasNetNames (c : CircuitData) : Type 0 where
  pub name_is : IsNetName c.name
  pub nets_are : All IsNetName c.nets
  pub phases_are : All (λ phase. IsNetName phase.net) c.phases
