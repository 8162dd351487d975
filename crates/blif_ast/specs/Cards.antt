-- The cards of BLIF, the Berkeley Logic Interchange Format, and the forms of cards and rows by their words.
use Rattle.std.specs.Prelude.{ℕ, ◌-◌, Bool, true, false, ◌==◌, ◌||◌, ◌&&◌, not, nat_eq, nat_lt, if◌then◌else◌, List, [], ◌∷◌, length, take, drop, slice_index, slice_index_or, codes, Option, Some, None}
use Rattle.std.specs.List.{list_any, list_all, find, before_first, after_first}
use Rattle.std.specs.Cmp.Lexicographic.{pointwise}
use Rattle.dom_base.specs.Lines.{first_word}
use Rattle.blif_ast.specs.declared.card.Card.{Card}
use Rattle.blif_ast.specs.declared.card.Card.TheVariants.{Model, Inputs, Outputs, Names, Latch, Subckt, Clock, End}
use Rattle.blif_ast.specs.LogicalLines.{LogicalLine}

abbrev pub same : List ℕ → List ℕ → Bool
same word other = pointwise nat_eq word other

-- a word that is one of these
abbrev pub is_one_of : List (List ℕ) → List ℕ → Bool
is_one_of all word = list_any (same word) all

-- the last of some words, or no bytes where there is none
abbrev pub last_word : List (List ℕ) → List ℕ
last_word words = slice_index_or words (length words - 1) []

-- the last letter of a row: the last byte of its last word
abbrev pub last_letter : List (List ℕ) → ℕ
last_letter words = slice_index (last_word words) (length (last_word words) - 1)

-- a line that begins with this word
abbrev pub begins : List ℕ → LogicalLine → Bool
begins word line = same (first_word line.words) word

-- a card: its first word begins with `.`; any other line is a row
abbrev pub is_card : LogicalLine → Bool
is_card line = slice_index (first_word line.words) 0 == 46

abbrev pub is_row : LogicalLine → Bool
is_row line = not (is_card line)

-- the cards, each as its first word
abbrev pub model_card : List ℕ
model_card = codes ".model"

abbrev pub inputs_card : List ℕ
inputs_card = codes ".inputs"

abbrev pub outputs_card : List ℕ
outputs_card = codes ".outputs"

abbrev pub names_card : List ℕ
names_card = codes ".names"

abbrev pub latch_card : List ℕ
latch_card = codes ".latch"

abbrev pub subckt_card : List ℕ
subckt_card = codes ".subckt"

abbrev pub clock_card : List ℕ
clock_card = codes ".clock"

abbrev pub end_card : List ℕ
end_card = codes ".end"

-- the first word of a card that is known
abbrev pub card_word : Card → List ℕ
card_word Model = model_card
card_word Inputs = inputs_card
card_word Outputs = outputs_card
card_word Names = names_card
card_word Latch = latch_card
card_word Subckt = subckt_card
card_word Clock = clock_card
card_word End = end_card

-- the cards that are known
abbrev pub known_cards : List Card
known_cards = Model ∷ Inputs ∷ Outputs ∷ Names ∷ Latch ∷ Subckt ∷ Clock ∷ End ∷ []

-- the card of a first word, if it is known
abbrev pub card_named : List ℕ → Option Card
card_named word = find (λ card. same word (card_word card)) known_cards

-- the card of a line, if it is known
abbrev pub card_of : LogicalLine → Option Card
card_of line = card_named (first_word line.words)

-- the start value of a latch
abbrev pub is_init : List ℕ → Bool
is_init word = is_one_of (codes "0" ∷ codes "1" ∷ codes "2" ∷ codes "3" ∷ []) word

-- the types of latches that take their input at an edge of the control, and of those that take it at a level
abbrev pub is_edge : List ℕ → Bool
is_edge word = is_one_of (codes "re" ∷ codes "fe" ∷ []) word

abbrev pub is_level : List ℕ → Bool
is_level word = is_one_of (codes "ah" ∷ codes "al" ∷ codes "as" ∷ []) word

abbrev pub is_type : List ℕ → Bool
is_type word = is_edge word || is_level word

-- the words of a card `.latch IN OUT [TYPE CONTROL] [INIT]`
abbrev pub is_latch_form : List (List ℕ) → Bool
is_latch_form (card ∷ input ∷ output ∷ []) = true
is_latch_form (card ∷ input ∷ output ∷ init ∷ []) = is_init init
is_latch_form (card ∷ input ∷ output ∷ type ∷ control ∷ []) = is_type type
is_latch_form (card ∷ input ∷ output ∷ type ∷ control ∷ init ∷ []) = is_type type && is_init init
is_latch_form _ = false

-- the words of a card `.latch` in its form whose type is one of a level
abbrev pub is_level_form : List (List ℕ) → Bool
is_level_form words = is_latch_form words && nat_lt 4 (length words) && is_level (slice_index_or words 3 [])

abbrev pub is_level_latch : LogicalLine → Bool
is_level_latch line = begins latch_card line && is_level_form line.words

-- what stands before the first `=` of a binding, and what stands behind it
abbrev pub formal_of : List ℕ → List ℕ
formal_of word = before_first (λ b. b == 61) word

abbrev pub actual_of : List ℕ → List ℕ
actual_of word = after_first (λ b. b == 61) word

abbrev pub is_binding : List ℕ → Bool
is_binding word = nat_lt 0 (length (formal_of word)) && nat_lt 0 (length (actual_of word))

-- the words of a card `.subckt NAME FORMAL=ACTUAL ..`
abbrev pub is_subckt_form : List (List ℕ) → Bool
is_subckt_form (card ∷ unit ∷ bindings) = list_all is_binding bindings
is_subckt_form _ = false

-- the words of a card in its form, its own among them
abbrev pub is_form : Card → List (List ℕ) → Bool
is_form Model words = length words == 2
is_form Inputs words = true
is_form Outputs words = true
is_form Names words = nat_lt 1 (length words)
is_form Latch words = is_latch_form words
is_form Subckt words = is_subckt_form words
is_form Clock words = true
is_form End words = length words == 1

-- a card that is known, by whether it is in its form
abbrev pub is_known : Option Card → Bool
is_known None = false
is_known (Some card) = true

abbrev pub is_out_of_form : Option Card → List (List ℕ) → Bool
is_out_of_form None words = false
is_out_of_form (Some card) words = not (is_form card words)

-- the inputs of a table by its card: all names but the last, which is the output
abbrev pub table_inputs : List (List ℕ) → List (List ℕ)
table_inputs words = take (length words - 2) (drop 1 words)

-- a card `.names` with more than 4,096 inputs
abbrev pub is_too_wide : LogicalLine → Bool
is_too_wide line = begins names_card line && nat_lt 4096 (length (table_inputs line.words))

-- the value that a row or its table ends in
abbrev pub is_value : List ℕ → Bool
is_value word = is_one_of (codes "0" ∷ codes "1" ∷ []) word

-- a letter of a row: `0`, `1` or `-`
abbrev pub is_letter : ℕ → Bool
is_letter b = (b == 48) || (b == 49) || (b == 45)

-- the words of a row of a table with so many inputs: a letter for each input and a value, or a value alone without inputs
abbrev pub is_row_form : ℕ → List (List ℕ) → Bool
is_row_form width (value ∷ []) = (width == 0) && is_value value
is_row_form width (letters ∷ value ∷ []) = nat_lt 0 width && (length letters == width) && list_all is_letter letters && is_value value
is_row_form width _ = false
