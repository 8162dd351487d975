-- What the lines before a line say of it, after one line more.
use Rattle.std.proofs.Common.{◌≡◌, ℕ, Bool, true, false, cond, List, [], ◌∷◌, ◌++◌, reverse, refl, sym, ap, ◌∙◌, Some, None}
use Rattle.std.specs.Prelude.{Option, if◌then◌else◌, ◌||◌, ◌&&◌, ◌==◌, not, nat_eq, length, slice_index, codes}
use Rattle.std.specs.Cmp.Lexicographic.{pointwise, same_text}
use Rattle.std.specs.List.{find, take_while}
use Rattle.std.proofs.lemmas.List.Sums.{take_while-cons}
use Rattle.dom_base.proofs.Lists.{reverse-cons}
use Rattle.dom_base.specs.Lines.{first_word}
use Rattle.blif_ast.specs.declared.card.Card.{Card}
use Rattle.blif_ast.specs.declared.card.Card.TheVariants.{Model, Inputs, Outputs, Names, Latch, Subckt, Clock, End}
use Rattle.blif_ast.specs.LogicalLines.{LogicalLine}
use Rattle.blif_ast.specs.Cards.{same, names_card, table_inputs, begins, is_card, is_row, last_letter, model_card, end_card, card_word, card_of, known_cards}
use Rattle.blif_ast.specs.Context.{is_model_open, is_table_open, open_rows, open_width, words_of}
use Rattle.blif_numbers.specs.Steps.{OpenTable, context_of, open_table, first_letter, letter_after, with_letter}

-- a word that begins with no `.` is none that begins with one
pub no_dot : (word rest : List ℕ) → (slice_index word 0 == 46) ≡ false → same word (46 ∷ rest) ≡ false
no_dot [] rest is = refl
no_dot (b ∷ bs) rest is = ap (λ t. t && pointwise nat_eq bs rest) is

-- a word that begins with no `.` is that of no card
no_card : (word : List ℕ) (card : Card) → (slice_index word 0 == 46) ≡ false → same word (card_word card) ≡ false
no_card word Model is = no_dot word (codes "model") is
no_card word Inputs is = no_dot word (codes "inputs") is
no_card word Outputs is = no_dot word (codes "outputs") is
no_card word Names is = no_dot word (codes "names") is
no_card word Latch is = no_dot word (codes "latch") is
no_card word Subckt is = no_dot word (codes "subckt") is
no_card word Clock is = no_dot word (codes "clock") is
no_card word End is = no_dot word (codes "end") is

none_of : (word : List ℕ) (all : List Card) → (slice_index word 0 == 46) ≡ false → find (λ card. same word (card_word card)) all ≡ None
none_of word [] is = refl
none_of word (card ∷ all) is = ap (λ b. cond b (Some card) (find (λ c. same word (card_word c)) all)) (no_card word card is) ∙ none_of word all is

-- a row is no card that is known
pub row_no_card : (line : LogicalLine) → is_card line ≡ false → card_of line ≡ None
row_no_card line row = none_of (first_word line.words) known_cards row

found_word : (word : List ℕ) (all : List Card) (card : Card) → find (λ c. same word (card_word c)) all ≡ Some card → word ≡ card_word card
found_word word [] card is = absurd (cc)
found_word word (c ∷ all) card is = by (same word (card_word c)) refl (found_word word all card)
  where
    by : (b : Bool) → same word (card_word c) ≡ b → (find (λ d. same word (card_word d)) all ≡ Some card → word ≡ card_word card) → word ≡ card_word card
    by true e rest =
        let here : Some c ≡ Some card = sym (ap (λ b. cond b (Some c) (find (λ d. same word (card_word d)) all)) e) ∙ is in
        let one : c ≡ card = cc in
        same_text word (card_word c) (sym e) ∙ ap card_word one
    by false e rest = rest (sym (ap (λ b. cond b (Some c) (find (λ d. same word (card_word d)) all)) e) ∙ is)

-- the first word of a card that is known
pub card_first : (line : LogicalLine) (card : Card) → card_of line ≡ Some card → first_word line.words ≡ card_word card
card_first line card is = found_word (first_word line.words) known_cards card is

pub card_begins : (other : List ℕ) (line : LogicalLine) (card : Card) → card_of line ≡ Some card → begins other line ≡ same (card_word card) other
card_begins other line card is = ap (λ word. same word other) (card_first line card is)

dotted : (card : Card) → (slice_index (card_word card) 0 == 46) ≡ true
dotted Model = refl
dotted Inputs = refl
dotted Outputs = refl
dotted Names = refl
dotted Latch = refl
dotted Subckt = refl
dotted Clock = refl
dotted End = refl

pub known_is_card : (line : LogicalLine) (card : Card) → card_of line ≡ Some card → is_card line ≡ true
known_is_card line card is = ap (λ word. slice_index word 0 == 46) (card_first line card is) ∙ dotted card

first_letter-append : (rows : List LogicalLine) (row : LogicalLine) → first_letter (rows ++ row ∷ []) ≡ letter_after (first_letter rows) (last_letter row.words)
first_letter-append [] row = refl
first_letter-append (r ∷ rows) row = refl

with_letter-if : (b : Bool) (width : ℕ) (first : Option ℕ) (letter : ℕ)
    → with_letter (if b then Some (record { width = width; letter = first }) else None) letter ≡ (if b then Some (record { width = width; letter = letter_after first letter }) else None)
with_letter-if true width first letter = refl
with_letter-if false width first letter = refl

-- a row is one more row of the open table
open_rows-row : (before : List LogicalLine) (line : LogicalLine) → is_card line ≡ false → open_rows (line ∷ before) ≡ open_rows before ++ line ∷ []
open_rows-row before line row =
    ap reverse (take_while-cons is_row line before ∙ ap (λ b. cond (not b) (line ∷ take_while is_row before) []) row) ∙ reverse-cons line (take_while is_row before)

card_after_row : (before : List LogicalLine) (line : LogicalLine) → is_card line ≡ false → find is_card (line ∷ before) ≡ find is_card before
card_after_row before line row = ap (λ b. cond b (Some line) (find is_card before)) row

model_after_row : (before : List LogicalLine) (line : LogicalLine) → is_card line ≡ false → is_model_open (line ∷ before) ≡ is_model_open before
model_after_row before line row =
    let model : begins model_card line ≡ false = no_dot (first_word line.words) (codes "model") row in
    let end : begins end_card line ≡ false = no_dot (first_word line.words) (codes "end") row in
    ap (λ b. same (first_word (words_of (cond (b || begins end_card line) (Some line) (find (λ l. begins model_card l || begins end_card l) before)))) model_card) model
    ∙ ap (λ b. same (first_word (words_of (cond (false || b) (Some line) (find (λ l. begins model_card l || begins end_card l) before)))) model_card) end

table_after_row : (before : List LogicalLine) (line : LogicalLine) → is_card line ≡ false → open_table (line ∷ before) ≡ with_letter (open_table before) (last_letter line.words)
table_after_row before line row =
    ap (λ card. if same (first_word (words_of card)) names_card then Some (record { width = length (table_inputs (words_of card)); letter = first_letter (open_rows (line ∷ before)) }) else None) (card_after_row before line row)
    ∙ ap (λ letter. if is_table_open before then Some (record { width = open_width before; letter = letter }) else None) (ap first_letter (open_rows-row before line row) ∙ first_letter-append (open_rows before) line)
    ∙ sym (with_letter-if (is_table_open before) (open_width before) (first_letter (open_rows before)) (last_letter line.words))

-- the context after a row
pub context_after_row : (before : List LogicalLine) (line : LogicalLine) → is_card line ≡ false
    → context_of (line ∷ before) ≡ record { model = is_model_open before; table = with_letter (open_table before) (last_letter line.words) }
context_after_row before line row = λ i. record { model = model_after_row before line row i; table = table_after_row before line row i }

-- whether a model is open after a card, and the table that the card opens
abbrev pub opens : Card → Bool → Bool
opens Model open_model = true
opens End open_model = false
opens _ open_model = open_model

abbrev pub opened : Card → LogicalLine → Option OpenTable
opened Names line = Some (record { width = length (table_inputs line.words); letter = None })
opened _ line = None

model_after_card : (before : List LogicalLine) (line : LogicalLine) (card : Card) → card_of line ≡ Some card → is_model_open (line ∷ before) ≡ opens card (is_model_open before)
model_after_card before line card is =
    ap (λ b. same (first_word (words_of (cond (b || begins end_card line) (Some line) (find (λ l. begins model_card l || begins end_card l) before)))) model_card) (card_begins model_card line card is)
    ∙ ap (λ b. same (first_word (words_of (cond (same (card_word card) model_card || b) (Some line) (find (λ l. begins model_card l || begins end_card l) before)))) model_card) (card_begins end_card line card is)
    ∙ by card (card_begins model_card line card is)
  where
    by : (c : Card) → begins model_card line ≡ same (card_word c) model_card
        → same (first_word (words_of (cond (same (card_word c) model_card || same (card_word c) end_card) (Some line) (find (λ l. begins model_card l || begins end_card l) before)))) model_card ≡ opens c (is_model_open before)
    by Model e = e
    by Inputs e = refl
    by Outputs e = refl
    by Names e = refl
    by Latch e = refl
    by Subckt e = refl
    by Clock e = refl
    by End e = e

-- no row stands behind a card yet
open_rows-card : (before : List LogicalLine) (line : LogicalLine) → is_card line ≡ true → open_rows (line ∷ before) ≡ []
open_rows-card before line card = ap reverse (take_while-cons is_row line before ∙ ap (λ b. cond (not b) (line ∷ take_while is_row before) []) card)

table_after_card : (before : List LogicalLine) (line : LogicalLine) (card : Card) → card_of line ≡ Some card → open_table (line ∷ before) ≡ opened card line
table_after_card before line card is =
    let dot = known_is_card line card is in
    ap (λ b. if same (first_word (words_of (cond b (Some line) (find is_card before)))) names_card
    then Some (record { width = length (table_inputs (words_of (cond b (Some line) (find is_card before)))); letter = first_letter (open_rows (line ∷ before)) }) else None) dot
    ∙ ap (λ rows. if begins names_card line then Some (record { width = length (table_inputs line.words); letter = first_letter rows }) else None) (open_rows-card before line dot)
    ∙ ap (λ b. if b then Some (record { width = length (table_inputs line.words); letter = None }) else None) (card_begins names_card line card is)
    ∙ by card
  where
    by : (c : Card) → (if same (card_word c) names_card then Some (record { width = length (table_inputs line.words); letter = None }) else None) ≡ opened c line
    by Model = refl
    by Inputs = refl
    by Outputs = refl
    by Names = refl
    by Latch = refl
    by Subckt = refl
    by Clock = refl
    by End = refl

-- the context after a card that is known
pub context_after_card : (before : List LogicalLine) (line : LogicalLine) (card : Card) → card_of line ≡ Some card
    → context_of (line ∷ before) ≡ record { model = opens card (is_model_open before); table = opened card line }
context_after_card before line card is = λ i. record { model = model_after_card before line card is i; table = table_after_card before line card is i }
