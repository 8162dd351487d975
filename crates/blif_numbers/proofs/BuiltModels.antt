-- The models that the reader makes are those of the text.
use Rattle.std.proofs.Common.{◌≡◌, ℕ, Bool, true, false, cond, List, [], ◌∷◌, ◌++◌, map, drop, refl, sym, ap, ◌∙◌, Some, None}
use Rattle.std.specs.Prelude.{Option, ◌||◌, not, if◌then◌else◌, codes, filter}
use Rattle.std.specs.List.{flat_map, filter_map, cons_option, take_while}
use Rattle.std.specs.Option.{option_to_list}
use Rattle.std.proofs.lemmas.List.{append_assoc, append-nil}
use Rattle.std.proofs.lemmas.List.Sums.{take_while-cons}
use Rattle.dom_base.specs.Lines.{first_word}
use Rattle.blif_ast.specs.declared.letter.Letter.{Letter}
use Rattle.blif_ast.specs.declared.card.Card.{Card}
use Rattle.blif_ast.specs.declared.card.Card.TheVariants.{Model, Inputs, Outputs, Names, Latch, Subckt, Clock, End}
use Rattle.blif_ast.specs.TableData.{TableData}
use Rattle.blif_ast.specs.BlifModelData.{BlifModelData}
use Rattle.blif_ast.specs.LogicalLines.{LogicalLine}
use Rattle.blif_ast.specs.Cards.{same, begins, card_of, card_word, is_card, is_row, last_letter, model_card, end_card, inputs_card, outputs_card, names_card, latch_card, subckt_card}
use Rattle.blif_ast.specs.Models.{row_letters, latch_of, instance_of, names_on, tables_of, table_of, latches_of, instances_of, models_of, blif_model, is_inside, rows_are_on}
use Rattle.blif_numbers.specs.Build.{Built, on_after, table_with_row, model_with_table, model_with_card, new_table, closed_models, model_after_card, table_after_card, built_by, built_after, rows_on, table_with_rows, tables_from, model_with_lines, models_from, finished}
use Rattle.blif_numbers.proofs.LineContexts.{no_dot, card_begins, known_is_card}

-- one line more in front of the lines that are left

names_on-line : (card : List ℕ) (line : LogicalLine) (body : List LogicalLine) → (if begins card line then drop 1 line.words else []) ++ names_on card body ≡ names_on card (line ∷ body)
names_on-line card line body =
    elim (begins card line) as (λ b. (if b then drop 1 line.words else []) ++ names_on card body ≡ flat_map (λ l. drop 1 l.words) (cond b (line ∷ filter (begins card) body) (filter (begins card) body))) [ true ↦ refl | false ↦ refl ]

cons_option-list : {X : Type 0} (o : Option X) (xs : List X) → option_to_list o ++ xs ≡ cons_option o xs
cons_option-list None xs = refl
cons_option-list (Some x) xs = refl

latches_of-line : (line : LogicalLine) (body : List LogicalLine) → (if begins latch_card line then option_to_list (latch_of line.number line.words) else []) ++ latches_of body ≡ latches_of (line ∷ body)
latches_of-line line body =
    elim (begins latch_card line) as (λ b. (if b then option_to_list (latch_of line.number line.words) else []) ++ latches_of body
    ≡ filter_map (λ l. latch_of l.number l.words) (cond b (line ∷ filter (begins latch_card) body) (filter (begins latch_card) body)))
    [ true ↦ cons_option-list (latch_of line.number line.words) (latches_of body) | false ↦ refl ]

instances_of-line : (line : LogicalLine) (body : List LogicalLine) → (if begins subckt_card line then instance_of line ∷ [] else []) ++ instances_of body ≡ instances_of (line ∷ body)
instances_of-line line body =
    elim (begins subckt_card line) as (λ b. (if b then instance_of line ∷ [] else []) ++ instances_of body
    ≡ map instance_of (cond b (line ∷ filter (begins subckt_card) body) (filter (begins subckt_card) body))) [ true ↦ refl | false ↦ refl ]

rows_on-none : (rows : List (List Letter)) (on : Bool) → rows_on rows on [] ≡ on
rows_on-none [] on = refl
rows_on-none (row ∷ rows) on = refl

rows_on-new : (rows : List LogicalLine) → rows_on [] true rows ≡ rows_are_on rows
rows_on-new [] = refl
rows_on-new (row ∷ rows) = refl

rows_on-row : (rows : List (List Letter)) (on : Bool) (line : LogicalLine) (more : List LogicalLine)
    → rows_on (rows ++ row_letters line.words ∷ []) (on_after rows on (last_letter line.words)) more ≡ rows_on rows on (line ∷ more)
rows_on-row [] on line more = refl
rows_on-row (row ∷ rows) on line more = refl

-- a table without more rows
table_with_rows-none : (t : TableData) → table_with_rows t [] ≡ t
table_with_rows-none t = λ i. record { inputs = t.inputs; output = t.output; on = rows_on-none t.rows t.on i; rows = append-nil t.rows i; line = t.line }

-- a table with a row and more rows
table_with_rows-row : (t : TableData) (line : LogicalLine) (more : List LogicalLine)
    → table_with_rows (record { inputs = t.inputs; output = t.output; on = on_after t.rows t.on (last_letter line.words); rows = t.rows ++ row_letters line.words ∷ []; line = t.line }) more
    ≡ table_with_rows t (line ∷ more)
table_with_rows-row t line more = λ i. record {
  inputs = t.inputs;
  output = t.output;
  on = rows_on-row t.rows t.on line more i;
  rows = append_assoc t.rows (row_letters line.words ∷ []) (map (λ row. row_letters row.words) more) i;
  line = t.line;
}

table_with_rows-new : (line : LogicalLine) (rows : List LogicalLine) → table_with_rows (new_table line) rows ≡ table_of line rows
table_with_rows-new line rows = λ i. record {
  inputs = (table_of line rows).inputs;
  output = (table_of line rows).output;
  on = rows_on-new rows i;
  rows = (table_of line rows).rows;
  line = line.number;
}

tables_from-none : (table : Option TableData) → tables_from table [] ≡ option_to_list table
tables_from-none None = refl
tables_from-none (Some t) = ap (λ x. x ∷ []) (table_with_rows-none t)

-- a model without more lines
model_with_lines-none : (m : BlifModelData) (table : Option TableData) → model_with_lines m table [] ≡ model_with_table m table
model_with_lines-none m table = λ i. record {
  name = m.name;
  inputs = append-nil m.inputs i;
  outputs = append-nil m.outputs i;
  tables = m.tables ++ tables_from-none table i;
  latches = append-nil m.latches i;
  instances = append-nil m.instances i;
  line = m.line;
}

take_rows : (line : LogicalLine) (body : List LogicalLine) (b : Bool) → is_card line ≡ b → take_while is_row (line ∷ body) ≡ cond (not b) (line ∷ take_while is_row body) []
take_rows line body b is = take_while-cons is_row line body ∙ ap (λ c. cond (not c) (line ∷ take_while is_row body) []) is

-- a card `.names` opens a table
opened-card : (line : LogicalLine) (body : List LogicalLine) → tables_from (if begins names_card line then Some (new_table line) else None) body ≡ tables_of (line ∷ body)
opened-card line body =
    elim (begins names_card line) as (λ b. tables_from (if b then Some (new_table line) else None) body ≡ cond b (table_of line (take_while is_row body) ∷ tables_of body) (tables_of body))
    [ true ↦ ap (λ t. t ∷ tables_of body) (table_with_rows-new line (take_while is_row body)) | false ↦ refl ]

-- a card closes the table and may open one
tables_from-card : (table : Option TableData) (line : LogicalLine) (body : List LogicalLine) → is_card line ≡ true
    → option_to_list table ++ tables_from (if begins names_card line then Some (new_table line) else None) body ≡ tables_from table (line ∷ body)
tables_from-card None line body card = opened-card line body
tables_from-card (Some t) line body card =
    ap (λ ts. t ∷ ts) (opened-card line body)
    ∙ ap (λ x. x ∷ tables_of (line ∷ body)) (sym (ap (table_with_rows t) (take_rows line body true card) ∙ table_with_rows-none t))

join_parts : {X : Type 0} (a b c d : List X) → b ++ c ≡ d → a ++ b ++ c ≡ a ++ d
join_parts a b c d is = append_assoc a b c ∙ ap (λ l. a ++ l) is

-- a model with the parts of a line, by four tests of its first word
abbrev with_parts : BlifModelData → LogicalLine → (inputs outputs latch subckt : Bool) → BlifModelData
with_parts m line inputs outputs latch subckt = record m {
  inputs = m.inputs ++ (if inputs then drop 1 line.words else []);
  outputs = m.outputs ++ (if outputs then drop 1 line.words else []);
  latches = m.latches ++ (if latch then option_to_list (latch_of line.number line.words) else []);
  instances = m.instances ++ (if subckt then instance_of line ∷ [] else []);
}

with_parts-none : (m : BlifModelData) (line : LogicalLine) → m ≡ with_parts m line false false false false
with_parts-none m line = λ i. record m {
  inputs = sym (append-nil m.inputs) i;
  outputs = sym (append-nil m.outputs) i;
  latches = sym (append-nil m.latches) i;
  instances = sym (append-nil m.instances) i;
}

model_with_card-parts : (m : BlifModelData) (card : Card) (line : LogicalLine) → model_with_card m card line
    ≡ with_parts m line (same (card_word card) inputs_card) (same (card_word card) outputs_card) (same (card_word card) latch_card) (same (card_word card) subckt_card)
model_with_card-parts m Model line = with_parts-none m line
model_with_card-parts m Inputs line = λ i. record m { inputs = m.inputs ++ drop 1 line.words; outputs = sym (append-nil m.outputs) i; latches = sym (append-nil m.latches) i; instances = sym (append-nil m.instances) i }
model_with_card-parts m Outputs line = λ i. record m { inputs = sym (append-nil m.inputs) i; outputs = m.outputs ++ drop 1 line.words; latches = sym (append-nil m.latches) i; instances = sym (append-nil m.instances) i }
model_with_card-parts m Names line = with_parts-none m line
model_with_card-parts m Latch line = λ i. record m {
  inputs = sym (append-nil m.inputs) i;
  outputs = sym (append-nil m.outputs) i;
  latches = m.latches ++ option_to_list (latch_of line.number line.words);
  instances = sym (append-nil m.instances) i;
}
model_with_card-parts m Subckt line = λ i. record m { inputs = sym (append-nil m.inputs) i; outputs = sym (append-nil m.outputs) i; latches = sym (append-nil m.latches) i; instances = m.instances ++ instance_of line ∷ [] }
model_with_card-parts m Clock line = with_parts-none m line
model_with_card-parts m End line = with_parts-none m line

with_parts-line : (m : BlifModelData) (card : Card) (line : LogicalLine) → card_of line ≡ Some card → model_with_card m card line
    ≡ with_parts m line (begins inputs_card line) (begins outputs_card line) (begins latch_card line) (begins subckt_card line)
with_parts-line m card line is =
    model_with_card-parts m card line
    ∙ (λ i. with_parts m line (sym (card_begins inputs_card line card is) i) (sym (card_begins outputs_card line card is) i) (sym (card_begins latch_card line card is) i) (sym (card_begins subckt_card line card is) i))

table_after-line : (card : Card) (line : LogicalLine) → card_of line ≡ Some card → table_after_card card line ≡ (if begins names_card line then Some (new_table line) else None)
table_after-line card line is = by card ∙ ap (λ b. if b then Some (new_table line) else None) (sym (card_begins names_card line card is))
  where
    by : (c : Card) → table_after_card c line ≡ (if same (card_word c) names_card then Some (new_table line) else None)
    by Model = refl
    by Inputs = refl
    by Outputs = refl
    by Names = refl
    by Latch = refl
    by Subckt = refl
    by Clock = refl
    by End = refl

with_parts-lines : (m : BlifModelData) (table : Option TableData) (line : LogicalLine) (body : List LogicalLine) → is_card line ≡ true
    → model_with_lines (with_parts (model_with_table m table) line (begins inputs_card line) (begins outputs_card line) (begins latch_card line) (begins subckt_card line))
    (if begins names_card line then Some (new_table line) else None) body ≡ model_with_lines m table (line ∷ body)
with_parts-lines m table line body card = λ i. record {
  name = m.name;
  inputs = join_parts m.inputs (if begins inputs_card line then drop 1 line.words else []) (names_on inputs_card body) (names_on inputs_card (line ∷ body)) (names_on-line inputs_card line body) i;
  outputs = join_parts m.outputs (if begins outputs_card line then drop 1 line.words else []) (names_on outputs_card body) (names_on outputs_card (line ∷ body)) (names_on-line outputs_card line body) i;
  tables = join_parts m.tables (option_to_list table) (tables_from (if begins names_card line then Some (new_table line) else None) body) (tables_from table (line ∷ body)) (tables_from-card table line body card) i;
  latches = join_parts m.latches (if begins latch_card line then option_to_list (latch_of line.number line.words) else []) (latches_of body) (latches_of (line ∷ body)) (latches_of-line line body) i;
  instances = join_parts m.instances (if begins subckt_card line then instance_of line ∷ [] else []) (instances_of body) (instances_of (line ∷ body)) (instances_of-line line body) i;
  line = m.line;
}

model_with_lines-card : (m : BlifModelData) (table : Option TableData) (card : Card) (line : LogicalLine) (body : List LogicalLine) → card_of line ≡ Some card
    → model_with_lines (model_with_card (model_with_table m table) card line) (table_after_card card line) body ≡ model_with_lines m table (line ∷ body)
model_with_lines-card m table card line body is =
    ap (λ x. model_with_lines x (table_after_card card line) body) (with_parts-line (model_with_table m table) card line is)
    ∙ ap (λ t. model_with_lines (with_parts (model_with_table m table) line (begins inputs_card line) (begins outputs_card line) (begins latch_card line) (begins subckt_card line)) t body) (table_after-line card line is)
    ∙ with_parts-lines m table line body (known_is_card line card is)

-- a row belongs to the open table alone
names_on-row : (rest : List ℕ) (line : LogicalLine) (body : List LogicalLine) → is_card line ≡ false → names_on (46 ∷ rest) body ≡ names_on (46 ∷ rest) (line ∷ body)
names_on-row rest line body row = sym (ap (λ b. flat_map (λ (l : LogicalLine). drop 1 l.words) (cond b (line ∷ filter (begins (46 ∷ rest)) body) (filter (begins (46 ∷ rest)) body))) (no_dot (first_word line.words) rest row))

tables_of-row : (line : LogicalLine) (body : List LogicalLine) → is_card line ≡ false → tables_of body ≡ tables_of (line ∷ body)
tables_of-row line body row = sym (ap (λ b. cond b (table_of line (take_while is_row body) ∷ tables_of body) (tables_of body)) (no_dot (first_word line.words) (codes "names") row))

tables_from-row : (table : Option TableData) (line : LogicalLine) (body : List LogicalLine) → is_card line ≡ false → tables_from (table_with_row table line.words) body ≡ tables_from table (line ∷ body)
tables_from-row None line body row = tables_of-row line body row
tables_from-row (Some t) line body row =
    ap (λ x. x ∷ tables_of body) (table_with_rows-row t line (take_while is_row body) ∙ ap (table_with_rows t) (sym (take_rows line body false row)))
    ∙ ap (λ ts. table_with_rows t (take_while is_row (line ∷ body)) ∷ ts) (tables_of-row line body row)

model_with_lines-row : (m : BlifModelData) (table : Option TableData) (line : LogicalLine) (body : List LogicalLine) → is_card line ≡ false
    → model_with_lines m (table_with_row table line.words) body ≡ model_with_lines m table (line ∷ body)
model_with_lines-row m table line body row = λ i. record {
  name = m.name;
  inputs = m.inputs ++ names_on-row (codes "inputs") line body row i;
  outputs = m.outputs ++ names_on-row (codes "outputs") line body row i;
  tables = m.tables ++ tables_from-row table line body row i;
  latches = m.latches ++ sym (ap (λ b. filter_map (λ (l : LogicalLine). latch_of l.number l.words) (cond b (line ∷ filter (begins latch_card) body) (filter (begins latch_card) body))) (no_dot (first_word line.words) (codes "latch") row)) i;
  instances = m.instances ++ sym (ap (λ b. map instance_of (cond b (line ∷ filter (begins subckt_card) body) (filter (begins subckt_card) body))) (no_dot (first_word line.words) (codes "subckt") row)) i;
  line = m.line;
}

take_inside : (line : LogicalLine) (more : List LogicalLine) (b : Bool) → is_inside line ≡ b → take_while is_inside (line ∷ more) ≡ cond b (line ∷ take_while is_inside more) []
take_inside line more b is = take_while-cons is_inside line more ∙ ap (λ c. cond c (line ∷ take_while is_inside more) []) is

models_of-line : (line : LogicalLine) (more : List LogicalLine) (b : Bool) → begins model_card line ≡ b → models_of (line ∷ more) ≡ cond b (blif_model line (take_while is_inside more) ∷ models_of more) (models_of more)
models_of-line line more b is = ap (λ c. cond c (blif_model line (take_while is_inside more) ∷ models_of more) (models_of more)) is

inside-false : (line : LogicalLine) → begins model_card line ≡ false → begins end_card line ≡ false → is_inside line ≡ true
inside-false line model end = ap (λ b. not (b || begins end_card line)) model ∙ ap (λ b. not (false || b)) end

models_from-row : (model : Option BlifModelData) (table : Option TableData) (line : LogicalLine) (more : List LogicalLine) → is_card line ≡ false
    → models_from model (table_with_row table line.words) more ≡ models_from model table (line ∷ more)
models_from-row None table line more row = sym (models_of-line line more false (no_dot (first_word line.words) (codes "model") row))
models_from-row (Some m) table line more row =
    let inside = inside-false line (no_dot (first_word line.words) (codes "model") row) (no_dot (first_word line.words) (codes "end") row) in
    ap (λ x. x ∷ models_of more) (model_with_lines-row m table line (take_while is_inside more) row ∙ ap (model_with_lines m table) (sym (take_inside line more true inside)))
    ∙ ap (λ ms. model_with_lines m table (take_while is_inside (line ∷ more)) ∷ ms) (sym (models_of-line line more false (no_dot (first_word line.words) (codes "model") row)))

models_from-card : (model : Option BlifModelData) (table : Option TableData) (card : Card) (line : LogicalLine) (more : List LogicalLine) → card_of line ≡ Some card → begins model_card line ≡ false → begins end_card line ≡ false
    → models_from (model_after_card model table card line) (table_after_card card line) more ≡ models_from model table (line ∷ more)
models_from-card None table card line more is still end = sym (models_of-line line more false still)
models_from-card (Some m) table card line more is still end =
    ap (λ x. x ∷ models_of more) (model_with_lines-card m table card line (take_while is_inside more) is ∙ ap (model_with_lines m table) (sym (take_inside line more true (inside-false line still end))))
    ∙ ap (λ ms. model_with_lines m table (take_while is_inside (line ∷ more)) ∷ ms) (sym (models_of-line line more false still))

-- a line that closes the model
closed-line : (models : List BlifModelData) (model : Option BlifModelData) (table : Option TableData) (line : LogicalLine) (more : List LogicalLine) → is_inside line ≡ false
    → closed_models models model table ++ models_of (line ∷ more) ≡ models ++ models_from model table (line ∷ more)
closed-line models None table line more outside = refl
closed-line models (Some m) table line more outside =
    append_assoc models (model_with_table m table ∷ []) (models_of (line ∷ more))
    ∙ ap (λ x. models ++ x ∷ models_of (line ∷ more)) (sym (ap (model_with_lines m table) (take_inside line more false outside) ∙ model_with_lines-none m table))

-- the built parts after a line, with the lines behind it, are those before it, with it too; the line is a row or a card that is known
pub finished-line : (b : Built) (line : LogicalLine) (more : List LogicalLine) → (card_of line ≡ None → is_card line ≡ false) → finished (built_after b line) more ≡ finished b (line ∷ more)
finished-line b line more row = by (card_of line) refl
  where
    inside : (card : Card) → same (card_word card) model_card ≡ false → same (card_word card) end_card ≡ false → card_of line ≡ Some card
        → b.models ++ models_from (model_after_card b.model b.table card line) (table_after_card card line) more ≡ finished b (line ∷ more)
    inside card model end e = ap (λ ms. b.models ++ ms) (models_from-card b.model b.table card line more e (card_begins model_card line card e ∙ model) (card_begins end_card line card e ∙ end))

    by : (o : Option Card) → card_of line ≡ o → finished (built_by b o line) more ≡ finished b (line ∷ more)
    by None e = ap (λ ms. b.models ++ ms) (models_from-row b.model b.table line more (row e))
    by (Some Model) e =
        let model : begins model_card line ≡ true = card_begins model_card line Model e in
        let outside : is_inside line ≡ false = ap (λ c. not (c || begins end_card line)) model in
        ap (λ ms. closed_models b.models b.model b.table ++ ms) (sym (models_of-line line more true model)) ∙ closed-line b.models b.model b.table line more outside
    by (Some End) e =
        let model : begins model_card line ≡ false = card_begins model_card line End e in
        let end : begins end_card line ≡ true = card_begins end_card line End e in
        let outside : is_inside line ≡ false = ap (λ c. not (c || begins end_card line)) model ∙ ap (λ c. not (false || c)) end in
        ap (λ ms. closed_models b.models b.model b.table ++ ms) (sym (models_of-line line more false model)) ∙ closed-line b.models b.model b.table line more outside
    by (Some Inputs) e = inside Inputs refl refl e
    by (Some Outputs) e = inside Outputs refl refl e
    by (Some Names) e = inside Names refl refl e
    by (Some Latch) e = inside Latch refl refl e
    by (Some Subckt) e = inside Subckt refl refl e
    by (Some Clock) e = inside Clock refl refl e

finished-end : (models : List BlifModelData) (model : Option BlifModelData) (table : Option TableData) → models ++ models_from model table [] ≡ closed_models models model table
finished-end models None table = append-nil models
finished-end models (Some m) table = ap (λ x. models ++ x ∷ []) (model_with_lines-none m table)

-- at the end all models are closed
pub finished-none : (b : Built) → finished b [] ≡ closed_models b.models b.model b.table
finished-none b = finished-end b.models b.model b.table
