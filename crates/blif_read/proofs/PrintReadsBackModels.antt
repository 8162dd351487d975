-- The model of printed lines is the model that was printed, in all but lines.
use Rattle.std.proofs.Common.{◌≡◌, ℕ, Bool, true, false, if◌then◌else◌, List, [], ◌∷◌, ◌++◌, drop, map, filter, refl, ap, sym, ◌∙◌, append_assoc, append-nil}
use Rattle.std.specs.List.{AllByRecursion, flat_map, filter_map, cons_option, take_while}
use Rattle.std.proofs.lemmas.List.Elements.{filter-append, recursion_from_All}
use Rattle.dom_base.proofs.Lists.{AllByRecursion-append, filter_all, take_while-keep, take_while-stop}
use Rattle.blif_ast.specs.declared.letter.Letter.{Letter}
use Rattle.blif_ast.specs.declared.latch.Latch.{Latch}
use Rattle.blif_ast.specs.TableData.{TableData}
use Rattle.blif_ast.specs.InstanceData.{InstanceData}
use Rattle.blif_ast.specs.BlifModelData.{BlifModelData}
use Rattle.blif_ast.specs.Good.{IsGoodTable, IsGoodLatch, IsGoodInstance, IsGoodModel}
use Rattle.blif_ast.specs.Printed.{ports_card, names_words, row_words, model_lines}
use Rattle.blif_ast.specs.LogicalLines.{LogicalLine}
use Rattle.blif_ast.specs.Cards.{same, begins, is_row, model_card, inputs_card, outputs_card, names_card, latch_card, subckt_card}
use Rattle.blif_ast.specs.Models.{table_of, tables_of, names_on, latch_of, latches_of, instance_of, instances_of, blif_model, models_of}
use Rattle.blif_read.specs.ReadsBack.{table_unlined, latch_unlined, instance_unlined, model_unlined}
use Rattle.blif_read.proofs.PrintReadsBackLines.{line_at}
use Rattle.blif_read.proofs.PrintReadsBackParts.{inner_lines, tables_lines, latches_lines, instances_lines, ports_all, rows_all, tables_all, latches_all, instances_all, by_rows}
use Rattle.blif_read.proofs.PrintReadsBackData.{zeros, zeros-append, zeros_all, models_printed}
use Rattle.blif_read.proofs.PrintReadsBackCards.{table_back, latch_back, instance_back}

-- lines that begin with this card
abbrev of_card : List ℕ → List (List (List ℕ)) → List LogicalLine
of_card card all = filter (begins card) (zeros all)

of_card-append : (card : List ℕ) (xs ys : List (List (List ℕ))) → of_card card (xs ++ ys) ≡ of_card card xs ++ of_card card ys
of_card-append card xs ys = ap (filter (begins card)) (zeros-append xs ys) ∙ filter-append (begins card) (zeros xs) (zeros ys)

abbrev IsOther : List ℕ → List (List ℕ) → Type 0
IsOther card words = begins card (line_at 0 words) ≡ false

of_card-none : (card : List ℕ) (xs : List (List (List ℕ))) → AllByRecursion (IsOther card) xs → of_card card xs ≡ []
of_card-none card [] h = refl
of_card-none card (x ∷ xs) h = ap (λ t. if t then line_at 0 x ∷ of_card card xs else of_card card xs) h.0 ∙ of_card-none card xs h.1

inner_of_card : (card : List ℕ) (m : BlifModelData) (inputs outputs tables latches instances : List LogicalLine)
    → of_card card (ports_card inputs_card m.inputs) ≡ inputs → of_card card (ports_card outputs_card m.outputs) ≡ outputs
    → of_card card (tables_lines m.tables) ≡ tables → of_card card (latches_lines m.latches) ≡ latches → of_card card (instances_lines m.instances) ≡ instances
    → of_card card (inner_lines m) ≡ inputs ++ (outputs ++ (tables ++ (latches ++ instances)))
inner_of_card card m inputs outputs tables latches instances i o t l s =
    let latch = latches_lines m.latches in
    let instance = instances_lines m.instances in
    let table = tables_lines m.tables in
    let output = ports_card outputs_card m.outputs in
    let input = ports_card inputs_card m.inputs in
    of_card-append card input (output ++ (table ++ (latch ++ instance)))
    ∙ ap (λ x. of_card card input ++ x) (of_card-append card output (table ++ (latch ++ instance)))
    ∙ ap (λ x. of_card card input ++ (of_card card output ++ x)) (of_card-append card table (latch ++ instance))
    ∙ ap (λ x. of_card card input ++ (of_card card output ++ (of_card card table ++ x))) (of_card-append card latch instance)
    ∙ (λ k. i k ++ (o k ++ (t k ++ (l k ++ s k))))

no_ports : (card other : List ℕ) → same other card ≡ false → (names : List (List ℕ)) → of_card card (ports_card other names) ≡ []
no_ports card other h names = of_card-none card (ports_card other names) (ports_all (IsOther card) other (λ _. h) names)

no_tables : (card : List ℕ) → same names_card card ≡ false → ((on : Bool) (row : List Letter) → IsOther card (row_words on row)) → (tables : List TableData) → of_card card (tables_lines tables) ≡ []
no_tables card h r tables = of_card-none card (tables_lines tables) (tables_all (IsOther card) (λ _. h) r tables)

no_latches : (card : List ℕ) → same latch_card card ≡ false → (latches : List Latch) → of_card card (latches_lines latches) ≡ []
no_latches card h latches = of_card-none card (latches_lines latches) (latches_all (IsOther card) (λ _. h) latches)

no_instances : (card : List ℕ) → same subckt_card card ≡ false → (instances : List InstanceData) → of_card card (instances_lines instances) ≡ []
no_instances card h instances = of_card-none card (instances_lines instances) (instances_all (IsOther card) (λ _. h) instances)

port_names : (card : List ℕ) → same card card ≡ true → (names : List (List ℕ)) → flat_map (λ (line : LogicalLine). drop 1 line.words) (of_card card (ports_card card names)) ≡ names
port_names card h [] = refl
port_names card h (name ∷ names) =
    ap (λ t. flat_map (λ (line : LogicalLine). drop 1 line.words) (if t then line_at 0 (card ∷ name ∷ names) ∷ [] else [])) h ∙ append-nil (name ∷ names)

inputs_back : (m : BlifModelData) → names_on inputs_card (zeros (inner_lines m)) ≡ m.inputs
inputs_back m =
    let own = of_card inputs_card (ports_card inputs_card m.inputs) in
    ap (flat_map (λ (line : LogicalLine). drop 1 line.words))
    (inner_of_card inputs_card m own [] [] [] [] refl (no_ports inputs_card outputs_card refl m.outputs)
    (no_tables inputs_card refl (by_rows (IsOther inputs_card) (λ _ _. refl) (λ _ _. refl) (λ _ _. refl)) m.tables)
    (no_latches inputs_card refl m.latches) (no_instances inputs_card refl m.instances) ∙ append-nil own)
    ∙ port_names inputs_card refl m.inputs

outputs_back : (m : BlifModelData) → names_on outputs_card (zeros (inner_lines m)) ≡ m.outputs
outputs_back m =
    let own = of_card outputs_card (ports_card outputs_card m.outputs) in
    ap (flat_map (λ (line : LogicalLine). drop 1 line.words))
    (inner_of_card outputs_card m [] own [] [] [] (no_ports outputs_card inputs_card refl m.inputs) refl
    (no_tables outputs_card refl (by_rows (IsOther outputs_card) (λ _ _. refl) (λ _ _. refl) (λ _ _. refl)) m.tables)
    (no_latches outputs_card refl m.latches) (no_instances outputs_card refl m.instances) ∙ append-nil own)
    ∙ port_names outputs_card refl m.outputs

latches_read : (latches : List Latch) → AllByRecursion IsGoodLatch latches → filter_map (λ (line : LogicalLine). latch_of line.number line.words) (zeros (latches_lines latches)) ≡ map latch_unlined latches
latches_read [] h = refl
latches_read (l ∷ latches) h =
    ap (λ o. cons_option o (filter_map (λ (line : LogicalLine). latch_of line.number line.words) (zeros (latches_lines latches)))) (latch_back l h.0)
    ∙ ap (λ ls. latch_unlined l ∷ ls) (latches_read latches h.1)

latches_back : (m : BlifModelData) → IsGoodModel m → latches_of (zeros (inner_lines m)) ≡ map latch_unlined m.latches
latches_back m h =
    let own = zeros (latches_lines m.latches) in
    let all : of_card latch_card (latches_lines m.latches) ≡ own =
    filter_all (begins latch_card) own (zeros_all (λ l. begins latch_card l ≡ true) (latches_lines m.latches) (latches_all (λ w. begins latch_card (line_at 0 w) ≡ true) (λ _. refl) m.latches)) in
    ap (filter_map (λ (line : LogicalLine). latch_of line.number line.words))
    (inner_of_card latch_card m [] [] [] own [] (no_ports latch_card inputs_card refl m.inputs) (no_ports latch_card outputs_card refl m.outputs)
    (no_tables latch_card refl (by_rows (IsOther latch_card) (λ _ _. refl) (λ _ _. refl) (λ _ _. refl)) m.tables)
    all (no_instances latch_card refl m.instances) ∙ append-nil own)
    ∙ latches_read m.latches (recursion_from_All IsGoodLatch m.latches h.latches)

instances_read : (instances : List InstanceData) → AllByRecursion IsGoodInstance instances → map instance_of (zeros (instances_lines instances)) ≡ map instance_unlined instances
instances_read [] h = refl
instances_read (i ∷ instances) h =
    ap (λ o. o ∷ map instance_of (zeros (instances_lines instances))) (instance_back i h.0) ∙ ap (λ l. instance_unlined i ∷ l) (instances_read instances h.1)

instances_back : (m : BlifModelData) → IsGoodModel m → instances_of (zeros (inner_lines m)) ≡ map instance_unlined m.instances
instances_back m h =
    let own = zeros (instances_lines m.instances) in
    let all : of_card subckt_card (instances_lines m.instances) ≡ own =
    filter_all (begins subckt_card) own (zeros_all (λ l. begins subckt_card l ≡ true) (instances_lines m.instances) (instances_all (λ w. begins subckt_card (line_at 0 w) ≡ true) (λ _. refl) m.instances)) in
    ap (map instance_of)
    (inner_of_card subckt_card m [] [] [] [] own (no_ports subckt_card inputs_card refl m.inputs) (no_ports subckt_card outputs_card refl m.outputs)
    (no_tables subckt_card refl (by_rows (IsOther subckt_card) (λ _ _. refl) (λ _ _. refl) (λ _ _. refl)) m.tables)
    (no_latches subckt_card refl m.latches) all)
    ∙ instances_read m.instances (recursion_from_All IsGoodInstance m.instances h.instances)

-- lines the first of which is no row
abbrev StartsNoRow : List LogicalLine → Type 0
StartsNoRow [] = Unit {0}
StartsNoRow (line ∷ more) = is_row line ≡ false

take_rows : (front rest : List LogicalLine) → AllByRecursion (λ l. is_row l ≡ true) front → StartsNoRow rest → take_while is_row (front ++ rest) ≡ front
take_rows [] [] h s = refl
take_rows [] (line ∷ rest) h s = take_while-stop is_row line rest s
take_rows (x ∷ front) rest h s = take_while-keep is_row x (front ++ rest) h.0 ∙ ap (λ l. x ∷ l) (take_rows front rest h.1 s)

tables_of-skip : (front rest : List LogicalLine) → AllByRecursion (λ l. begins names_card l ≡ false) front → tables_of (front ++ rest) ≡ tables_of rest
tables_of-skip [] rest h = refl
tables_of-skip (line ∷ front) rest h =
    ap (λ b. if b then table_of line (take_while is_row (front ++ rest)) ∷ tables_of (front ++ rest) else tables_of (front ++ rest)) h.0
    ∙ tables_of-skip front rest h.1

tables_start : (tables : List TableData) (rest : List LogicalLine) → StartsNoRow rest → StartsNoRow (zeros (tables_lines tables) ++ rest)
tables_start [] rest h = h
tables_start (t ∷ tables) rest h = refl

tables_read : (tables : List TableData) → AllByRecursion IsGoodTable tables → (rest : List LogicalLine) → StartsNoRow rest → tables_of rest ≡ []
    → tables_of (zeros (tables_lines tables) ++ rest) ≡ map table_unlined tables
tables_read [] h rest s none = none
tables_read (t ∷ tables) h rest s none =
    let head = line_at 0 (names_words t) in
    let words = map (row_words t.on) t.rows in
    let rows = zeros words in
    let more = zeros (tables_lines tables) ++ rest in
    ap (λ l. tables_of (head ∷ (l ++ rest))) (zeros-append words (tables_lines tables))
    ∙ ap (λ l. tables_of (head ∷ l)) (append_assoc rows (zeros (tables_lines tables)) rest)
    ∙ ap (λ l. table_of head l ∷ tables_of (rows ++ more))
    (take_rows rows more (zeros_all (λ l. is_row l ≡ true) words (rows_all (λ w. is_row (line_at 0 w) ≡ true) (by_rows (λ w. is_row (line_at 0 w) ≡ true) (λ _ _. refl) (λ _ _. refl) (λ _ _. refl)) t.on t.rows))
    (tables_start tables rest s))
    ∙ ap (λ l. l ∷ tables_of (rows ++ more)) (table_back t h.0)
    ∙ ap (λ l. table_unlined t ∷ l)
    (tables_of-skip rows more (zeros_all (λ l. begins names_card l ≡ false) words (rows_all (IsOther names_card) (by_rows (IsOther names_card) (λ _ _. refl) (λ _ _. refl) (λ _ _. refl)) t.on t.rows)))
    ∙ ap (λ l. table_unlined t ∷ l) (tables_read tables h.1 rest s none)

last_start : (latches : List Latch) (instances : List InstanceData) → StartsNoRow (zeros (latches_lines latches ++ instances_lines instances))
last_start [] [] = tt
last_start [] (i ∷ instances) = refl
last_start (l ∷ latches) instances = refl

no_names : (xs : List (List (List ℕ))) → AllByRecursion (IsOther names_card) xs → AllByRecursion (λ l. begins names_card l ≡ false) (zeros xs)
no_names xs h = zeros_all (λ l. begins names_card l ≡ false) xs h

tables_back : (m : BlifModelData) → IsGoodModel m → tables_of (zeros (inner_lines m)) ≡ map table_unlined m.tables
tables_back m h =
    let last = latches_lines m.latches ++ instances_lines m.instances in
    let table = tables_lines m.tables in
    let output = ports_card outputs_card m.outputs in
    let input = ports_card inputs_card m.inputs in
    let last_none : AllByRecursion (IsOther names_card) last =
    AllByRecursion-append (IsOther names_card) (latches_lines m.latches) (instances_lines m.instances) (latches_all (IsOther names_card) (λ _. refl) m.latches) (instances_all (IsOther names_card) (λ _. refl) m.instances) in
    ap tables_of (zeros-append input (output ++ (table ++ last)))
    ∙ tables_of-skip (zeros input) (zeros (output ++ (table ++ last))) (no_names input (ports_all (IsOther names_card) inputs_card (λ _. refl) m.inputs))
    ∙ ap tables_of (zeros-append output (table ++ last))
    ∙ tables_of-skip (zeros output) (zeros (table ++ last)) (no_names output (ports_all (IsOther names_card) outputs_card (λ _. refl) m.outputs))
    ∙ ap tables_of (zeros-append table last)
    ∙ tables_read m.tables (recursion_from_All IsGoodTable m.tables h.tables) (zeros last) (last_start m.latches m.instances)
    (ap tables_of (append_nil_back (zeros last)) ∙ tables_of-skip (zeros last) [] (no_names last last_none))
  where
    append_nil_back : (xs : List LogicalLine) → xs ≡ xs ++ []
    append_nil_back xs = sym (append-nil xs)

-- the model of printed lines
pub model_back : (m : BlifModelData) → IsGoodModel m → blif_model (line_at 0 (model_card ∷ m.name ∷ [])) (zeros (inner_lines m)) ≡ model_unlined m
model_back m h =
    let inputs = inputs_back m in
    let outputs = outputs_back m in
    let tables = tables_back m h in
    let latches = latches_back m h in
    let instances = instances_back m h in
    λ k. record { name = m.name; inputs = inputs k; outputs = outputs k; tables = tables k; latches = latches k; instances = instances k; line = 0 }

models_read : (models : List BlifModelData) → AllByRecursion IsGoodModel models → map (λ (m : BlifModelData). blif_model (line_at 0 (model_card ∷ m.name ∷ [])) (zeros (inner_lines m))) models ≡ map model_unlined models
models_read [] h = refl
models_read (m ∷ models) h =
    ap (λ x. x ∷ map (λ (n : BlifModelData). blif_model (line_at 0 (model_card ∷ n.name ∷ [])) (zeros (inner_lines n))) models) (model_back m h.0)
    ∙ ap (λ l. model_unlined m ∷ l) (models_read models h.1)

-- the models of printed lines
pub models_back : (models : List BlifModelData) → AllByRecursion IsGoodModel models → models_of (zeros (flat_map model_lines models)) ≡ map model_unlined models
models_back models h = models_printed models ∙ models_read models h
