-- The models of lines don't depend on the numbers of the lines, but for their own lines.
use Rattle.std.proofs.Common.{◌≡◌, ℕ, ◌+◌, Bool, true, false, List, [], ◌∷◌, drop, map, filter, refl, ap, sym, ◌∙◌}
use Rattle.std.specs.List.{flat_map, filter_map, cons_option, take_while}
use Rattle.dom_base.proofs.Lists.{take_while-keep, take_while-stop}
use Rattle.blif_ast.specs.declared.latch.Latch.{Latch}
use Rattle.blif_ast.specs.LogicalLines.{LogicalLine}
use Rattle.blif_ast.specs.Cards.{begins, is_row, model_card, inputs_card, outputs_card, names_card, latch_card, subckt_card}
use Rattle.blif_ast.specs.Models.{row_letters, rows_are_on, table_of, tables_of, names_on, latch_of, latches_of, instance_of, instances_of, blif_model, is_inside, models_of}
use Rattle.blif_read.specs.ReadsBack.{table_unlined, latch_unlined, instance_unlined, model_unlined}
use Rattle.blif_read.proofs.PrintReadsBackLines.{line_at, numbered}
use Rattle.blif_read.proofs.PrintReadsBackData.{zeros}

-- a line with the number 0
abbrev pub unnumbered : LogicalLine → LogicalLine
unnumbered line = line_at 0 line.words

pub numbered-zeros : (n : ℕ) (all : List (List (List ℕ))) → map unnumbered (numbered n all) ≡ zeros all
numbered-zeros n [] = refl
numbered-zeros n (x ∷ all) = ap (λ l. line_at 0 x ∷ l) (numbered-zeros (n + 1) all)

take_while-unnumbered : (test : LogicalLine → Bool) → ((line : LogicalLine) → test (unnumbered line) ≡ test line) → (all : List LogicalLine)
    → take_while test (map unnumbered all) ≡ map unnumbered (take_while test all)
take_while-unnumbered test same [] = refl
take_while-unnumbered test same (line ∷ all) = by (test line) refl (take_while-unnumbered test same all)
  where
    by : (b : Bool) → test line ≡ b → take_while test (map unnumbered all) ≡ map unnumbered (take_while test all)
        → take_while test (map unnumbered (line ∷ all)) ≡ map unnumbered (take_while test (line ∷ all))
    by true e rest = take_while-keep test (unnumbered line) (map unnumbered all) (same line ∙ e) ∙ ap (λ l. unnumbered line ∷ l) rest ∙ ap (map unnumbered) (sym (take_while-keep test line all e))
    by false e rest = take_while-stop test (unnumbered line) (map unnumbered all) (same line ∙ e) ∙ ap (map unnumbered) (sym (take_while-stop test line all e))

filter-unnumbered : (card : List ℕ) (all : List LogicalLine) → filter (begins card) (map unnumbered all) ≡ map unnumbered (filter (begins card) all)
filter-unnumbered card [] = refl
filter-unnumbered card (line ∷ all) = by (begins card line) refl (filter-unnumbered card all)
  where
    by : (b : Bool) → begins card line ≡ b → filter (begins card) (map unnumbered all) ≡ map unnumbered (filter (begins card) all)
        → filter (begins card) (map unnumbered (line ∷ all)) ≡ map unnumbered (filter (begins card) (line ∷ all))
    by true e rest = rw e (ap (λ l. unnumbered line ∷ l) rest)
    by false e rest = rw e rest

names-unnumbered : (all : List LogicalLine) → flat_map (λ (line : LogicalLine). drop 1 line.words) (map unnumbered all) ≡ flat_map (λ (line : LogicalLine). drop 1 line.words) all
names-unnumbered [] = refl
names-unnumbered (line ∷ all) = rw (names-unnumbered all) refl

names_on-unnumbered : (card : List ℕ) (all : List LogicalLine) → names_on card (map unnumbered all) ≡ names_on card all
names_on-unnumbered card all = ap (flat_map (λ (line : LogicalLine). drop 1 line.words)) (filter-unnumbered card all) ∙ names-unnumbered (filter (begins card) all)

latch_of-unnumbered : (n : ℕ) (words : List (List ℕ)) (rest : List Latch) → cons_option (latch_of 0 words) (map latch_unlined rest) ≡ map latch_unlined (cons_option (latch_of n words) rest)
latch_of-unnumbered n [] rest = refl
latch_of-unnumbered n (a ∷ []) rest = refl
latch_of-unnumbered n (a ∷ b ∷ []) rest = refl
latch_of-unnumbered n (a ∷ b ∷ c ∷ []) rest = refl
latch_of-unnumbered n (a ∷ b ∷ c ∷ d ∷ []) rest = refl
latch_of-unnumbered n (a ∷ b ∷ c ∷ d ∷ e ∷ []) rest = refl
latch_of-unnumbered n (a ∷ b ∷ c ∷ d ∷ e ∷ f ∷ []) rest = refl
latch_of-unnumbered n (a ∷ b ∷ c ∷ d ∷ e ∷ f ∷ g ∷ more) rest = refl

latches-unnumbered : (all : List LogicalLine)
    → filter_map (λ (line : LogicalLine). latch_of line.number line.words) (map unnumbered all) ≡ map latch_unlined (filter_map (λ (line : LogicalLine). latch_of line.number line.words) all)
latches-unnumbered [] = refl
latches-unnumbered (line ∷ all) =
    ap (λ l. cons_option (latch_of 0 line.words) l) (latches-unnumbered all)
    ∙ latch_of-unnumbered line.number line.words (filter_map (λ (other : LogicalLine). latch_of other.number other.words) all)

latches_of-unnumbered : (all : List LogicalLine) → latches_of (map unnumbered all) ≡ map latch_unlined (latches_of all)
latches_of-unnumbered all =
    ap (filter_map (λ (line : LogicalLine). latch_of line.number line.words)) (filter-unnumbered latch_card all) ∙ latches-unnumbered (filter (begins latch_card) all)

instances-unnumbered : (all : List LogicalLine) → map instance_of (map unnumbered all) ≡ map instance_unlined (map instance_of all)
instances-unnumbered [] = refl
instances-unnumbered (line ∷ all) = ap (λ l. instance_of (unnumbered line) ∷ l) (instances-unnumbered all)

instances_of-unnumbered : (all : List LogicalLine) → instances_of (map unnumbered all) ≡ map instance_unlined (instances_of all)
instances_of-unnumbered all = ap (map instance_of) (filter-unnumbered subckt_card all) ∙ instances-unnumbered (filter (begins subckt_card) all)

on-unnumbered : (rows : List LogicalLine) → rows_are_on (map unnumbered rows) ≡ rows_are_on rows
on-unnumbered [] = refl
on-unnumbered (row ∷ rows) = refl

rows-unnumbered : (rows : List LogicalLine) → map (λ (row : LogicalLine). row_letters row.words) (map unnumbered rows) ≡ map (λ (row : LogicalLine). row_letters row.words) rows
rows-unnumbered [] = refl
rows-unnumbered (row ∷ rows) = ap (λ l. row_letters row.words ∷ l) (rows-unnumbered rows)

table_of-unnumbered : (line : LogicalLine) (rows : List LogicalLine) → table_of (unnumbered line) (map unnumbered rows) ≡ table_unlined (table_of line rows)
table_of-unnumbered line rows =
    let on = on-unnumbered rows in
    let letters = rows-unnumbered rows in
    let table = table_of line rows in
    λ i. record { inputs = table.inputs; output = table.output; on = on i; rows = letters i; line = 0 }

tables_of-unnumbered : (all : List LogicalLine) → tables_of (map unnumbered all) ≡ map table_unlined (tables_of all)
tables_of-unnumbered [] = refl
tables_of-unnumbered (line ∷ all) = by (begins names_card line) refl (tables_of-unnumbered all)
  where
    by : (b : Bool) → begins names_card line ≡ b → tables_of (map unnumbered all) ≡ map table_unlined (tables_of all)
        → tables_of (map unnumbered (line ∷ all)) ≡ map table_unlined (tables_of (line ∷ all))
    by true e rest = rw e (
        ap (λ l. table_of (unnumbered line) l ∷ tables_of (map unnumbered all)) (take_while-unnumbered is_row (λ _. refl) all)
        ∙ ap (λ t. t ∷ tables_of (map unnumbered all)) (table_of-unnumbered line (take_while is_row all))
        ∙ ap (λ l. table_unlined (table_of line (take_while is_row all)) ∷ l) rest
        )
    by false e rest = rw e rest

blif_model-unnumbered : (line : LogicalLine) (all : List LogicalLine) → blif_model (unnumbered line) (map unnumbered all) ≡ model_unlined (blif_model line all)
blif_model-unnumbered line all =
    let inputs = names_on-unnumbered inputs_card all in
    let outputs = names_on-unnumbered outputs_card all in
    let tables = tables_of-unnumbered all in
    let latches = latches_of-unnumbered all in
    let instances = instances_of-unnumbered all in
    let model = blif_model line all in
    λ k. record { name = model.name; inputs = inputs k; outputs = outputs k; tables = tables k; latches = latches k; instances = instances k; line = 0 }

pub models_of-unnumbered : (all : List LogicalLine) → models_of (map unnumbered all) ≡ map model_unlined (models_of all)
models_of-unnumbered [] = refl
models_of-unnumbered (line ∷ all) = by (begins model_card line) refl (models_of-unnumbered all)
  where
    by : (b : Bool) → begins model_card line ≡ b → models_of (map unnumbered all) ≡ map model_unlined (models_of all)
        → models_of (map unnumbered (line ∷ all)) ≡ map model_unlined (models_of (line ∷ all))
    by true e rest = rw e (
        ap (λ l. blif_model (unnumbered line) l ∷ models_of (map unnumbered all)) (take_while-unnumbered is_inside (λ _. refl) all)
        ∙ ap (λ t. t ∷ models_of (map unnumbered all)) (blif_model-unnumbered line (take_while is_inside all))
        ∙ ap (λ l. model_unlined (blif_model line (take_while is_inside all)) ∷ l) rest
        )
    by false e rest = rw e rest
