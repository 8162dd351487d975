-- The tables and latches of the model of a printed text stand on rising lines, the tables before the latches.
use Rattle.std.proofs.Common.{◌≡◌, ℕ, zero, suc, ◌≤◌, ◌+◌, Bool, true, false, if◌then◌else◌, List, [], ◌∷◌, ◌++◌, map, filter, take, Option, Some, None, refl, ap, sym, ◌∙◌, subst, arith}
use Rattle.std.specs.Prelude.{IfSome}
use Rattle.std.specs.Cmp.Lexicographic.{same_text}
use Rattle.std.specs.List.{AllByRecursion, cons_option, filter_map, flat_map, prefix_len, take_while}
use Rattle.std.proofs.lemmas.List.Elements.{recursion_from_All}
use Rattle.dom_base.specs.Lines.{first_word}
use Rattle.dom_base.proofs.Lists.{AllByRecursion-append, AllByRecursion-take, AllByRecursion-weaker, head_same, tail_same}
use Rattle.blif_ast.specs.declared.latch.Latch.{Latch}
use Rattle.blif_ast.specs.TableData.{TableData}
use Rattle.blif_ast.specs.BlifFileData.{BlifFileData}
use Rattle.blif_ast.specs.BlifModelData.{BlifModelData}
use Rattle.blif_ast.specs.Good.{IsGoodFile, IsGoodModel}
use Rattle.blif_ast.specs.Cards.{begins, end_card, inputs_card, is_row, latch_card, model_card, names_card, outputs_card, same}
use Rattle.blif_ast.specs.LogicalLines.{LogicalLine, logical_lines}
use Rattle.blif_ast.specs.Models.{blif_model, is_inside, latch_of, latches_of, models_of, table_of, tables_of}
use Rattle.blif_ast.specs.Printed.{model_lines, ports_card, printed}
use Rattle.blif_ast.specs.Reading.{IsFileOf}
use Rattle.blif_read.specs.ReadsBack.{model_unlined, unlined}
use Rattle.blif_read.proofs.PrintReadsBackFiles.{reads_back}
use Rattle.blif_read.proofs.PrintReadsBackNames.{models_names}
use Rattle.blif_read.proofs.PrintReadsBackLines.{line_at, numbered, printed_lines}
use Rattle.blif_read.proofs.PrintReadsBackParts.{by_rows, inner_lines, instances_all, instances_lines, latches_all, latches_lines, model_lines-inner, ports_all, tables_all, tables_lines}
use Rattle.blif_numbers.proofs.LineNumbers.{Rises, Rises-take, logical_lines-rise}
use Rattle.model_calls.proofs.Rising.{Rising}

abbrev IsLatch : List (List ℕ) → Type 0
IsLatch words = begins latch_card (line_at 0 words) ≡ true

abbrev IsNoLatch : List (List ℕ) → Type 0
IsNoLatch words = begins latch_card (line_at 0 words) ≡ false

abbrev IsNoTable : List (List ℕ) → Type 0
IsNoTable words = begins names_card (line_at 0 words) ≡ false

-- no table stands behind a latch
abbrev LatchesLast : List (List (List ℕ)) → Type 0
LatchesLast [] = Unit {0}
LatchesLast (words ∷ more) = (IsLatch words → AllByRecursion IsNoTable more) × LatchesLast more

behind : (front rest : List (List (List ℕ))) → AllByRecursion IsNoLatch front → LatchesLast rest → LatchesLast (front ++ rest)
behind [] rest h last = last
behind (words ∷ front) rest h last = ((λ is. let never : true ≡ false = sym is ∙ h.0 in absurd cc), behind front rest h.1 last)

no_table : (all : List (List (List ℕ))) → AllByRecursion IsNoTable all → LatchesLast all
no_table [] h = tt
no_table (words ∷ more) h = ((λ is. h.1), no_table more h.1)

before : (front rest : List (List (List ℕ))) → LatchesLast front → AllByRecursion IsNoTable rest → LatchesLast (front ++ rest)
before [] rest last h = no_table rest h
before (words ∷ front) rest last h = ((λ is. AllByRecursion-append IsNoTable front rest (last.0 is) h), before front rest last.1 h)

inner_last : (m : BlifModelData) → LatchesLast (inner_lines m)
inner_last m =
    let last = latches_lines m.latches ++ instances_lines m.instances in
    behind (ports_card inputs_card m.inputs) (ports_card outputs_card m.outputs ++ (tables_lines m.tables ++ last)) (ports_all IsNoLatch inputs_card (λ _. refl) m.inputs)
    (behind (ports_card outputs_card m.outputs) (tables_lines m.tables ++ last) (ports_all IsNoLatch outputs_card (λ _. refl) m.outputs)
    (behind (tables_lines m.tables) last (tables_all IsNoLatch (λ _. refl) (by_rows IsNoLatch (λ _ _. refl) (λ _ _. refl) (λ _ _. refl)) m.tables)
    (no_table last (AllByRecursion-append IsNoTable (latches_lines m.latches) (instances_lines m.instances)
    (latches_all IsNoTable (λ _. refl) m.latches) (instances_all IsNoTable (λ _. refl) m.instances)))))

-- the same of logical lines
abbrev NoTables : List LogicalLine → Type 0
NoTables all = AllByRecursion (λ line. begins names_card line ≡ false) all

abbrev LinesLast : List LogicalLine → Type 0
LinesLast [] = Unit {0}
LinesLast (line ∷ more) = (begins latch_card line ≡ true → NoTables more) × LinesLast more

numbered_none : (number : ℕ) (all : List (List (List ℕ))) → AllByRecursion IsNoTable all → NoTables (numbered number all)
numbered_none number [] h = tt
numbered_none number (words ∷ more) h = (h.0, numbered_none (number + 1) more h.1)

numbered_last : (number : ℕ) (all : List (List (List ℕ))) → LatchesLast all → LinesLast (numbered number all)
numbered_last number [] last = tt
numbered_last number (words ∷ more) last = ((λ is. numbered_none (number + 1) more (last.0 is)), numbered_last (number + 1) more last.1)

take_last : (count : ℕ) (all : List LogicalLine) → LinesLast all → LinesLast (take count all)
take_last zero all last = tt
take_last (suc count) [] last = tt
take_last (suc count) (line ∷ more) last = ((λ is. AllByRecursion-take (λ l. begins names_card l ≡ false) count more (last.0 is)), take_last count more last.1)

-- the lines of tables and then of latches
abbrev pub lines_of : List TableData → List Latch → List ℕ
lines_of ts ls = map (λ (t : TableData). t.line) ts ++ map (λ (l : Latch). l.line) ls

abbrev pub IsRisingFrom : ℕ → List ℕ → Type 0
IsRisingFrom n numbers = AllByRecursion (λ k. n ≤ k) numbers × Rising (λ (k : ℕ). k) numbers

lower : (n m : ℕ) (numbers : List ℕ) → n ≤ m → IsRisingFrom m numbers → IsRisingFrom n numbers
lower n m numbers l h = (AllByRecursion-weaker (λ k. m ≤ k) (λ k. n ≤ k) (λ k d. omega (arith, l, d)) numbers h.0, h.1)

one_more : (n m : ℕ) (numbers : List ℕ) → n ≤ m → IsRisingFrom (m + 1) numbers → IsRisingFrom n (m ∷ numbers)
one_more n m numbers l h = (
  (l, AllByRecursion-weaker (λ k. m + 1 ≤ k) (λ k. n ≤ k) (λ k d. omega (arith, l, d)) numbers h.0),
  (AllByRecursion-weaker (λ k. m + 1 ≤ k) (λ k. m ≤ k) (λ k d. omega (arith, d)) numbers h.0, h.1),
)

latch_line : (number : ℕ) (words : List (List ℕ)) → IfSome (latch_of number words) (λ l. l.line ≡ number)
latch_line number [] = tt
latch_line number (a ∷ []) = tt
latch_line number (a ∷ b ∷ []) = tt
latch_line number (a ∷ b ∷ c ∷ []) = refl
latch_line number (a ∷ b ∷ c ∷ d ∷ []) = refl
latch_line number (a ∷ b ∷ c ∷ d ∷ x ∷ []) = refl
latch_line number (a ∷ b ∷ c ∷ d ∷ x ∷ y ∷ []) = refl
latch_line number (a ∷ b ∷ c ∷ d ∷ x ∷ y ∷ z ∷ more) = tt

tables_yes : (line : LogicalLine) (more : List LogicalLine) → begins names_card line ≡ true → tables_of (line ∷ more) ≡ table_of line (take_while is_row more) ∷ tables_of more
tables_yes line more e = ap (λ b. if b then table_of line (take_while is_row more) ∷ tables_of more else tables_of more) e

tables_no : (line : LogicalLine) (more : List LogicalLine) → begins names_card line ≡ false → tables_of (line ∷ more) ≡ tables_of more
tables_no line more e = ap (λ b. if b then table_of line (take_while is_row more) ∷ tables_of more else tables_of more) e

latches_yes : (line : LogicalLine) (more : List LogicalLine) → begins latch_card line ≡ true → latches_of (line ∷ more) ≡ cons_option (latch_of line.number line.words) (latches_of more)
latches_yes line more e = ap (λ b. filter_map (λ (l : LogicalLine). latch_of l.number l.words) (if b then line ∷ filter (begins latch_card) more else filter (begins latch_card) more)) e

latches_no : (line : LogicalLine) (more : List LogicalLine) → begins latch_card line ≡ false → latches_of (line ∷ more) ≡ latches_of more
latches_no line more e = ap (λ b. filter_map (λ (l : LogicalLine). latch_of l.number l.words) (if b then line ∷ filter (begins latch_card) more else filter (begins latch_card) more)) e

none_read : (all : List LogicalLine) → NoTables all → tables_of all ≡ []
none_read [] h = refl
none_read (line ∷ more) h = tables_no line more h.0 ∙ none_read more h.1

with_latch : (n m : ℕ) (o : Option Latch) (ls : List Latch) → n ≤ m → IfSome o (λ l. l.line ≡ m) → IsRisingFrom (m + 1) (lines_of [] ls) → IsRisingFrom n (lines_of [] (cons_option o ls))
with_latch n m None ls le p h = lower n (m + 1) (lines_of [] ls) (omega (arith, le)) h
with_latch n m (Some l) ls le p h = subst (λ k. IsRisingFrom n (k ∷ lines_of [] ls)) (sym p) (one_more n m (lines_of [] ls) le h)

rising_parts : (n : ℕ) (all : List LogicalLine) → Rises n all → LinesLast all → IsRisingFrom n (lines_of (tables_of all) (latches_of all))
rising_parts n [] rises last = (tt, tt)
rising_parts n (line ∷ more) rises last = by (begins names_card line) (begins latch_card line) refl refl (rising_parts (line.number + 1) more rises.1 last.1)
  where
    by : (a b : Bool) → begins names_card line ≡ a → begins latch_card line ≡ b → IsRisingFrom (line.number + 1) (lines_of (tables_of more) (latches_of more))
        → IsRisingFrom n (lines_of (tables_of (line ∷ more)) (latches_of (line ∷ more)))
    by true true e d rest =
        let other : begins latch_card line ≡ false = ap (λ word. same word latch_card) (same_text (first_word line.words) names_card (sym e)) in
        let never : true ≡ false = sym d ∙ other in
        absurd cc
    by true false e d rest =
        let tables = tables_yes line more e in
        let latches = latches_no line more d in
        subst (IsRisingFrom n) (sym (λ i. lines_of (tables i) (latches i))) (one_more n line.number (lines_of (tables_of more) (latches_of more)) rises.0 rest)
    by false true e d rest =
        let none = none_read more (last.0 d) in
        let tables = tables_no line more e ∙ none in
        let latches = latches_yes line more d in
        subst (IsRisingFrom n) (sym (λ i. lines_of (tables i) (latches i)))
        (with_latch n line.number (latch_of line.number line.words) (latches_of more) rises.0 (latch_line line.number line.words)
        (subst (λ ts. IsRisingFrom (line.number + 1) (lines_of ts (latches_of more))) none rest))
    by false false e d rest =
        let tables = tables_no line more e in
        let latches = latches_no line more d in
        subst (IsRisingFrom n) (sym (λ i. lines_of (tables i) (latches i))) (lower n (line.number + 1) (lines_of (tables_of more) (latches_of more)) (omega (arith, rises.0)) rest)

pub none_of : {X Y : Type 0} (g : X → Y) (xs : List X) → map g xs ≡ [] → xs ≡ []
none_of g [] e = refl
none_of g (x ∷ xs) e = absurd cc

-- what is read of the text of one model: a model that is the same but for lines, and its tables and latches on rising lines
pub record IsReadBack (text : List ℕ) (m : BlifModelData) : Type 0 where
  pub model : BlifModelData
  pub accepted : IsFileOf text (record { models = model ∷ [] })
  pub same : model_unlined model ≡ model_unlined m
  pub rise : Rising (λ (k : ℕ). k) (lines_of model.tables model.latches)

pub read_back : (m : BlifModelData) → IsGoodFile (record { models = m ∷ [] }) → IsReadBack (printed (record { models = m ∷ [] })) m
read_back m good = record { model = model; accepted = accepted; same = head_same same; rise = (rising_parts 2 inside inside_rises inside_last).1 }
  where
    text : List ℕ
    text = printed (record { models = m ∷ [] })

    again : (again : BlifFileData) × IsFileOf text again × (unlined again ≡ unlined (record { models = m ∷ [] }))
    again = reads_back (record { models = m ∷ [] }) good

    words : List (List (List ℕ))
    words = inner_lines m ++ (end_card ∷ []) ∷ []

    lines_are : logical_lines text ≡ numbered 1 ((model_card ∷ m.name ∷ []) ∷ words)
    lines_are = printed_lines (flat_map model_lines (m ∷ [])) (models_names (m ∷ []) (recursion_from_All IsGoodModel (m ∷ []) good.models)) ∙ ap (numbered 1) (model_lines-inner m [])

    inside : List LogicalLine
    inside = take_while is_inside (numbered 2 words)

    model : BlifModelData
    model = blif_model (line_at 1 (model_card ∷ m.name ∷ [])) inside

    others : List BlifModelData
    others = models_of (numbered 2 words)

    models_are : again.0.models ≡ model ∷ others
    models_are = ap (λ (f : BlifFileData). f.models) again.1.file_is ∙ ap models_of lines_are

    same : model_unlined model ∷ map model_unlined others ≡ model_unlined m ∷ []
    same = sym (ap (map model_unlined) models_are) ∙ ap (λ (f : BlifFileData). f.models) again.2

    one_model : again.0.models ≡ model ∷ []
    one_model = models_are ∙ ap (λ l. model ∷ l) (none_of model_unlined others (tail_same same))

    accepted : IsFileOf text (record { models = model ∷ [] })
    accepted = subst (IsFileOf text) (λ i. record { models = one_model i }) again.1

    count : ℕ
    count = prefix_len is_inside (numbered 2 words)

    inside_rises : Rises 2 inside
    inside_rises = Rises-take 2 count (numbered 2 words) (subst (Rises 1) lines_are (logical_lines-rise text)).1

    inside_last : LinesLast inside
    inside_last = take_last count (numbered 2 words) (numbered_last 2 words (before (inner_lines m) ((end_card ∷ []) ∷ []) (inner_last m) (refl, tt)))
