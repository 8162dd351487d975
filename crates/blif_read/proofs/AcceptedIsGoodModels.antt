-- The models of lines without faults are good.
use Rattle.std.proofs.Common.{◌≡◌, ◌≢◌, ℕ, ◌+◌, Bool, true, false, ◌==◌, ◌&&◌, not, if◌then◌else◌, List, [], ◌∷◌, ◌++◌, length, map, filter, drop, nat_eq, refl, ap, sym, ◌∙◌, subst, arith, eqb-true, inl, inr}
use Rattle.std.specs.List.{AllByRecursion, IsDistinct, flat_map, take_while, prefix_len}
use Rattle.std.proofs.lemmas.List.Elements.{All-from_recursion}
use Rattle.dom_base.specs.Lines.{lines, first_word}
use Rattle.dom_base.proofs.Lists.{AllByRecursion-append, AllByRecursion-take, AllByRecursion-drop}
use Rattle.blif_ast.specs.Good.{IsGoodName, IsGoodTable, IsGoodLatch, IsGoodInstance, IsGoodModel, IsGoodFile, part_lines}
use Rattle.blif_ast.specs.declared.kind.BlifKind.{BlifKind}
use Rattle.blif_ast.specs.declared.kind.BlifKind.TheVariants.{RowOutsideTable, NoModel}
use Rattle.blif_ast.specs.declared.card.Card.TheVariants.{Model}
use Rattle.blif_ast.specs.LogicalLines.{LogicalLine, logical_lines}
use Rattle.blif_ast.specs.Cards.{begins, is_card, model_card, inputs_card, outputs_card, names_card, latch_card, subckt_card, same}
use Rattle.blif_ast.specs.Faults.{has_blif_fault}
use Rattle.blif_ast.specs.Models.{names_on, tables_of, latches_of, instance_of, instances_of, blif_model, is_inside, models_of}
use Rattle.blif_read.specs.Laws.{AcceptedFileIsGood}
use Rattle.blif_numbers.proofs.LineNumbers.{Rises, Rises-take, logical_lines-rise}
use Rattle.blif_numbers.proofs.KnownWords.{same-true}
use Rattle.blif_read.proofs.AcceptedIsGoodWords.{logical_lines-plain}
use Rattle.blif_read.proofs.AcceptedIsGoodLines.{Free, Free-from, Free-take, IsGoodLine, good_lines, good_lines-filter, good_word-at, card_form}
use Rattle.blif_read.proofs.AcceptedIsGoodRows.{good_tables}
use Rattle.blif_read.proofs.AcceptedIsGoodParts.{good_latches, good_instances}
use Rattle.blif_read.proofs.AcceptedIsGoodCardLines.{numbers_of, distinct_numbers, apart_numbers, distinct_append}
use Rattle.blif_numbers.proofs.LineFaults.{IsFaultOfLine-from}

-- the words of some lines behind their first words
names_good : (all : List LogicalLine) → AllByRecursion IsGoodLine all → AllByRecursion IsGoodName (flat_map (λ line. drop 1 line.words) all)
names_good [] good = tt
names_good (line ∷ more) good =
    AllByRecursion-append IsGoodName (drop 1 line.words) (flat_map (λ k. drop 1 k.words) more) (AllByRecursion-drop IsGoodName 1 line.words good.0.1) (names_good more good.1)

names_on-good : (card : List ℕ) (all : List LogicalLine) → AllByRecursion IsGoodLine all → AllByRecursion IsGoodName (names_on card all)
names_on-good card all good = names_good (filter (begins card) all) (good_lines-filter (begins card) all good)

-- tables and instances stand on the lines of their cards
table_lines : (all : List LogicalLine) → map (λ t. t.line) (tables_of all) ≡ numbers_of (begins names_card) all
table_lines [] = refl
table_lines (line ∷ more) = by (begins names_card line) refl (table_lines more)
  where
    by : (b : Bool) → begins names_card line ≡ b → map (λ t. t.line) (tables_of more) ≡ numbers_of (begins names_card) more
        → map (λ t. t.line) (tables_of (line ∷ more)) ≡ numbers_of (begins names_card) (line ∷ more)
    by true e rest = rw e (ap (λ l. line.number ∷ l) rest)
    by false e rest = rw e rest

instances_lines : (all : List LogicalLine) → map (λ i. i.line) (map instance_of all) ≡ map (λ line. line.number) all
instances_lines [] = refl
instances_lines (line ∷ more) = ap (λ l. line.number ∷ l) (instances_lines more)

-- a line begins with one word
one_card : (card other : List ℕ) → same card other ≡ false → (line : LogicalLine) → begins card line ≡ true → begins other line ≡ false
one_card card other differ line is = ap (λ f. same f other) (same-true (first_word line.words) card is) ∙ differ

lines_apart : (n : ℕ) (all : List LogicalLine) → Rises n all
    → IsDistinct nat_eq (numbers_of (begins names_card) all ++ numbers_of (begins latch_card) all ++ numbers_of (begins subckt_card) all)
lines_apart n all rises =
    let tables = numbers_of (begins names_card) all in
    let latches = numbers_of (begins latch_card) all in
    let instances = numbers_of (begins subckt_card) all in
    distinct_append (tables ++ latches) instances
    (distinct_append tables latches (distinct_numbers n (begins names_card) all rises) (distinct_numbers n (begins latch_card) all rises)
    (apart_numbers n (begins names_card) (begins latch_card) (one_card names_card latch_card refl) all rises))
    (distinct_numbers n (begins subckt_card) all rises)
    (AllByRecursion-append (λ m. AllByRecursion (λ k. nat_eq m k ≡ false) instances) tables latches
    (apart_numbers n (begins names_card) (begins subckt_card) (one_card names_card subckt_card refl) all rises)
    (apart_numbers n (begins latch_card) (begins subckt_card) (one_card latch_card subckt_card refl) all rises))

-- the model of a card `.model` and of the lines behind it that belong to it
good_model : (n : ℕ) (before : List LogicalLine) (line : LogicalLine) (all : List LogicalLine) → begins model_card line ≡ true → ((kind : BlifKind) → has_blif_fault kind before line ≡ false)
    → IsGoodLine line → Free (line ∷ before) all → AllByRecursion IsGoodLine all → Rises n all → IsGoodModel (blif_model line all)
good_model n before line all is free good rest goods rises =
    let latches = good_latches (line ∷ before) all rest goods in
    let form : (length line.words == 2) ≡ true = card_form Model before line is free in
    record {
      name = good_word-at line.words 1 good.1 (omega (arith, eqb-true (length line.words) 2 form));
      inputs = All-from_recursion IsGoodName (names_on inputs_card all) (names_on-good inputs_card all goods);
      outputs = All-from_recursion IsGoodName (names_on outputs_card all) (names_on-good outputs_card all goods);
      tables = All-from_recursion IsGoodTable (tables_of all) (good_tables (line ∷ before) all rest goods);
      latches = All-from_recursion IsGoodLatch (latches_of all) latches.good;
      instances = All-from_recursion IsGoodInstance (instances_of all) (good_instances (line ∷ before) all rest goods);
      apart = subst (IsDistinct nat_eq) (sym (cards latches.lines)) (lines_apart n all rises);
    }
  where
    cards : map (λ l. l.line) (latches_of all) ≡ numbers_of (begins latch_card) all
        → part_lines (blif_model line all) ≡ numbers_of (begins names_card) all ++ numbers_of (begins latch_card) all ++ numbers_of (begins subckt_card) all
    cards same_lines = λ i. table_lines all i ++ same_lines i ++ instances_lines (filter (begins subckt_card) all) i

good_models : (n : ℕ) (before all : List LogicalLine) → Free before all → AllByRecursion IsGoodLine all → Rises n all → AllByRecursion IsGoodModel (models_of all)
good_models n before [] free good rises = tt
good_models n before (line ∷ more) free good rises = by (begins model_card line) refl (good_models (line.number + 1) (line ∷ before) more free.1 good.1 rises.1)
  where
    count : ℕ
    count = prefix_len is_inside more

    by : (b : Bool) → begins model_card line ≡ b → AllByRecursion IsGoodModel (models_of more) → AllByRecursion IsGoodModel (models_of (line ∷ more))
    by true e rest =
        subst (λ b. AllByRecursion IsGoodModel (if b then blif_model line (take_while is_inside more) ∷ models_of more else models_of more)) (sym e) (
          good_model (line.number + 1) before line (take_while is_inside more) e free.0 good.0 (Free-take count (line ∷ before) more free.1) (AllByRecursion-take IsGoodLine count more good.1)
              (Rises-take (line.number + 1) count more rises.1),
          rest,
        )
    by false e rest = subst (λ b. AllByRecursion IsGoodModel (if b then blif_model line (take_while is_inside more) ∷ models_of more else models_of more)) (sym e) rest

first_is_model : (card model : Bool) → (not card && not false) ≡ false → (card && not model && not false) ≡ false → model ≡ true
first_is_model true true p q = refl
first_is_model true false p q = sym q
first_is_model false model p q = let never : true ≡ false = p in absurd cc

-- the first line without faults is a card `.model`
some_model : (all : List LogicalLine) → all ≢ [] → Free [] all → models_of all ≢ []
some_model [] some free = absurd (some refl)
some_model (line ∷ more) some free =
    let is : begins model_card line ≡ true = first_is_model (is_card line) (begins model_card line) (free.0 RowOutsideTable) (free.0 NoModel) in
    λ e. let never : blif_model line (take_while is_inside more) ∷ models_of more ≡ [] = sym (ap (λ b. if b then blif_model line (take_while is_inside more) ∷ models_of more else models_of more) is) ∙ e in cc

pub accepted_file : AcceptedFileIsGood
accepted_file text file is = subst IsGoodFile (sym is.file_is) (record {
  some = some_model all some free;
  models = All-from_recursion IsGoodModel (models_of all) (good_models 1 [] all free (good_lines [] all free (logical_lines-plain text)) (logical_lines-rise text));
})
  where
    all : List LogicalLine
    all = logical_lines text

    free : Free [] (logical_lines text)
    free = Free-from [] (logical_lines text) (λ number kind h. is.no_fault number kind (inl (IsFaultOfLine-from (logical_lines text) number kind h)))

    some : logical_lines text ≢ []
    some e = is.no_fault (length (lines text) + 1) NoModel (inr (record { empty = e; number_is = refl; kind_is = refl }))
