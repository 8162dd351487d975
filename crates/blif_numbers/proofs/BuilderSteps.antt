-- What the reader has made of the lines after one line more, step by step.
use Rattle.std.proofs.Common.{◌≡◌, ℕ, suc, ◌<◌, ◌-◌, Bool, true, false, cond, not, List, [], ◌∷◌, ◌++◌, length, drop, refl, sym, ap, ◌∙◌, subst, arith, append-nil, Some, None, ltb-true}
use Rattle.std.specs.Prelude.{Option, nat_lt, slice_get, slice_index_or, take}
use Rattle.std.specs.List.{filter_map, list_any}
use Rattle.std.specs.Option.{option_map, option_to_list}
use Rattle.std.proofs.lemmas.List.{length-append, length-drop}
use Rattle.std.proofs.lemmas.Option.{get_or_from_slice_get, slice_get_within}
use Rattle.dom_base.specs.Lines.{first_word, is_control}
use Rattle.blif_ast.specs.declared.card.Card.{Card}
use Rattle.blif_ast.specs.declared.card.Card.TheVariants.{Model, Inputs, Outputs, Names, Latch, Subckt, Clock, End}
use Rattle.blif_ast.specs.declared.kind.BlifKind.TheVariants.{BadCard, ControlByte, NoModel, TooWide}
use Rattle.blif_ast.specs.declared.latch.Latch.{Latch as LatchValue}
use Rattle.blif_ast.specs.BlifModelData.{BlifModelData}
use Rattle.blif_ast.specs.LogicalLines.{LogicalLine}
use Rattle.blif_ast.specs.Cards.{card_of, is_card, is_form, last_letter, last_word, table_inputs}
use Rattle.blif_ast.specs.Models.{instance_of, latch_of}
use Rattle.blif_numbers.specs.Build.{Built, built_by, has_model, model_with_table, new_model, new_table, opened_by, table_with_row}
use Rattle.blif_numbers.specs.Steps.{Context, card_fault, context_fault, formed_card_fault, row_fault}
use Rattle.blif_numbers.proofs.LineContexts.{known_is_card}
use Rattle.blif_numbers.specs.declared.open_model.OpenModel.{OpenModel}
use Rattle.blif_numbers.specs.declared.open_model.OpenTable.{OpenTable}
use Rattle.numbered_file.specs.declared.parts.PartKind.TheVariants as at
use Rattle.numbered_file.specs.Numbered.{latch_in, model_by, name_of, table_by}
use Rattle.numbered_file.specs.NameNumbers.{Grows}
use Rattle.numbered_file.specs.OpenLists.{OpenLists, open_lists, with_words, with_row, with_part, with_model, with_parts, IsClosed}
use Rattle.blif_lines.specs.TextPlaces.{StandsAt}
use Rattle.blif_numbers.specs.BuilderData.{BuilderData, built_in, built_of, card_lists, card_taken, is_on, latch_parts, model_closed, model_of, model_taken, open_table, opened_table, row_taken, table_closed, table_of_open, value_after, width_and_letter, HasValue, IsBuilder, IsInner, InnerInputs, InnerOutputs, InnerNames, InnerLatch, InnerSubckt, InnerClock, IsOpenModel, IsOpenTable}
use Rattle.blif_numbers.proofs.ReaderInvariant.{clean_by, in_form}
use Rattle.blif_numbers.proofs.Builds.{built-grown, closed-model, closed-no_model, closed-no_table, closed-table, model-instance, model-latch, models-closed, opened-is, row-pushed}

-- the builder by its names, its lists and its open model
module _ (b : BuilderData) {names : List (List ℕ)} {lists : OpenLists} {open_model : Option OpenModel} where
  pub built-is : b.file.names ≡ names → open_lists b.file ≡ lists → b.open_model ≡ open_model → built_in b ≡ built_of names lists open_model
  built-is n l o = λ i. built_of (n i) (l i) (o i)

  pub builder-is : b.file.names ≡ names → open_lists b.file ≡ lists → b.open_model ≡ open_model
      → IsOpenModel (length names) lists open_model → IsOpenTable lists (table_of_open open_model) → IsBuilder b
  builder-is n l o model table = record {
    model = subst (λ x. IsOpenModel (length b.file.names) x b.open_model) (sym l)
        (subst (λ x. IsOpenModel (length b.file.names) lists x) (sym o) (subst (λ x. IsOpenModel (length x) lists open_model) (sym n) model));
    table = subst (λ x. IsOpenTable x (table_of_open b.open_model)) (sym l) (subst (λ x. IsOpenTable lists (table_of_open x)) (sym o) table);
  }

-- what was built, and that it is a builder's: what each step ends with
pub record IsStepTo (b : BuilderData) (built : Built) : Type 0 where
  pub built_is : built_in b ≡ built
  pub builder : IsBuilder b

-- the open model of a builder
pub open_model_of : {b : BuilderData} {m : OpenModel} → IsBuilder b → b.open_model ≡ Some m → m.name < length b.file.names
open_model_of {b} h is = subst (IsOpenModel (length b.file.names) (open_lists b.file)) is h.model

pub open_table_of : {b : BuilderData} {open_model : Option OpenModel} → IsBuilder b → b.open_model ≡ open_model → IsOpenTable (open_lists b.file) (table_of_open open_model)
open_table_of {b} h is = subst (λ o. IsOpenTable (open_lists b.file) (table_of_open o)) is h.table

pub table_where : {b : BuilderData} {m : OpenModel} {table : Option OpenTable} → IsBuilder b → b.open_model ≡ Some m → m.table ≡ table → IsOpenTable (open_lists b.file) table
table_where {b} {m} h is table = subst (IsOpenTable (open_lists b.file)) table (open_table_of h is)

no_open : (names : List (List ℕ)) (lists : OpenLists) (o : Option OpenModel) → option_map (model_of names lists) o ≡ None → o ≡ None
no_open names lists None e = refl
no_open names lists (Some m) e = absurd (cc)

no_open_table : (lists : OpenLists) (o : Option OpenTable) → option_map (open_table lists) o ≡ None → o ≡ None
no_open_table lists None e = refl
no_open_table lists (Some t) e = absurd (cc)

pub no_model_open : (b : BuilderData) → (built_in b).model ≡ None → b.open_model ≡ None
no_model_open b none = no_open b.file.names (open_lists b.file) b.open_model none

pub no_table_open : (b : BuilderData) → (built_in b).table ≡ None → table_of_open b.open_model ≡ None
no_table_open b none = no_open_table (open_lists b.file) (table_of_open b.open_model) none

-- a row

no_row : (names : List (List ℕ)) (lists : OpenLists) (o : Option OpenModel) (words : List (List ℕ)) → table_of_open o ≡ None
    → built_of names lists o ≡ row_taken (built_of names lists o) words
no_row names lists o words none = λ i. record (built_of names lists o) {
  table = (ap (option_map (open_table lists)) none ∙ sym (ap (λ t. table_with_row (option_map (open_table lists) t) words) none)) i;
}

pub row-none : {b : BuilderData} (words : List (List ℕ)) → IsBuilder b → table_of_open b.open_model ≡ None → IsStepTo b (row_taken (built_in b) words)
row-none {b} words h none = record { built_is = no_row b.file.names (open_lists b.file) b.open_model words none; builder = h }

has_value : (value : Option Bool) (letter : ℕ) (rows : List ℕ) (place : ℕ) → HasValue (value_after value letter) (rows ++ place ∷ [])
has_value None letter rows place = λ none. absurd (omega (arith, ap length none, length-append rows (place ∷ [])))
has_value (Some on) letter rows place = λ none. absurd (omega (arith, ap length none, length-append rows (place ∷ [])))

row_is : (names : List (List ℕ)) (lists : OpenLists) (m : OpenModel) (t : OpenTable) (place : ℕ) (words : List (List ℕ)) → m.table ≡ Some t
    → IsOpenTable lists (Some t) → None ≡ row_fault (opened_by (option_map (open_table lists) m.table)) words → StandsAt lists.text place (first_word words)
    → built_of names (with_row lists place) (Some (record m { table = Some (record t { value = value_after t.value (last_letter words) }) }))
    ≡ row_taken (built_of names lists (Some m)) words
row_is names lists m t place words is h clean stands =
    let form = in_form (width_and_letter t) words (clean ∙ ap (λ o. row_fault (opened_by (option_map (open_table lists) o)) words) is ∙ ap (λ o. row_fault o words) (opened-is lists (Some t) h)) in
    λ i. record {
      models = lists.models;
      model = Some (model_of names lists m);
      table = (row-pushed lists t place words h form stands ∙ ap (λ o. table_with_row (option_map (open_table lists) o) words) (sym is)) i;
    }

pub row-step : {b after : BuilderData} {m : OpenModel} {t : OpenTable} (place : ℕ) (words : List (List ℕ)) → IsBuilder b → b.open_model ≡ Some m → m.table ≡ Some t
    → None ≡ row_fault (opened_by (built_in b).table) words → StandsAt b.file.text place (first_word words)
    → after.file.names ≡ b.file.names → open_lists after.file ≡ with_row (open_lists b.file) place
    → after.open_model ≡ Some (record m { table = Some (record t { value = value_after t.value (last_letter words) }) })
    → IsStepTo after (row_taken (built_in b) words)
row-step {b} {after} {m} {t} place words h is table clean stands names lists open_model =
    let open_is = table_where h is table in
    record {
      built_is = built-is after names lists open_model
          ∙ row_is b.file.names (open_lists b.file) m t place words table open_is
          (clean ∙ ap (λ o. row_fault (opened_by (option_map (open_table (open_lists b.file)) (table_of_open o))) words) is) stands
          ∙ ap (λ o. row_taken (built_of b.file.names (open_lists b.file) o) words) (sym is);
      builder = builder-is after names lists open_model (open_model_of h is) (open_is.0, has_value t.value (last_letter words) (open_lists b.file).rows place);
    }

-- a table or a model is closed

pub close-no_table : {b : BuilderData} → IsBuilder b → table_of_open b.open_model ≡ None → IsStepTo b (table_closed (built_in b))
close-no_table {b} h none = record { built_is = closed-no_table b.file.names (open_lists b.file) b.open_model none; builder = h }

pub close-table : {b after : BuilderData} {m : OpenModel} {t : OpenTable} → IsBuilder b → b.open_model ≡ Some m → m.table ≡ Some t
    → after.file.names ≡ b.file.names → open_lists after.file ≡ with_part (open_lists b.file) (at.Table (is_on t.value)) t.line
    → after.open_model ≡ Some (record m { table = None }) → IsStepTo after (table_closed (built_in b))
close-table {b} {after} {m} {t} h is table names lists open_model = record {
  built_is = built-is after names lists open_model ∙ closed-table b.file.names (open_lists b.file) m t table
      ∙ ap (λ o. table_closed (built_of b.file.names (open_lists b.file) o)) (sym is);
  builder = builder-is after names lists open_model (open_model_of h is) (refl, refl);
}

pub close-no_model : {b : BuilderData} → IsBuilder b → b.open_model ≡ None → IsStepTo b (model_closed (built_in b))
close-no_model {b} h none = record {
  built_is = ap (built_of b.file.names (open_lists b.file)) none ∙ closed-no_model b.file.names (open_lists b.file)
      ∙ ap (λ o. model_closed (built_of b.file.names (open_lists b.file) o)) (sym none);
  builder = h;
}

pub close-model : {b after : BuilderData} {m : OpenModel} → IsBuilder b → b.open_model ≡ Some m → (built_in b).table ≡ None
    → after.file.names ≡ b.file.names → open_lists after.file ≡ with_model (open_lists b.file) (name_of b.file.names m.name) m.line
    → after.open_model ≡ None → IsStepTo after (model_closed (built_in b))
close-model {b} {after} {m} h is table names lists open_model =
    let waits = table_where h is (sym (ap table_of_open is) ∙ no_table_open b table) in
    record {
      built_is = built-is after names lists open_model ∙ closed-model b.file.names (open_lists b.file) m
          ∙ ap (λ o. model_closed (built_of b.file.names (open_lists b.file) o)) (sym is);
      builder = builder-is after names lists open_model (refl, refl, refl) waits;
    }

-- a model is opened

opened_is : (names : List (List ℕ)) (lists : OpenLists) (number line : ℕ) (words : List (List ℕ)) → slice_get names number ≡ Some (slice_index_or words 1 [])
    → IsOpenModel 0 lists None
    → built_of names lists (Some (record { name = number; line = line; table = None })) ≡ model_taken (built_of names lists None) (record { number = line; words = words })
opened_is names lists number line words name nothing = λ i. record {
  models = lists.models;
  model = Some (model_by (get_or_from_slice_get names number (slice_index_or words 1 []) [] name i) line (nothing.0 i) (nothing.1 i) (nothing.2 i));
  table = None;
}

pub start-step : {b after : BuilderData} (number line : ℕ) (words : List (List ℕ)) → IsBuilder b → (built_in b).model ≡ None
    → slice_get after.file.names number ≡ Some (slice_index_or words 1 []) → open_lists after.file ≡ open_lists b.file
    → after.open_model ≡ Some (record { name = number; line = line; table = None })
    → IsStepTo after (model_taken (built_in b) (record { number = line; words = words }))
start-step {b} {after} number line words h none name lists open_model =
    let no_model = no_model_open b none in
    let nothing = subst (IsOpenModel (length b.file.names) (open_lists b.file)) no_model h.model in
    record {
      built_is = built-is after refl lists open_model ∙ opened_is after.file.names (open_lists b.file) number line words name nothing
          ∙ (λ i. model_taken (built_of b.file.names (open_lists b.file) (sym no_model i)) (record { number = line; words = words }));
      builder = builder-is after refl lists open_model (slice_get_within after.file.names number _ name) (open_table_of h no_model);
    }

-- a card that neither opens nor closes a model

formed : (open_model : Bool) (card : Card) (words : List (List ℕ)) → None ≡ card_fault open_model (Some card) words → is_form card words ≡ true
formed open_model card words clean = by (is_form card words) clean
  where
    by : (form : Bool) → None ≡ cond (not form) (Some BadCard) (formed_card_fault open_model card words) → form ≡ true
    by true e = refl
    by false e = absurd (cc)

pub outside : (card : Card) (words : List (List ℕ)) → IsInner card → None ≡ card_fault false (Some card) words → ⊥
outside card words inner clean = by card inner (is_form card words) clean
  where
    too_wide : (wide : Bool) → None ≡ cond wide (Some TooWide) (Some NoModel) → ⊥
    too_wide true e = absurd (cc)
    too_wide false e = absurd (cc)

    by : (c : Card) → IsInner c → (form : Bool) → None ≡ cond (not form) (Some BadCard) (formed_card_fault false c words) → ⊥
    by c i false e = absurd (cc)
    by Inputs InnerInputs true e = absurd (cc)
    by Outputs InnerOutputs true e = absurd (cc)
    by Names InnerNames true e = too_wide (nat_lt 4096 (length (table_inputs words))) e
    by Latch InnerLatch true e = absurd (cc)
    by Subckt InnerSubckt true e = absurd (cc)
    by Clock InnerClock true e = absurd (cc)
    by Model i true e = elim i [ ]
    by End i true e = elim i [ ]

-- the open model and table after such a card, where no table was open
abbrev pub with_card_table : OpenModel → Card → LogicalLine → OpenModel
with_card_table m card line = record { name = m.name; line = m.line; table = opened_table card line.number (length line.words) }

last_behind : (words : List (List ℕ)) → 1 < length words → last_word (drop 1 words) ≡ last_word words
last_behind [] some = absurd (omega (arith, some))
last_behind (a ∷ []) some = absurd (omega (arith, some))
last_behind (a ∷ b ∷ words) some =
    let count : length (a ∷ b ∷ words) - 1 ≡ suc (length (b ∷ words) - 1) = omega arith in
    sym (ap (λ n. slice_index_or (a ∷ b ∷ words) n []) count)

-- the table of a card `.names` by its words
names_table : (lists : OpenLists) (line : LogicalLine) → lists.words ≡ [] → lists.rows ≡ [] → is_form Names line.words ≡ true
    → open_table (with_words lists (drop 1 line.words)) (record { width = length line.words - 2; value = None; line = line.number }) ≡ new_table line
names_table lists line words rows form =
    let some : 1 < length line.words = ltb-true 1 (length line.words) form in
    let count : length (drop 1 line.words) - 1 ≡ length line.words - 2 = omega (arith, length-drop 1 line.words) in
    (λ i. table_by lists.text true line.number (words i ++ drop 1 line.words) (rows i))
    ∙ (λ i. record { inputs = take (count i) (drop 1 line.words); output = last_behind line.words some i; on = true; rows = []; line = line.number })

card_is : (names : List (List ℕ)) (lists : OpenLists) (m : OpenModel) (card : Card) (line : LogicalLine) → IsInner card → m.table ≡ None
    → IsOpenTable lists None → is_form card line.words ≡ true
    → built_of names (card_lists lists card line) (Some (with_card_table m card line)) ≡ card_taken (built_of names lists (Some m)) card line
card_is names lists m Inputs line InnerInputs none h form = refl
card_is names lists m Outputs line InnerOutputs none h form = refl
card_is names lists m Names line InnerNames none h form =
    λ i. record { models = lists.models; model = Some (model_of names lists m); table = Some (names_table lists line h.0 h.1 form i) }
card_is names lists m Latch line InnerLatch none h form = by (latch_of line.number line.words)
  where
    by : (latch : Option LatchValue) → built_of names (with_parts lists (latch_parts latch)) (Some (record { name = m.name; line = m.line; table = None }))
        ≡ record { models = lists.models; model = Some (record (model_of names lists m) { latches = (model_of names lists m).latches ++ option_to_list latch }); table = None }
    by None =
        (λ i. record { models = lists.models; model = Some (model_by (name_of names m.name) m.line lists.inputs lists.outputs (append-nil lists.parts i)); table = None })
        ∙ (λ i. record { models = lists.models; model = Some (record (model_of names lists m) { latches = sym (append-nil (filter_map latch_in lists.parts)) i }); table = None })
    by (Some latch) = λ i. record { models = lists.models; model = Some (model-latch (name_of names m.name) m.line lists.inputs lists.outputs lists.parts latch i); table = None }
card_is names lists m Subckt line InnerSubckt none h form =
    λ i. record { models = lists.models; model = Some (model-instance (name_of names m.name) m.line lists.inputs lists.outputs lists.parts (instance_of line) i); table = None }
card_is names lists m Clock line InnerClock none h form = refl
card_is names lists m Model line i none h form = elim i [ ]
card_is names lists m End line i none h form = elim i [ ]

-- no words or rows wait behind it, but those of a table that it opens
waits : (lists : OpenLists) (card : Card) (line : LogicalLine) → IsInner card → IsOpenTable lists None → is_form card line.words ≡ true
    → IsOpenTable (card_lists lists card line) (opened_table card line.number (length line.words))
waits lists Inputs line InnerInputs h form = h
waits lists Outputs line InnerOutputs h form = h
waits lists Names line InnerNames h form =
    let some : 1 < length line.words = ltb-true 1 (length line.words) form in
    (omega (arith, some, length-drop 1 line.words, ap (λ ws. length (ws ++ drop 1 line.words)) h.0), h.1)
waits lists Latch line InnerLatch h form = h
waits lists Subckt line InnerSubckt h form = h
waits lists Clock line InnerClock h form = h
waits lists Model line i h form = elim i [ ]
waits lists End line i h form = elim i [ ]

-- nothing is open where no model is
card_nowhere : (names : List (List ℕ)) (lists : OpenLists) (card : Card) (line : LogicalLine) → None ≡ card_fault (has_model (built_of names lists None).model) (Some card) line.words
    → IsInner card → ⊥
card_nowhere names lists card line clean inner = outside card line.words inner clean

pub card-none : (b : BuilderData) (card : Card) (line : LogicalLine) → b.open_model ≡ None → IsInner card
    → None ≡ card_fault (has_model (built_in b).model) (Some card) line.words → ⊥
card-none b card line none inner clean =
    card_nowhere b.file.names (open_lists b.file) card line
    (clean ∙ ap (λ o. card_fault (has_model (option_map (model_of b.file.names (open_lists b.file)) o)) (Some card) line.words) none) inner

pub card-step : {b after : BuilderData} {m : OpenModel} (card : Card) (line : LogicalLine) → IsBuilder b → b.open_model ≡ Some m → (built_in b).table ≡ None
    → IsInner card → None ≡ card_fault (has_model (built_in b).model) (Some card) line.words
    → Grows b.file.names after.file.names → open_lists after.file ≡ card_lists (open_lists b.file) card line
    → after.open_model ≡ Some (with_card_table m card line) → IsStepTo after (card_taken (built_in b) card line)
card-step {b} {after} {m} card line h is table inner clean grows lists open_model =
    let form = formed (has_model (built_in b).model) card line.words clean in
    let none : m.table ≡ None = sym (ap table_of_open is) ∙ no_table_open b table in
    let open_is = table_where h is none in
    let below = open_model_of h is in
    record {
      built_is = built-is after grows.1 lists open_model
          ∙ card_is (b.file.names ++ grows.0) (open_lists b.file) m card line inner none open_is form
          ∙ ap (λ x. card_taken x card line) (built-grown b.file.names grows.0 (open_lists b.file) (Some m) below)
          ∙ ap (λ o. card_taken (built_of b.file.names (open_lists b.file) o) card line) (sym is);
      builder = builder-is after grows.1 lists open_model (omega (arith, below, length-append b.file.names grows.0))
          (waits (open_lists b.file) card line inner open_is form);
    }

-- a card that is known, in steps: the open table is closed first

has_model-closed : (b : Built) → has_model (table_closed b).model ≡ has_model b.model
has_model-closed b = by b.model
  where
    by : (o : Option BlifModelData) → has_model (option_map (λ m. model_with_table m b.table) o) ≡ has_model o
    by None = refl
    by (Some m) = refl

-- what a card's fault is stays where the open table is closed
pub clean_closed : (b closed : Built) (card : Card) (words : List (List ℕ)) → closed ≡ table_closed b
    → None ≡ card_fault (has_model b.model) (Some card) words → None ≡ card_fault (has_model closed.model) (Some card) words
clean_closed b closed card words is clean =
    clean ∙ ap (λ m. card_fault m (Some card) words) (sym (ap (λ (x : Built). has_model x.model) is ∙ has_model-closed b))

pub known-model : (b : Built) (line : LogicalLine) → built_by b (Some Model) line ≡ model_taken (model_closed (table_closed b)) line
known-model b line = λ i. record { models = models-closed b i; model = Some (new_model line); table = None }

pub known-end : (b : Built) (line : LogicalLine) → built_by b (Some End) line ≡ model_closed (table_closed b)
known-end b line = λ i. record { models = models-closed b i; model = None; table = None }

-- what a line without fault is: a row of the open table, or a card that is known

pub clean_row : (context : Context) (line : LogicalLine) → card_of line ≡ None → None ≡ context_fault context line → None ≡ row_fault context.table line.words
clean_row context line none clean = by (is_card line) (clean_by context line clean)
  where
    by : (b : Bool) → None ≡ cond b (card_fault context.model (card_of line) line.words) (row_fault context.table line.words) → None ≡ row_fault context.table line.words
    by true e = let never = e ∙ ap (λ o. card_fault context.model o line.words) none in absurd (cc)
    by false e = e

pub clean_card : (context : Context) (line : LogicalLine) (card : Card) → card_of line ≡ Some card → None ≡ context_fault context line
    → None ≡ card_fault context.model (Some card) line.words
clean_card context line card known clean =
    clean_by context line clean
    ∙ ap (λ b. cond b (card_fault context.model (card_of line) line.words) (row_fault context.table line.words)) (known_is_card line card known)
    ∙ ap (λ o. card_fault context.model o line.words) known

pub inner_is : (card : Card) → (card ≡ Model → ⊥) → (card ≡ End → ⊥) → IsInner card
inner_is Model model end = absurd (model refl)
inner_is End model end = absurd (end refl)
inner_is Inputs model end = InnerInputs
inner_is Outputs model end = InnerOutputs
inner_is Names model end = InnerNames
inner_is Latch model end = InnerLatch
inner_is Subckt model end = InnerSubckt
inner_is Clock model end = InnerClock

-- a card leaves the text as it is
pub card_text : (lists : OpenLists) (card : Card) (line : LogicalLine) → (card_lists lists card line).text ≡ lists.text
card_text lists Model line = refl
card_text lists Inputs line = refl
card_text lists Outputs line = refl
card_text lists Names line = refl
card_text lists Latch line = refl
card_text lists Subckt line = refl
card_text lists Clock line = refl
card_text lists End line = refl

-- the fault of a line by its parts

pub fault_control : (context : Context) (line : LogicalLine) → list_any (list_any is_control) line.words ≡ true → Some ControlByte ≡ context_fault context line
fault_control context line control =
    sym (ap (λ t. cond t (Some ControlByte) (cond (is_card line) (card_fault context.model (card_of line) line.words) (row_fault context.table line.words))) control)

pub fault_card : (context : Context) (line : LogicalLine) → list_any (list_any is_control) line.words ≡ false → is_card line ≡ true
    → card_fault context.model (card_of line) line.words ≡ context_fault context line
fault_card context line control card = sym (
    ap (λ t. cond t (Some ControlByte) (cond (is_card line) (card_fault context.model (card_of line) line.words) (row_fault context.table line.words))) control
    ∙ ap (λ t. cond t (card_fault context.model (card_of line) line.words) (row_fault context.table line.words)) card)

pub fault_row : (context : Context) (line : LogicalLine) → list_any (list_any is_control) line.words ≡ false → is_card line ≡ false
    → row_fault context.table line.words ≡ context_fault context line
fault_row context line control card = sym (
    ap (λ t. cond t (Some ControlByte) (cond (is_card line) (card_fault context.model (card_of line) line.words) (row_fault context.table line.words))) control
    ∙ ap (λ t. cond t (card_fault context.model (card_of line) line.words) (row_fault context.table line.words)) card)

pub opened_row : (b : BuilderData) → IsBuilder b → opened_by (built_in b).table ≡ option_map width_and_letter (table_of_open b.open_model)
opened_row b h = opened-is (open_lists b.file) (table_of_open b.open_model) h.table

-- nothing stands behind the last model and the last part where no model is open
pub closed-all : {b : BuilderData} → IsBuilder b → (built_in b).model ≡ None → IsClosed (open_lists b.file)
closed-all {b} h none =
    let no_open = no_model_open b none in
    let model = subst (IsOpenModel (length b.file.names) (open_lists b.file)) no_open h.model in
    let table = subst (λ o. IsOpenTable (open_lists b.file) (table_of_open o)) no_open h.table in
    record { inputs = model.0; outputs = model.1; parts = model.2; words = table.0; rows = table.1 }
