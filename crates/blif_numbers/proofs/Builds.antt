-- What is appended to the lists of the file so far, and what was made of the lines by it.
use Rattle.std.proofs.Common.{◌≡◌, ℕ, ◌-◌, Bool, true, ◌==◌, List, [], ◌∷◌, ◌++◌, length, map, take, drop, refl, sym, ap, ◌∙◌, arith, append-nil, append_assoc, Some, None, eqb-true}
use Rattle.std.specs.Prelude.{Option, ◌&&◌, nat_lt}
use Rattle.std.specs.List.{filter_map, list_all}
use Rattle.std.specs.Option.{option_map, option_to_list}
use Rattle.std.proofs.lemmas.List.Elements.{filter_map-append}
use Rattle.std.proofs.lemmas.List.{get_or_append_left, length-take-le}
use Rattle.dom_base.specs.Lines.{first_word}
use Rattle.dom_base.proofs.Bools.{and_both}
use Rattle.dom_base.proofs.Lists.{map-push}
use Rattle.blif_ast.specs.declared.card.Card.{Card}
use Rattle.blif_ast.specs.declared.card.Card.TheVariants.{Inputs, Outputs, Names, Latch, Subckt, Clock}
use Rattle.blif_ast.specs.declared.latch.Latch.{Latch as LatchValue}
use Rattle.blif_ast.specs.declared.letter.Letter.{Letter}
use Rattle.blif_ast.specs.TableData.{TableData}
use Rattle.blif_ast.specs.InstanceData.{InstanceData}
use Rattle.blif_ast.specs.BlifModelData.{BlifModelData}
use Rattle.blif_ast.specs.LogicalLines.{LogicalLine}
use Rattle.blif_ast.specs.Cards.{formal_of, actual_of, is_letter, is_row_form, is_value, last_letter}
use Rattle.blif_ast.specs.Models.{binding_of, row_letter, row_letters, row_at}
use Rattle.blif_numbers.specs.Build.{Built, built_by, closed_models, first_letter_in, model_after_card, model_with_card, model_with_table, on_after, opened_by, table_after_card, table_with_row}
use Rattle.blif_numbers.specs.declared.open_model.OpenModel.{OpenModel}
use Rattle.blif_numbers.specs.declared.open_model.OpenTable.{OpenTable}
use Rattle.numbered_file.specs.declared.parts.PartKind.TheVariants as at
use Rattle.numbered_file.specs.Numbered.{Part, TablePart, LatchPart, InstancePart, bindings_by, instance_in, latch_in, model_by, name_of, table_in}
use Rattle.numbered_file.specs.OpenLists.{OpenLists, with_words, with_row, with_part, with_model}
use Rattle.blif_lines.specs.TextPlaces.{StandsAt}
use Rattle.blif_numbers.specs.BuilderData.{binding_words, built_of, card_taken, is_on, model_closed, model_of, open_table, table_closed, table_of_open, value_after, value_letter, width_and_letter, HasValue, IsInner, InnerInputs, InnerOutputs, InnerNames, InnerLatch, InnerSubckt, InnerClock, IsOpenModel, IsOpenTable}

-- a model with one more part
module _ (name : List ℕ) (line : ℕ) (inputs outputs : List (List ℕ)) (parts : List Part) where
  pub model-table : (table : TableData)
      → model_by name line inputs outputs (parts ++ TablePart table ∷ []) ≡ model_with_table (model_by name line inputs outputs parts) (Some table)
  model-table table = λ i. record (model_by name line inputs outputs parts) {
    tables = filter_map-append table_in parts (TablePart table ∷ []) i;
    latches = (filter_map-append latch_in parts (TablePart table ∷ []) ∙ append-nil (filter_map latch_in parts)) i;
    instances = (filter_map-append instance_in parts (TablePart table ∷ []) ∙ append-nil (filter_map instance_in parts)) i;
  }

  pub model-latch : (latch : LatchValue) → model_by name line inputs outputs (parts ++ LatchPart latch ∷ [])
      ≡ record (model_by name line inputs outputs parts) { latches = filter_map latch_in parts ++ latch ∷ [] }
  model-latch latch = λ i. record (model_by name line inputs outputs parts) {
    tables = (filter_map-append table_in parts (LatchPart latch ∷ []) ∙ append-nil (filter_map table_in parts)) i;
    latches = filter_map-append latch_in parts (LatchPart latch ∷ []) i;
    instances = (filter_map-append instance_in parts (LatchPart latch ∷ []) ∙ append-nil (filter_map instance_in parts)) i;
  }

  pub model-instance : (instance : InstanceData) → model_by name line inputs outputs (parts ++ InstancePart instance ∷ [])
      ≡ record (model_by name line inputs outputs parts) { instances = filter_map instance_in parts ++ instance ∷ [] }
  model-instance instance = λ i. record (model_by name line inputs outputs parts) {
    tables = (filter_map-append table_in parts (InstancePart instance ∷ []) ∙ append-nil (filter_map table_in parts)) i;
    latches = (filter_map-append latch_in parts (InstancePart instance ∷ []) ∙ append-nil (filter_map latch_in parts)) i;
    instances = filter_map-append instance_in parts (InstancePart instance ∷ []) i;
  }

no_table : (m : BlifModelData) → m ≡ model_with_table m None
no_table m = λ i. record m { tables = sym (append-nil m.tables) i }

-- what was made of the lines stays where names are added
pub built-grown : (names more : List (List ℕ)) (lists : OpenLists) (open_model : Option OpenModel) → IsOpenModel (length names) lists open_model
    → built_of (names ++ more) lists open_model ≡ built_of names lists open_model
built-grown names more lists None h = refl
built-grown names more lists (Some m) h =
    ap (λ name. record {
      models = lists.models;
      model = Some (model_by name m.line lists.inputs lists.outputs lists.parts);
      table = option_map (open_table lists) m.table;
    }) (get_or_append_left names more [] m.name h)

-- a table is closed

pub closed-table : (names : List (List ℕ)) (lists : OpenLists) (m : OpenModel) (t : OpenTable) → m.table ≡ Some t
    → built_of names (with_part lists (at.Table (is_on t.value)) t.line) (Some (record m { table = None })) ≡ table_closed (built_of names lists (Some m))
closed-table names lists m t is = λ i. record {
  models = lists.models;
  model = Some ((model-table (name_of names m.name) m.line lists.inputs lists.outputs lists.parts (open_table lists t)
      ∙ ap (λ o. model_with_table (model_of names lists m) (option_map (open_table lists) o)) (sym is)) i);
  table = None;
}

pub closed-no_table : (names : List (List ℕ)) (lists : OpenLists) (open_model : Option OpenModel) → table_of_open open_model ≡ None
    → built_of names lists open_model ≡ table_closed (built_of names lists open_model)
closed-no_table names lists None is = refl
closed-no_table names lists (Some m) is = λ i. record {
  models = lists.models;
  model = Some ((no_table (model_of names lists m) ∙ ap (λ o. model_with_table (model_of names lists m) (option_map (open_table lists) o)) (sym is)) i);
  table = option_map (open_table lists) (is i);
}

-- a model is closed

pub closed-model : (names : List (List ℕ)) (lists : OpenLists) (m : OpenModel)
    → built_of names (with_model lists (name_of names m.name) m.line) None ≡ model_closed (built_of names lists (Some m))
closed-model names lists m = refl

pub closed-no_model : (names : List (List ℕ)) (lists : OpenLists) → built_of names lists None ≡ model_closed (built_of names lists None)
closed-no_model names lists = λ i. record { models = sym (append-nil lists.models) i; model = None; table = None }

pub models-closed : (b : Built) → closed_models b.models b.model b.table ≡ (model_closed (table_closed b)).models
models-closed b = by b.model
  where
    by : (o : Option BlifModelData) → closed_models b.models o b.table ≡ b.models ++ option_to_list (option_map (λ m. model_with_table m b.table) o)
    by None = sym (append-nil b.models)
    by (Some m) = refl

-- a card that neither opens nor closes a model

after_card : (o : Option BlifModelData) (table : Option TableData) (card : Card) (line : LogicalLine)
    → model_after_card o table card line ≡ option_map (λ m. model_with_card m card line) (option_map (λ m. model_with_table m table) o)
after_card None table card line = refl
after_card (Some m) table card line = refl

pub taken-is : (b : Built) (card : Card) (line : LogicalLine) → IsInner card → built_by b (Some card) line ≡ card_taken (table_closed b) card line
taken-is b card line InnerInputs = λ i. record { models = b.models; model = after_card b.model b.table Inputs line i; table = None }
taken-is b card line InnerOutputs = λ i. record { models = b.models; model = after_card b.model b.table Outputs line i; table = None }
taken-is b card line InnerNames = λ i. record { models = b.models; model = after_card b.model b.table Names line i; table = table_after_card Names line }
taken-is b card line InnerLatch = λ i. record { models = b.models; model = after_card b.model b.table Latch line i; table = None }
taken-is b card line InnerSubckt = λ i. record { models = b.models; model = after_card b.model b.table Subckt line i; table = None }
taken-is b card line InnerClock = λ i. record { models = b.models; model = after_card b.model b.table Clock line i; table = None }

-- bindings by their words

pub bindings-words : (bindings : List (List ℕ)) → bindings_by (binding_words bindings) ≡ map binding_of bindings
bindings-words [] = refl
bindings-words (word ∷ bindings) = ap (λ l. record { formal = formal_of word; actual = actual_of word } ∷ l) (bindings-words bindings)

pub with_words-twice : (lists : OpenLists) (front more : List (List ℕ)) → with_words (with_words lists front) more ≡ with_words lists (front ++ more)
with_words-twice lists front more = λ i. record lists { words = append_assoc lists.words front more i }

-- a row

row_whole : (text : List ℕ) (place width : ℕ) (letters : List ℕ) → length letters ≡ width → StandsAt text place letters
    → row_at text width place ≡ map row_letter letters
row_whole text place width letters is stands =
    ap (λ n. map row_letter (take n (drop place text))) (sym is) ∙ ap (map row_letter) stands

pub row-read : (text : List ℕ) (place width : ℕ) (words : List (List ℕ)) → is_row_form width words ≡ true → StandsAt text place (first_word words)
    → row_at text width place ≡ row_letters words
row-read text place width [] form stands = absurd (cc)
row-read text place width (value ∷ []) form stands =
    let none : width ≡ 0 = eqb-true width 0 (and_both (width == 0) (is_value value) form).0 in
    ap (λ n. map row_letter (take n (drop place text))) none
row-read text place width (letters ∷ value ∷ []) form stands =
    let front = (and_both (nat_lt 0 width && (length letters == width) && list_all is_letter letters) (is_value value) form).0 in
    let sizes = (and_both (nat_lt 0 width && (length letters == width)) (list_all is_letter letters) front).0 in
    row_whole text place width letters (eqb-true (length letters) width (and_both (nat_lt 0 width) (length letters == width) sizes).1) stands
row-read text place width (a ∷ b ∷ c ∷ more) form stands = absurd (cc)

-- the open table as a row meets it
pub opened-is : (lists : OpenLists) (o : Option OpenTable) → IsOpenTable lists o → opened_by (option_map (open_table lists) o) ≡ option_map width_and_letter o
opened-is lists None h = refl
opened-is lists (Some t) h = λ i. Some (record { width = inputs_length i; letter = letter_is t.value lists.rows h.1 i })
  where
    inputs_length : length (open_table lists t).inputs ≡ t.width
    inputs_length = length-take-le (length lists.words - 1) lists.words (omega arith) ∙ omega (arith, h.0)

    letter_is : (value : Option Bool) (rows : List ℕ) → HasValue value rows
        → first_letter_in (map (row_at lists.text (length lists.words - 1)) rows) (is_on value) ≡ value_letter value
    letter_is None rows none = ap (λ rs. first_letter_in (map (row_at lists.text (length lists.words - 1)) rs) true) none
    letter_is (Some on) [] some = absurd (some refl)
    letter_is (Some on) (row ∷ rows) some = refl

on_is : (value : Option Bool) (rows : List ℕ) (read : ℕ → List Letter) (letter : ℕ) → HasValue value rows
    → is_on (value_after value letter) ≡ on_after (map read rows) (is_on value) letter
on_is None rows read letter none = ap (λ rs. on_after (map read rs) true letter) (sym none)
on_is (Some on) [] read letter some = absurd (some refl)
on_is (Some on) (row ∷ rows) read letter some = refl

pub row-pushed : (lists : OpenLists) (t : OpenTable) (place : ℕ) (words : List (List ℕ)) → IsOpenTable lists (Some t)
    → is_row_form t.width words ≡ true → StandsAt lists.text place (first_word words)
    → Some (open_table (with_row lists place) (record t { value = value_after t.value (last_letter words) })) ≡ table_with_row (Some (open_table lists t)) words
row-pushed lists t place words h form stands = λ i. Some (record (open_table lists t) {
  on = on_is t.value lists.rows read (last_letter words) h.1 i;
  rows = (map-push read lists.rows place ∙ ap (λ row. map read lists.rows ++ row ∷ []) row_is) i;
})
  where
    read : ℕ → List Letter
    read = row_at lists.text (length lists.words - 1)

    width_is : length lists.words - 1 ≡ t.width
    width_is = omega (arith, h.0)

    row_is : read place ≡ row_letters words
    row_is = ap (λ n. row_at lists.text n place) width_is ∙ row-read lists.text place t.width words form stands
