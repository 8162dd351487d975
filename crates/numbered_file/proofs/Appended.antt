-- What is appended to the lists of a file by numbers stands behind its last model or its last part, and they stay in order.
use Rattle.std.proofs.Common.{◌≡◌, ℕ, ◌≤◌, ◌<◌, List, [], ◌∷◌, ◌++◌, length, drop, refl, sym, ap, ◌∙◌, subst, arith, append-nil, Some}
use Rattle.std.specs.Prelude.{slice_get}
use Rattle.std.specs.List.{AllByRecursion, IsDistinct}
use Rattle.std.proofs.lemmas.List.{length-append, length-map, drop-append-le, drop_all}
use Rattle.std.proofs.lemmas.Option.{get_or_from_slice_get}
use Rattle.dom_base.proofs.Lists.{AllByRecursion-append, AllByRecursion-weaker, map-push}
use Rattle.blif_ast.specs.Cards.{same}
use Rattle.numbered_file.specs.declared.parts.ModelAt.{ModelAt}
use Rattle.numbered_file.specs.declared.parts.PartAt.{PartAt}
use Rattle.numbered_file.specs.NumberedData.{NumberedData}
use Rattle.numbered_file.specs.Numbered.{name_of, named, Part, part_by, parts_from, parts_of, model_by, models_from, models_in, AreBelow, IsNumbered, PartsRise, ModelsRise}
use Rattle.numbered_file.specs.OpenLists.{open_lists, words_end, rows_end, inputs_end, outputs_end, parts_end, with_inputs, with_outputs, with_words, with_row, with_part, with_model}
use Rattle.numbered_file.proofs.Growth.{between-last, named-grows, AreBelow-grows, PartsRise-within, PartsRise-grows, PartsRise-push, words_end-push, rows_end-push, parts-grow, parts-push, length-parts, ModelsRise-within, ModelsRise-grows, ModelsRise-push, inputs_end-push, outputs_end-push, parts_end-push, models-grow, models-push}

-- models stay where lists grow
models-stay : (names more inputs more_inputs outputs more_outputs : List (List ℕ)) (parts more_parts : List Part) {inputs' outputs' : List (List ℕ)} {parts' : List Part} (models : List ModelAt)
    → inputs' ≡ inputs ++ more_inputs → outputs' ≡ outputs ++ more_outputs → parts' ≡ parts ++ more_parts
    → AllByRecursion (λ m. m.name < length names) models → ModelsRise 0 0 0 models (length inputs) (length outputs) (length parts)
    → models_from (names ++ more) inputs' outputs' parts' 0 0 0 models ≡ models_from names inputs outputs parts 0 0 0 models
models-stay names more inputs more_inputs outputs more_outputs parts more_parts models i o p below rise =
    (λ k. models_from (names ++ more) (i k) (o k) (p k) 0 0 0 models)
    ∙ models-grow names more inputs more_inputs outputs more_outputs parts more_parts 0 0 0 models below rise

-- parts stay where words and rows grow
parts-stay : (text : List ℕ) (words more_words : List (List ℕ)) (rows more_rows : List ℕ) {words' : List (List ℕ)} {rows' : List ℕ} (parts : List PartAt)
    → words' ≡ words ++ more_words → rows' ≡ rows ++ more_rows → PartsRise 0 0 parts (length words) (length rows)
    → parts_from text words' rows' 0 0 parts ≡ parts_from text words rows 0 0 parts
parts-stay text words more_words rows more_rows parts w r rise =
    (λ k. parts_from text (w k) (r k) 0 0 parts) ∙ parts-grow text words more_words rows more_rows 0 0 parts rise

length-named : (names : List (List ℕ)) (numbers : List ℕ) → length (named names numbers) ≡ length numbers
length-named names numbers = length-map numbers (name_of names)

module _ (d : NumberedData) (h : IsNumbered d) where
  parts_rise : PartsRise 0 0 d.parts (length (named d.names d.words)) (length d.rows)
  parts_rise = subst (λ n. PartsRise 0 0 d.parts n (length d.rows)) (sym (length-named d.names d.words)) h.parts

  length_parts : length (parts_of d) ≡ length d.parts
  length_parts = length-parts d.text (named d.names d.words) d.rows 0 0 d.parts

  models_rise : ModelsRise 0 0 0 d.models (length (named d.names d.inputs)) (length (named d.names d.outputs)) (length (parts_of d))
  models_rise =
      subst (λ n. ModelsRise 0 0 0 d.models n (length (named d.names d.outputs)) (length (parts_of d))) (sym (length-named d.names d.inputs))
      (subst (λ n. ModelsRise 0 0 0 d.models (length d.inputs) n (length (parts_of d))) (sym (length-named d.names d.outputs))
      (subst (ModelsRise 0 0 0 d.models (length d.inputs) (length d.outputs)) (sym length_parts) h.models))

  -- names are added
  module _ (more : List (List ℕ)) where
    grown_parts : parts_from d.text (named (d.names ++ more) d.words) d.rows 0 0 d.parts ≡ parts_of d
    grown_parts = ap (λ ws. parts_from d.text ws d.rows 0 0 d.parts) (named-grows d.names more d.words h.words)

    pub open_lists-grown : open_lists (record d { names = d.names ++ more }) ≡ open_lists d
    open_lists-grown = λ i. record {
      text = d.text;
      models = (models-stay d.names more (named d.names d.inputs) [] (named d.names d.outputs) [] (parts_of d) [] d.models
          (named-grows d.names more d.inputs h.inputs ∙ sym (append-nil (named d.names d.inputs)))
          (named-grows d.names more d.outputs h.outputs ∙ sym (append-nil (named d.names d.outputs)))
          (grown_parts ∙ sym (append-nil (parts_of d))) h.model_names models_rise) i;
      inputs = drop (inputs_end 0 d.models) (named-grows d.names more d.inputs h.inputs i);
      outputs = drop (outputs_end 0 d.models) (named-grows d.names more d.outputs h.outputs i);
      parts = drop (parts_end 0 d.models) (grown_parts i);
      words = drop (words_end 0 d.parts) (named-grows d.names more d.words h.words i);
      rows = drop (rows_end 0 d.parts) d.rows;
    }

    pub IsNumbered-grown : IsDistinct same (d.names ++ more) → IsNumbered (record d { names = d.names ++ more })
    IsNumbered-grown distinct = record {
      names = distinct;
      inputs = AreBelow-grows d.names more d.inputs h.inputs;
      outputs = AreBelow-grows d.names more d.outputs h.outputs;
      words = AreBelow-grows d.names more d.words h.words;
      model_names = AllByRecursion-weaker (λ (m : ModelAt). m.name < length d.names) (λ m. m.name < length (d.names ++ more))
          (λ m lt. omega (arith, lt, length-append d.names more)) d.models h.model_names;
      parts = h.parts;
      models = h.models;
    }

  -- a number is added
  module _ (number : ℕ) (word : List ℕ) (is : slice_get d.names number ≡ Some word) (below : number < length d.names) where
    pushed : (numbers : List ℕ) → named d.names (numbers ++ number ∷ []) ≡ named d.names numbers ++ word ∷ []
    pushed numbers = map-push (name_of d.names) numbers number ∙ ap (λ w. named d.names numbers ++ w ∷ []) (get_or_from_slice_get d.names number word [] is)

    behind : (start : ℕ) (numbers : List ℕ) → start ≤ length numbers
        → drop start (named d.names (numbers ++ number ∷ [])) ≡ drop start (named d.names numbers) ++ word ∷ []
    behind start numbers within = ap (drop start) (pushed numbers)
        ∙ drop-append-le start (named d.names numbers) (word ∷ []) (omega (arith, within, length-named d.names numbers))

    still_below : (numbers : List ℕ) → AreBelow (length d.names) numbers → AreBelow (length d.names) (numbers ++ number ∷ [])
    still_below numbers all = AllByRecursion-append (λ n. n < length d.names) numbers (number ∷ []) all (below, tt)

    longer : (numbers : List ℕ) → length numbers ≤ length (numbers ++ number ∷ [])
    longer numbers = omega (arith, length-append numbers (number ∷ []))

    stay : (more_inputs more_outputs : List (List ℕ)) {inputs outputs : List (List ℕ)}
        → inputs ≡ named d.names d.inputs ++ more_inputs → outputs ≡ named d.names d.outputs ++ more_outputs
        → models_from d.names inputs outputs (parts_of d) 0 0 0 d.models ≡ models_in d
    stay more_inputs more_outputs {inputs} {outputs} i o =
        (λ k. models_from (sym (append-nil d.names) k) inputs outputs (parts_of d) 0 0 0 d.models)
        ∙ models-stay d.names [] (named d.names d.inputs) more_inputs (named d.names d.outputs) more_outputs (parts_of d) [] d.models i o (sym (append-nil (parts_of d))) h.model_names models_rise

    pub open_lists-input : open_lists (record d { inputs = d.inputs ++ number ∷ [] }) ≡ with_inputs (open_lists d) (word ∷ [])
    open_lists-input = λ i. record (open_lists d) {
      models = stay (word ∷ []) [] (pushed d.inputs) (sym (append-nil (named d.names d.outputs))) i;
      inputs = behind (inputs_end 0 d.models) d.inputs (ModelsRise-within 0 0 0 d.models (length d.inputs) (length d.outputs) (length d.parts) h.models).0 i;
    }

    pub IsNumbered-input : IsNumbered (record d { inputs = d.inputs ++ number ∷ [] })
    IsNumbered-input = record {
      names = h.names;
      outputs = h.outputs;
      words = h.words;
      model_names = h.model_names;
      parts = h.parts;
      inputs = still_below d.inputs h.inputs;
      models = ModelsRise-grows 0 0 0 d.models (length d.inputs) (length d.outputs) (length d.parts) (length (d.inputs ++ number ∷ [])) (length d.outputs) (length d.parts)
          (longer d.inputs) (omega arith) (omega arith) h.models;
    }

    pub open_lists-output : open_lists (record d { outputs = d.outputs ++ number ∷ [] }) ≡ with_outputs (open_lists d) (word ∷ [])
    open_lists-output = λ i. record (open_lists d) {
      models = stay [] (word ∷ []) (sym (append-nil (named d.names d.inputs))) (pushed d.outputs) i;
      outputs = behind (outputs_end 0 d.models) d.outputs (ModelsRise-within 0 0 0 d.models (length d.inputs) (length d.outputs) (length d.parts) h.models).1 i;
    }

    pub IsNumbered-output : IsNumbered (record d { outputs = d.outputs ++ number ∷ [] })
    IsNumbered-output = record {
      names = h.names;
      inputs = h.inputs;
      words = h.words;
      model_names = h.model_names;
      parts = h.parts;
      outputs = still_below d.outputs h.outputs;
      models = ModelsRise-grows 0 0 0 d.models (length d.inputs) (length d.outputs) (length d.parts) (length d.inputs) (length (d.outputs ++ number ∷ [])) (length d.parts)
          (omega arith) (longer d.outputs) (omega arith) h.models;
    }

    parts_with_word : parts_from d.text (named d.names (d.words ++ number ∷ [])) d.rows 0 0 d.parts ≡ parts_of d
    parts_with_word = parts-stay d.text (named d.names d.words) (word ∷ []) d.rows [] d.parts (pushed d.words) (sym (append-nil d.rows)) parts_rise

    pub open_lists-word : open_lists (record d { words = d.words ++ number ∷ [] }) ≡ with_words (open_lists d) (word ∷ [])
    open_lists-word = λ i. record (open_lists d) {
      models = ap (λ ps. models_from d.names (named d.names d.inputs) (named d.names d.outputs) ps 0 0 0 d.models) parts_with_word i;
      parts = drop (parts_end 0 d.models) (parts_with_word i);
      words = behind (words_end 0 d.parts) d.words (PartsRise-within 0 0 d.parts (length d.words) (length d.rows) h.parts).0 i;
    }

    pub IsNumbered-word : IsNumbered (record d { words = d.words ++ number ∷ [] })
    IsNumbered-word = record {
      names = h.names;
      inputs = h.inputs;
      outputs = h.outputs;
      model_names = h.model_names;
      models = h.models;
      words = still_below d.words h.words;
      parts = PartsRise-grows 0 0 d.parts (length d.words) (length d.rows) (length (d.words ++ number ∷ [])) (length d.rows) (longer d.words) (omega arith) h.parts;
    }

  -- a row is added
  module _ (place : ℕ) where
    parts_with_row : parts_from d.text (named d.names d.words) (d.rows ++ place ∷ []) 0 0 d.parts ≡ parts_of d
    parts_with_row = parts-stay d.text (named d.names d.words) [] d.rows (place ∷ []) d.parts (sym (append-nil (named d.names d.words))) refl parts_rise

    pub open_lists-row : open_lists (record d { rows = d.rows ++ place ∷ [] }) ≡ with_row (open_lists d) place
    open_lists-row = λ i. record (open_lists d) {
      models = ap (λ ps. models_from d.names (named d.names d.inputs) (named d.names d.outputs) ps 0 0 0 d.models) parts_with_row i;
      parts = drop (parts_end 0 d.models) (parts_with_row i);
      rows = drop-append-le (rows_end 0 d.parts) d.rows (place ∷ []) (PartsRise-within 0 0 d.parts (length d.words) (length d.rows) h.parts).1 i;
    }

    pub IsNumbered-row : IsNumbered (record d { rows = d.rows ++ place ∷ [] })
    IsNumbered-row = record {
      names = h.names;
      inputs = h.inputs;
      outputs = h.outputs;
      words = h.words;
      model_names = h.model_names;
      models = h.models;
      parts = PartsRise-grows 0 0 d.parts (length d.words) (length d.rows) (length d.words) (length (d.rows ++ place ∷ [])) (omega arith)
          (omega (arith, length-append d.rows (place ∷ []))) h.parts;
    }

  -- the words and rows behind the last part become a part
  module _ (part : PartAt) (words_is : part.words_end ≡ length d.words) (rows_is : part.rows_end ≡ length d.rows) where
    one_more : parts_from d.text (named d.names d.words) d.rows 0 0 (d.parts ++ part ∷ [])
        ≡ parts_of d ++ part_by d.text part.kind part.line (open_lists d).words (open_lists d).rows ∷ []
    one_more = parts-push d.text (named d.names d.words) d.rows 0 0 d.parts part
        ∙ (λ i. parts_of d ++ part_by d.text part.kind part.line
        (between-last (words_end 0 d.parts) part.words_end (named d.names d.words) (words_is ∙ sym (length-named d.names d.words)) i)
        (between-last (rows_end 0 d.parts) part.rows_end d.rows rows_is i) ∷ [])

    nothing : {A : Type 0} (end : ℕ) (items : List A) → end ≡ length items → drop end items ≡ []
    nothing end items is = drop_all end items (omega (arith, is))

    pub open_lists-part : open_lists (record d { parts = d.parts ++ part ∷ [] }) ≡ with_part (open_lists d) part.kind part.line
    open_lists-part = λ i. record (open_lists d) {
      models = ((λ k. models_from (sym (append-nil d.names) k) (named d.names d.inputs) (named d.names d.outputs) (one_more k) 0 0 0 d.models)
          ∙ models-stay d.names [] (named d.names d.inputs) [] (named d.names d.outputs) [] (parts_of d) (part_by d.text part.kind part.line (open_lists d).words (open_lists d).rows ∷ []) d.models
          (sym (append-nil (named d.names d.inputs))) (sym (append-nil (named d.names d.outputs))) refl h.model_names models_rise) i;
      parts = (ap (drop (parts_end 0 d.models)) one_more
          ∙ drop-append-le (parts_end 0 d.models) (parts_of d) _
          (omega (arith, length_parts, (ModelsRise-within 0 0 0 d.models (length d.inputs) (length d.outputs) (length d.parts) h.models).2))) i;
      words = (ap (λ n. drop n (named d.names d.words)) (words_end-push 0 d.parts part ∙ words_is)
          ∙ nothing (length d.words) (named d.names d.words) (sym (length-named d.names d.words))) i;
      rows = (ap (λ n. drop n d.rows) (rows_end-push 0 d.parts part ∙ rows_is) ∙ nothing (length d.rows) d.rows refl) i;
    }

    pub IsNumbered-part : IsNumbered (record d { parts = d.parts ++ part ∷ [] })
    IsNumbered-part = record {
      names = h.names;
      inputs = h.inputs;
      outputs = h.outputs;
      words = h.words;
      model_names = h.model_names;
      parts = PartsRise-push 0 0 d.parts part (length d.words) (length d.rows) h.parts words_is rows_is;
      models = ModelsRise-grows 0 0 0 d.models (length d.inputs) (length d.outputs) (length d.parts) (length d.inputs) (length d.outputs) (length (d.parts ++ part ∷ []))
          (omega arith) (omega arith) (omega (arith, length-append d.parts (part ∷ []))) h.models;
    }

  -- what stands behind the last model becomes a model
  module _ (model : ModelAt) (below : model.name < length d.names)
      (inputs_is : model.inputs_end ≡ length d.inputs) (outputs_is : model.outputs_end ≡ length d.outputs) (parts_is : model.parts_end ≡ length d.parts) where
    none : {A : Type 0} (end : ℕ) (items : List A) → end ≡ length items → drop end items ≡ []
    none end items is = drop_all end items (omega (arith, is))

    pub open_lists-model : open_lists (record d { models = d.models ++ model ∷ [] }) ≡ with_model (open_lists d) (name_of d.names model.name) model.line
    open_lists-model = λ i. record (open_lists d) {
      models = (models-push d.names (named d.names d.inputs) (named d.names d.outputs) (parts_of d) 0 0 0 d.models model
          ∙ (λ k. models_in d ++ model_by (name_of d.names model.name) model.line
          (between-last (inputs_end 0 d.models) model.inputs_end (named d.names d.inputs) (inputs_is ∙ sym (length-named d.names d.inputs)) k)
          (between-last (outputs_end 0 d.models) model.outputs_end (named d.names d.outputs) (outputs_is ∙ sym (length-named d.names d.outputs)) k)
          (between-last (parts_end 0 d.models) model.parts_end (parts_of d) (parts_is ∙ sym length_parts) k) ∷ [])) i;
      inputs = (ap (λ n. drop n (named d.names d.inputs)) (inputs_end-push 0 d.models model ∙ inputs_is)
          ∙ none (length d.inputs) (named d.names d.inputs) (sym (length-named d.names d.inputs))) i;
      outputs = (ap (λ n. drop n (named d.names d.outputs)) (outputs_end-push 0 d.models model ∙ outputs_is)
          ∙ none (length d.outputs) (named d.names d.outputs) (sym (length-named d.names d.outputs))) i;
      parts = (ap (λ n. drop n (parts_of d)) (parts_end-push 0 d.models model ∙ parts_is)
          ∙ none (length d.parts) (parts_of d) (sym length_parts)) i;
    }

    pub IsNumbered-model : IsNumbered (record d { models = d.models ++ model ∷ [] })
    IsNumbered-model = record {
      names = h.names;
      inputs = h.inputs;
      outputs = h.outputs;
      words = h.words;
      parts = h.parts;
      model_names = AllByRecursion-append (λ (m : ModelAt). m.name < length d.names) d.models (model ∷ []) h.model_names (below, tt);
      models = ModelsRise-push 0 0 0 d.models model (length d.inputs) (length d.outputs) (length d.parts) h.models inputs_is outputs_is parts_is;
    }
