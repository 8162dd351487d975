-- What one push into a list of a file by numbers does to the file.
use Rattle.std.proofs.Common.{◌≡◌, ℕ, ◌<◌, List, [], ◌∷◌, ◌++◌, length, sym, ap, ◌∙◌, subst, Some}
use Rattle.std.specs.Prelude.{slice_get}
use Rattle.std.specs.List.{IsDistinct}
use Rattle.std.proofs.lemmas.Option.{slice_get-get_or}
use Rattle.blif_ast.specs.Cards.{same}
use Rattle.numbered_file.specs.declared.parts.ModelAt.{ModelAt}
use Rattle.numbered_file.specs.declared.parts.PartAt.{PartAt}
use Rattle.numbered_file.specs.NumberedData.{NumberedData}
use Rattle.numbered_file.specs.Numbered.{name_of, IsNumbered}
use Rattle.numbered_file.specs.NameNumbers.{Grows}
use Rattle.numbered_file.specs.OpenLists.{open_lists, with_inputs, with_model, with_outputs, with_part, with_row, with_words}
use Rattle.numbered_file.proofs.Appended.{open_lists-grown, open_lists-input, open_lists-model, open_lists-output, open_lists-part, open_lists-row, open_lists-word, IsNumbered-grown, IsNumbered-input, IsNumbered-model, IsNumbered-output, IsNumbered-part, IsNumbered-row, IsNumbered-word}

-- The file before and after; what is seen of it before is the first.
module _ {d before : NumberedData} (h : IsNumbered d) (seen : d ≡ before) where
  -- names are added
  module _ {names : List (List ℕ)} (grows : Grows d.names names) where
    pub names-lists : open_lists (record d { names = names }) ≡ open_lists before
    names-lists = ap (λ ns. open_lists (record d { names = ns })) grows.1 ∙ open_lists-grown d h grows.0 ∙ ap open_lists seen

    pub names-numbered : IsDistinct same names → IsNumbered (record d { names = names })
    names-numbered distinct =
        subst (λ ns. IsNumbered (record d { names = ns })) (sym grows.1) (IsNumbered-grown d h grows.0 (subst (IsDistinct same) grows.1 distinct))

  module _ {number : ℕ} (below : number < length before.names) where
    there : slice_get d.names number ≡ Some (name_of before.names number)
    there = ap (λ (x : NumberedData). slice_get x.names number) seen ∙ slice_get-get_or before.names number [] below

    low : number < length d.names
    low = subst (λ (x : NumberedData). number < length x.names) (sym seen) below

    module _ {inputs : List ℕ} (pushed : inputs ≡ d.inputs ++ number ∷ []) where
      pub input-lists : open_lists (record d { inputs = inputs }) ≡ with_inputs (open_lists before) (name_of before.names number ∷ [])
      input-lists = ap (λ l. open_lists (record d { inputs = l })) pushed ∙ open_lists-input d h number (name_of before.names number) there low
          ∙ ap (λ x. with_inputs (open_lists x) (name_of before.names number ∷ [])) seen

      pub input-numbered : IsNumbered (record d { inputs = inputs })
      input-numbered = subst (λ l. IsNumbered (record d { inputs = l })) (sym pushed) (IsNumbered-input d h number (name_of before.names number) there low)

    module _ {outputs : List ℕ} (pushed : outputs ≡ d.outputs ++ number ∷ []) where
      pub output-lists : open_lists (record d { outputs = outputs }) ≡ with_outputs (open_lists before) (name_of before.names number ∷ [])
      output-lists = ap (λ l. open_lists (record d { outputs = l })) pushed ∙ open_lists-output d h number (name_of before.names number) there low
          ∙ ap (λ x. with_outputs (open_lists x) (name_of before.names number ∷ [])) seen

      pub output-numbered : IsNumbered (record d { outputs = outputs })
      output-numbered = subst (λ l. IsNumbered (record d { outputs = l })) (sym pushed) (IsNumbered-output d h number (name_of before.names number) there low)

    module _ {words : List ℕ} (pushed : words ≡ d.words ++ number ∷ []) where
      pub word-lists : open_lists (record d { words = words }) ≡ with_words (open_lists before) (name_of before.names number ∷ [])
      word-lists = ap (λ l. open_lists (record d { words = l })) pushed ∙ open_lists-word d h number (name_of before.names number) there low
          ∙ ap (λ x. with_words (open_lists x) (name_of before.names number ∷ [])) seen

      pub word-numbered : IsNumbered (record d { words = words })
      word-numbered = subst (λ l. IsNumbered (record d { words = l })) (sym pushed) (IsNumbered-word d h number (name_of before.names number) there low)

  module _ {rows : List ℕ} (place : ℕ) (pushed : rows ≡ d.rows ++ place ∷ []) where
    pub row-lists : open_lists (record d { rows = rows }) ≡ with_row (open_lists before) place
    row-lists = ap (λ l. open_lists (record d { rows = l })) pushed ∙ open_lists-row d h place ∙ ap (λ x. with_row (open_lists x) place) seen

    pub row-numbered : IsNumbered (record d { rows = rows })
    row-numbered = subst (λ l. IsNumbered (record d { rows = l })) (sym pushed) (IsNumbered-row d h place)

  module _ {parts : List PartAt} (part : PartAt) (words_is : part.words_end ≡ length d.words) (rows_is : part.rows_end ≡ length d.rows)
      (pushed : parts ≡ d.parts ++ part ∷ []) where
    pub part-lists : open_lists (record d { parts = parts }) ≡ with_part (open_lists before) part.kind part.line
    part-lists = ap (λ l. open_lists (record d { parts = l })) pushed ∙ open_lists-part d h part words_is rows_is ∙ ap (λ x. with_part (open_lists x) part.kind part.line) seen

    pub part-numbered : IsNumbered (record d { parts = parts })
    part-numbered = subst (λ l. IsNumbered (record d { parts = l })) (sym pushed) (IsNumbered-part d h part words_is rows_is)

  module _ {models : List ModelAt} (model : ModelAt) (below : model.name < length before.names)
      (inputs_is : model.inputs_end ≡ length d.inputs) (outputs_is : model.outputs_end ≡ length d.outputs) (parts_is : model.parts_end ≡ length d.parts)
      (pushed : models ≡ d.models ++ model ∷ []) where
    here : model.name < length d.names
    here = subst (λ (x : NumberedData). model.name < length x.names) (sym seen) below

    pub model-lists : open_lists (record d { models = models }) ≡ with_model (open_lists before) (name_of before.names model.name) model.line
    model-lists = ap (λ l. open_lists (record d { models = l })) pushed ∙ open_lists-model d h model here inputs_is outputs_is parts_is
        ∙ ap (λ (x : NumberedData). with_model (open_lists x) (name_of x.names model.name) model.line) seen

    pub model-numbered : IsNumbered (record d { models = models })
    model-numbered = subst (λ l. IsNumbered (record d { models = l })) (sym pushed) (IsNumbered-model d h model here inputs_is outputs_is parts_is)
