-- Where the lists of a part and of a model stand in the lists of a file by numbers.
use Rattle.std.specs.Prelude.{ℕ, ◌≤◌, ◌<◌, ◌+◌, List, take}
use Rattle.numbered_file.specs.NumberedData.{NumberedData}
use Rattle.numbered_file.specs.Numbered.{between}
use Rattle.numbered_file.specs.OpenLists.{inputs_end, outputs_end, parts_end, rows_end, words_end}

-- where the words and the rows of the part at a place begin: where those of the parts before it end
abbrev pub first_word : NumberedData → ℕ → ℕ
first_word d k = words_end 0 (take k d.parts)

abbrev pub first_row : NumberedData → ℕ → ℕ
first_row d k = rows_end 0 (take k d.parts)

-- of a list that has an item for each word, those of the part at a place
abbrev pub of_part : {A : Type 0} → NumberedData → ℕ → List A → List A
of_part d k items = between (first_word d k) (first_word d (k + 1)) items

-- the words of the part at a place, and the places of its rows
abbrev pub words_at : NumberedData → ℕ → List ℕ
words_at d k = of_part d k d.words

abbrev pub rows_at : NumberedData → ℕ → List ℕ
rows_at d k = between (first_row d k) (first_row d (k + 1)) d.rows

-- where the inputs, outputs and parts of a model begin: where those of the models before it end
abbrev pub first_input : NumberedData → ℕ → ℕ
first_input d m = inputs_end 0 (take m d.models)

abbrev pub first_output : NumberedData → ℕ → ℕ
first_output d m = outputs_end 0 (take m d.models)

abbrev pub first_part : NumberedData → ℕ → ℕ
first_part d m = parts_end 0 (take m d.models)

-- of a list that has an item for each input, or for each output, those of a model
abbrev pub of_inputs : {A : Type 0} → NumberedData → ℕ → List A → List A
of_inputs d m items = between (first_input d m) (first_input d (m + 1)) items

abbrev pub of_outputs : {A : Type 0} → NumberedData → ℕ → List A → List A
of_outputs d m items = between (first_output d m) (first_output d (m + 1)) items

-- the inputs and outputs of a model
abbrev pub inputs_at : NumberedData → ℕ → List ℕ
inputs_at d m = of_inputs d m d.inputs

abbrev pub outputs_at : NumberedData → ℕ → List ℕ
outputs_at d m = of_outputs d m d.outputs

-- the part at a place is one of a model's
abbrev pub IsPartOf : NumberedData → ℕ → ℕ → Type 0
IsPartOf d m k = (first_part d m ≤ k) × (k < first_part d (m + 1))
