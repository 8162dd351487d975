-- What stands in a file by numbers behind its last model and its last part.
use Rattle.std.specs.Prelude.{ℕ, ◌≡◌, List, [], ◌∷◌, ◌++◌, drop}
use Rattle.blif_ast.specs.BlifModelData.{BlifModelData}
use Rattle.numbered_file.specs.declared.parts.ModelAt.{ModelAt}
use Rattle.numbered_file.specs.declared.parts.PartAt.{PartAt}
use Rattle.numbered_file.specs.declared.parts.PartKind.{PartKind}
use Rattle.numbered_file.specs.NumberedData.{NumberedData}
use Rattle.numbered_file.specs.Numbered.{Part, named, part_by, model_by, parts_of, models_in}

-- where the words and the rows of the last part end, and where the inputs, outputs and parts of the last model do
abbrev pub words_end : ℕ → List PartAt → ℕ
words_end word [] = word
words_end word (part ∷ parts) = words_end part.words_end parts

abbrev pub rows_end : ℕ → List PartAt → ℕ
rows_end row [] = row
rows_end row (part ∷ parts) = rows_end part.rows_end parts

abbrev pub inputs_end : ℕ → List ModelAt → ℕ
inputs_end input [] = input
inputs_end input (m ∷ ms) = inputs_end m.inputs_end ms

abbrev pub outputs_end : ℕ → List ModelAt → ℕ
outputs_end output [] = output
outputs_end output (m ∷ ms) = outputs_end m.outputs_end ms

abbrev pub parts_end : ℕ → List ModelAt → ℕ
parts_end part [] = part
parts_end part (m ∷ ms) = parts_end m.parts_end ms

-- the text; the models; the inputs, outputs and parts behind the last model; the words and rows behind the last part
pub record OpenLists : Type 0 where
  pub text : List ℕ
  pub models : List BlifModelData
  pub inputs : List (List ℕ)
  pub outputs : List (List ℕ)
  pub parts : List Part
  pub words : List (List ℕ)
  pub rows : List ℕ

abbrev pub open_lists : NumberedData → OpenLists
open_lists d = record {
  text = d.text;
  models = models_in d;
  inputs = drop (inputs_end 0 d.models) (named d.names d.inputs);
  outputs = drop (outputs_end 0 d.models) (named d.names d.outputs);
  parts = drop (parts_end 0 d.models) (parts_of d);
  words = drop (words_end 0 d.parts) (named d.names d.words);
  rows = drop (rows_end 0 d.parts) d.rows;
}

-- no lists yet, of this text
abbrev pub no_lists : List ℕ → OpenLists
no_lists text = record { text = text; models = []; inputs = []; outputs = []; parts = []; words = []; rows = [] }

-- the lists with these names, words or rows appended
abbrev pub with_inputs : OpenLists → List (List ℕ) → OpenLists
with_inputs l names = record l { inputs = l.inputs ++ names }

abbrev pub with_outputs : OpenLists → List (List ℕ) → OpenLists
with_outputs l names = record l { outputs = l.outputs ++ names }

abbrev pub with_words : OpenLists → List (List ℕ) → OpenLists
with_words l names = record l { words = l.words ++ names }

abbrev pub with_row : OpenLists → ℕ → OpenLists
with_row l place = record l { rows = l.rows ++ place ∷ [] }

-- the words and rows become a part, and the inputs, outputs and parts a model
abbrev pub with_part : OpenLists → PartKind → ℕ → OpenLists
with_part l kind line = record l { parts = l.parts ++ part_by l.text kind line l.words l.rows ∷ []; words = []; rows = [] }

abbrev pub with_model : OpenLists → List ℕ → ℕ → OpenLists
with_model l name line =
    record l { models = l.models ++ model_by name line l.inputs l.outputs l.parts ∷ []; inputs = []; outputs = []; parts = [] }

-- the lists with these parts appended
abbrev pub with_parts : OpenLists → List Part → OpenLists
with_parts l parts = record l { parts = l.parts ++ parts }

-- nothing stands behind the last model and the last part
pub record IsClosed (lists : OpenLists) : Type 0 where
  pub inputs : lists.inputs ≡ []
  pub outputs : lists.outputs ≡ []
  pub parts : lists.parts ≡ []
  pub words : lists.words ≡ []
  pub rows : lists.rows ≡ []
