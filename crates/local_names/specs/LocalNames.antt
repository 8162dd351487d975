-- The names of each model of a file of BLIF (Berkeley Logic Interchange Format) by numbers, and the places of words of cards among
-- them.
use Rattle.std.specs.Prelude.{ℕ, ◌≡◌, ◌<◌, List, [], ◌∷◌, drop, length, map, Some, slice_get, slice_index_or}
use Rattle.numbered_file.specs.declared.parts.PartAt.{PartAt}
use Rattle.numbered_file.specs.declared.parts.PartKind.{PartKind}
use Rattle.numbered_file.specs.declared.parts.PartKind.TheVariants as at
use Rattle.numbered_file.specs.NumberedData.{NumberedData}
use Rattle.numbered_file.specs.Numbered.{models_in, named}
use Rattle.numbered_file.specs.Places.{IsPartOf, first_input, first_output, first_word, inputs_at, of_inputs, of_outputs, of_part, outputs_at, words_at}
use Rattle.model_calls.specs.CallNumbers.{names_of_models}
use Rattle.part_numbers.specs.SignalNumbers.{model_names}

-- of each model its names, each once, by their numbers; and for each input, output and word of the file's models a place
pub record LocalNamesData : Type 0 where
  pub models : List (List ℕ)
  pub inputs : List ℕ
  pub outputs : List ℕ
  pub words : List ℕ

-- the names of a model by their numbers
abbrev pub names_in : LocalNamesData → ℕ → List ℕ
names_in l model = slice_index_or l.models model []

-- these places among some names are those of these numbers
abbrev pub AreLocals : List ℕ → List ℕ → List ℕ → Type 0
AreLocals names numbers locals = map (slice_get names) locals ≡ map Some numbers

-- of pairs that stand one behind the other, the first and the second items
abbrev pub firsts : List ℕ → List ℕ
firsts [] = []
firsts (a ∷ []) = []
firsts (a ∷ b ∷ more) = a ∷ firsts more

abbrev pub seconds : List ℕ → List ℕ
seconds [] = []
seconds (a ∷ []) = []
seconds (a ∷ b ∷ more) = b ∷ seconds more

-- the words of a card that are names of its model: all words of a table or a latch, and the actuals of an instance
abbrev pub own_words : PartKind → List ℕ → List ℕ
own_words at.Instance words = seconds (drop 1 words)
own_words _ words = words

-- the model of an instance, by its place, has the name that is the first of the instance's words
abbrev pub IsUnitOf : NumberedData → ℕ → ℕ → Type 0
IsUnitOf d k unit =
    slice_get (names_of_models (models_in d)) unit ≡ Some (slice_index_or (named d.names (words_at d k)) 0 [])

-- the part at a place is an instance
pub record IsInstance (d : NumberedData) (k : ℕ) : Type 0 where
  pub part : PartAt
  pub there : slice_get d.parts k ≡ Some part
  pub kind_is : part.kind ≡ at.Instance

-- the names of each model, and the places of words among them. An input, an output, each word of a table and of a latch, and an
-- actual of an instance have their places among the names of the model that they stand in, and a formal among those of the
-- instance's model. The first word of an instance, which is the name of its model, and a word behind its last pair are no names of
-- a model: they have a place too, of which nothing is said
pub record AreLocalNames (d : NumberedData) (l : LocalNamesData) : Type 0 where
  pub models : map (named d.names) l.models ≡ map model_names (models_in d)
  pub input_count : length l.inputs ≡ first_input d (length d.models)
  pub output_count : length l.outputs ≡ first_output d (length d.models)
  pub word_count : length l.words ≡ first_word d (length d.parts)
  pub inputs : (m : ℕ) → m < length d.models → AreLocals (names_in l m) (inputs_at d m) (of_inputs d m l.inputs)
  pub outputs : (m : ℕ) → m < length d.models → AreLocals (names_in l m) (outputs_at d m) (of_outputs d m l.outputs)
  pub words : (m k : ℕ) (part : PartAt) → IsPartOf d m k → slice_get d.parts k ≡ Some part
      → AreLocals (names_in l m) (own_words part.kind (words_at d k)) (own_words part.kind (of_part d k l.words))
  pub formals : (k unit : ℕ) → IsInstance d k → IsUnitOf d k unit
      → AreLocals (names_in l unit) (firsts (drop 1 (words_at d k))) (firsts (drop 1 (of_part d k l.words)))
