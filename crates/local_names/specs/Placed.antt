-- The places of the words of a file of BLIF (Berkeley Logic Interchange Format) by numbers, up to one of its models or parts.
use Rattle.std.specs.Prelude.{ℕ, ◌≡◌, ◌<◌, List, [], ◌++◌, drop, length, Some, slice_get, slice_index_or}
use Rattle.numbered_file.specs.declared.parts.PartAt.{PartAt}
use Rattle.numbered_file.specs.declared.parts.PartKind.{PartKind}
use Rattle.numbered_file.specs.declared.parts.PartKind.TheVariants as at
use Rattle.numbered_file.specs.NumberedData.{NumberedData}
use Rattle.numbered_file.specs.Places.{IsPartOf, first_input, first_output, first_word, inputs_at, of_inputs, of_outputs, of_part, outputs_at, words_at}
use Rattle.local_names.specs.LocalNames.{AreLocals, IsInstance, IsUnitOf, firsts, own_words, seconds}

-- the places of these numbers among some names are appended
pub record IsPlaced (names numbers before after : List ℕ) : Type 0 where
  pub locals : List ℕ
  pub after_is : after ≡ before ++ locals
  pub are : AreLocals names numbers locals

-- these places are those of formals among the names of an instance's model, and of actuals among those of its own, in turn
pub record AreBindingsPlaced (unit_names names words locals : List ℕ) : Type 0 where
  pub count : length locals ≡ length words
  pub formals : AreLocals unit_names (firsts words) (firsts locals)
  pub actuals : AreLocals names (seconds words) (seconds locals)

-- such places are appended
pub record HasBindings (unit_names names words before after : List ℕ) : Type 0 where
  pub locals : List ℕ
  pub after_is : after ≡ before ++ locals
  pub are : AreBindingsPlaced unit_names names words locals

-- the places of a card's words are appended
pub record IsPartPlaced (kind : PartKind) (names unit_names words before after : List ℕ) : Type 0 where
  pub locals : List ℕ
  pub after_is : after ≡ before ++ locals
  pub count : length locals ≡ length words
  pub own : AreLocals names (own_words kind words) (own_words kind locals)
  pub formals : kind ≡ at.Instance → AreLocals unit_names (firsts (drop 1 words)) (firsts (drop 1 locals))

-- the places of the inputs of the first models
pub record AreInputsPlaced (d : NumberedData) (models : List (List ℕ)) (done : ℕ) (inputs : List ℕ) : Type 0 where
  pub count : length inputs ≡ first_input d done
  pub each : (m : ℕ) → m < done → AreLocals (slice_index_or models m []) (inputs_at d m) (of_inputs d m inputs)

-- the places of the outputs of the first models
pub record AreOutputsPlaced (d : NumberedData) (models : List (List ℕ)) (done : ℕ) (outputs : List ℕ) : Type 0 where
  pub count : length outputs ≡ first_output d done
  pub each : (m : ℕ) → m < done → AreLocals (slice_index_or models m []) (outputs_at d m) (of_outputs d m outputs)

-- the places of the words of the first parts
pub record AreWordsPlaced (d : NumberedData) (models : List (List ℕ)) (done : ℕ) (words : List ℕ) : Type 0 where
  pub count : length words ≡ first_word d done
  pub own : (m k : ℕ) (part : PartAt) → k < done → IsPartOf d m k → slice_get d.parts k ≡ Some part
      → AreLocals (slice_index_or models m []) (own_words part.kind (words_at d k)) (own_words part.kind (of_part d k words))
  pub formals : (k unit : ℕ) → k < done → IsInstance d k → IsUnitOf d k unit
      → AreLocals (slice_index_or models unit []) (firsts (drop 1 (words_at d k))) (firsts (drop 1 (of_part d k words)))
