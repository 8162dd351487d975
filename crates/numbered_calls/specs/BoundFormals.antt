-- The ports of the models of a file of BLIF (Berkeley Logic Interchange Format), and the formals of its instances, by their places
-- among the names of the models.
use Rattle.std.specs.Prelude.{ℕ, ◌≡◌, ◌<◌, ◌⊎◌, List, ◌++◌, drop, length, Some, slice_get}
use Rattle.numbered_file.specs.NumberedData.{NumberedData}
use Rattle.numbered_file.specs.Places.{of_inputs, of_outputs, of_part}
use Rattle.local_names.specs.LocalNames.{IsInstance, LocalNamesData, firsts, names_in}
use Rattle.numbered_calls.specs.PortMarks.{AreBadlyBound, AreBound, ArePorts, AreTwice}

-- the inputs and the outputs of a model, by the places of their names
abbrev pub inputs_in : NumberedData → LocalNamesData → ℕ → List ℕ
inputs_in d l m = of_inputs d m l.inputs

abbrev pub outputs_in : NumberedData → LocalNamesData → ℕ → List ℕ
outputs_in d l m = of_outputs d m l.outputs

-- the formals of an instance, by the places of their names
abbrev pub formals_at : NumberedData → LocalNamesData → ℕ → List ℕ
formals_at d l k = firsts (drop 1 (of_part d k l.words))

-- there is a mark for each name of each model, and those of the ports are below a bound
pub record HavePortMarks (d : NumberedData) (l : LocalNamesData) (bound : ℕ) (marks : List (List ℕ)) : Type 0 where
  pub count : length marks ≡ length d.models
  pub names : (m : ℕ) (row : List ℕ) → slice_get marks m ≡ Some row → length row ≡ length (names_in l m)
  pub ports : (m : ℕ) (row : List ℕ) → slice_get marks m ≡ Some row → ArePorts (inputs_in d l m) (outputs_in d l m) bound row

-- the formals of an instance of this model are right
abbrev pub IsBoundAt : NumberedData → LocalNamesData → ℕ → ℕ → Type 0
IsBoundAt d l unit k = AreBound (inputs_in d l unit) (inputs_in d l unit ++ outputs_in d l unit) (formals_at d l k)

-- the formals of the instances among the first so many parts are right
abbrev pub AreBoundBelow : NumberedData → LocalNamesData → List ℕ → ℕ → Type 0
AreBoundBelow d l units n = (k unit : ℕ) → k < n → slice_get units k ≡ Some unit → IsInstance d k → IsBoundAt d l unit k

-- an input or an output of a model is there twice
pub record HavePortTwice (d : NumberedData) (l : LocalNamesData) : Type 0 where
  pub model : ℕ
  pub within : model < length d.models
  pub twice : AreTwice (length (names_in l model)) (inputs_in d l model) ⊎ AreTwice (length (names_in l model)) (outputs_in d l model)

-- the formals of an instance of this model, if there is such a model, aren't right
abbrev pub IsBadlyBoundAt : NumberedData → LocalNamesData → ℕ → ℕ → Type 0
IsBadlyBoundAt d l unit k = unit < length d.models
    → AreBadlyBound (length (names_in l unit)) (inputs_in d l unit) (inputs_in d l unit ++ outputs_in d l unit) (formals_at d l k)

-- the formals of an instance aren't right
pub record HaveBadBinding (d : NumberedData) (l : LocalNamesData) (units : List ℕ) : Type 0 where
  pub part : ℕ
  pub unit : ℕ
  pub there : slice_get units part ≡ Some unit
  pub instance : IsInstance d part
  pub bad : IsBadlyBoundAt d l unit part
