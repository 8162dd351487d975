-- The models of a file of BLIF (Berkeley Logic Interchange Format) by the numbers of their names.
use Rattle.std.specs.Prelude.{ℕ, ◌≡◌, ◌≢◌, ◌<◌, ◌+◌, List, Some, slice_get}
use Rattle.numbered_file.specs.declared.parts.ModelAt.{ModelAt}
use Rattle.numbered_file.specs.NumberedData.{NumberedData}
use Rattle.numbered_file.specs.Places.{words_at}
use Rattle.local_names.specs.LocalNames.{IsInstance}

-- a number for each name: 0 where no model has it, else one more than the number of the one model that has it
pub record AreOwners (models : List ModelAt) (owners : List ℕ) : Type 0 where
  pub owned : (name m : ℕ) → slice_get owners name ≡ Some (m + 1) → (at : ModelAt) × (slice_get models m ≡ Some at) × (at.name ≡ name)
  pub named : (m : ℕ) (at : ModelAt) → slice_get models m ≡ Some at → slice_get owners at.name ≡ Some (m + 1)

-- two models have one name
pub record HaveNameTwice (models : List ModelAt) : Type 0 where
  pub earlier : ℕ
  pub later : ℕ
  pub first : ModelAt
  pub second : ModelAt
  pub order : earlier < later
  pub first_there : slice_get models earlier ≡ Some first
  pub second_there : slice_get models later ≡ Some second
  pub one_name : first.name ≡ second.name

-- the part at a place is an instance, and its first word, if it has one, is the name of no model
pub record NamesNoModel (d : NumberedData) (k : ℕ) : Type 0 where
  pub instance : IsInstance d k
  pub unknown : (word : ℕ) → slice_get (words_at d k) 0 ≡ Some word → (m : ℕ) (at : ModelAt) → slice_get d.models m ≡ Some at
      → at.name ≢ word
