-- Formals of instances of a file of BLIF (Berkeley Logic Interchange Format) by numbers that are no names of the instances' models.
use Rattle.std.specs.Prelude.{ℕ, ◌≡◌, ◌<◌, List, [], drop, length, Contains, slice_index_or}
use Rattle.numbered_file.specs.declared.parts.PartKind.{PartKind}
use Rattle.numbered_file.specs.declared.parts.PartKind.TheVariants as at
use Rattle.numbered_file.specs.NumberedData.{NumberedData}
use Rattle.numbered_file.specs.Places.{IsPartOf, words_at}
use Rattle.local_names.specs.LocalNames.{IsInstance, IsUnitOf, firsts}

-- of formals and actuals in turn, some formal is none of these names
pub record IsFormalLost (unit_names words : List ℕ) : Type 0 where
  pub formal : ℕ
  pub bound : Contains (firsts words) formal
  pub none : Contains unit_names formal → ⊥

-- a card of these words is an instance, and some formal of it is none of these names
pub record IsPartLost (kind : PartKind) (unit_names words : List ℕ) : Type 0 where
  pub instance : kind ≡ at.Instance
  pub lost : IsFormalLost unit_names (drop 1 words)

-- some formal of an instance of some model is none of the names of the instance's model
pub record HasLostFormal (d : NumberedData) (models : List (List ℕ)) : Type 0 where
  pub model : ℕ
  pub place : ℕ
  pub unit : ℕ
  pub within : model < length d.models
  pub of_model : IsPartOf d model place
  pub instance : IsInstance d place
  pub named : IsUnitOf d place unit
  pub lost : IsFormalLost (slice_index_or models unit []) (drop 1 (words_at d place))
