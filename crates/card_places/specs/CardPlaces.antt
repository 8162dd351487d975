-- The tables, latches and instances of each model of a file of BLIF (Berkeley Logic Interchange Format) by numbers, as places
-- among the parts of the file.
use Rattle.std.specs.Prelude.{ℕ, ◌≡◌, List, [], map, All, Some, slice_get, slice_index_or}
use Rattle.blif_ast.specs.BlifModelData.{BlifModelData}
use Rattle.numbered_file.specs.NumberedData.{NumberedData}
use Rattle.numbered_file.specs.Numbered.{Part, TablePart, LatchPart, InstancePart, models_in, parts_of}
use Rattle.numbered_file.specs.Places.{IsPartOf}

-- of each model the places of its tables, of its latches and of its instances
pub record CardPlacesData : Type 0 where
  pub tables : List (List ℕ)
  pub latches : List (List ℕ)
  pub instances : List (List ℕ)

-- the places of a model's cards of one kind
abbrev pub places_at : List (List ℕ) → ℕ → List ℕ
places_at places model = slice_index_or places model []

-- these parts of the file stand at these places
abbrev pub AreAtPlaces : NumberedData → List ℕ → List Part → Type 0
AreAtPlaces d places parts = map (slice_get (parts_of d)) places ≡ map Some parts

-- the places of the cards of a model are these
pub record AreModelPlaces (d : NumberedData) (m : ℕ) (model : BlifModelData) (tables latches instances : List ℕ) : Type 0 where
  pub tables_are : AreAtPlaces d tables (map TablePart model.tables)
  pub latches_are : AreAtPlaces d latches (map LatchPart model.latches)
  pub instances_are : AreAtPlaces d instances (map InstancePart model.instances)
  pub tables_within : All (IsPartOf d m) tables
  pub latches_within : All (IsPartOf d m) latches
  pub instances_within : All (IsPartOf d m) instances

-- the places of the cards of all models
abbrev pub AreCardPlaces : NumberedData → CardPlacesData → Type 0
AreCardPlaces d c = (m : ℕ) (model : BlifModelData) → slice_get (models_in d) m ≡ Some model
    → AreModelPlaces d m model (places_at c.tables m) (places_at c.latches m) (places_at c.instances m)
