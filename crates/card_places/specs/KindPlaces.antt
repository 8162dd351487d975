-- The places of the cards of one kind of a model, and lists that gather them.
use Rattle.std.specs.Prelude.{ℕ, ◌≡◌, ◌≤◌, ◌<◌, ◌+◌, List, [], ◌∷◌, ◌++◌, length, map, slice_index_or, Option}
use Rattle.std.specs.List.{filter_map, AllByRecursion}
use Rattle.numbered_file.specs.declared.parts.PartKind.{PartKind}
use Rattle.numbered_file.specs.declared.parts.PartKind.TheVariants as at
use Rattle.numbered_file.specs.NumberedData.{NumberedData}
use Rattle.numbered_file.specs.Numbered.{Part, between, parts_of}
use Rattle.numbered_file.specs.Places.{first_part}
use Rattle.card_places.specs.CardPlaces.{AreAtPlaces}
use Rattle.card_places.specs.NumberLists.{NumberListsData, with_number}

-- of parts that stand from a place of a file on, those of one kind stand at these places
pub record AreKindPlaces {Card : Type 0} (card_in : Part → Option Card) (part : Card → Part) (d : NumberedData) (start : ℕ)
    (parts : List Part) (places : List ℕ) : Type 0 where
  pub are : AreAtPlaces d places (map part (filter_map card_in parts))
  pub within : AllByRecursion (λ k. (start ≤ k) × (k < start + length parts)) places

-- the parts of a model, and the places of its cards of one kind
abbrev pub parts_of_model : NumberedData → ℕ → List Part
parts_of_model d m = between (first_part d m) (first_part d (m + 1)) (parts_of d)

abbrev pub AreModelKindPlaces : {Card : Type 0} → (Part → Option Card) → (Card → Part) → NumberedData → ℕ → List ℕ → Type 0
AreModelKindPlaces card_in part d m places = AreKindPlaces card_in part d (first_part d m) (parts_of_model d m) places

-- one list more, of which this holds, and no numbers yet of the list that comes
pub record IsListAdded (P : List ℕ → Type 0) (before after : NumberListsData) : Type 0 where
  pub list : List ℕ
  pub lists : after.lists ≡ before.lists ++ list ∷ []
  pub next : after.next ≡ []
  pub holds : P list

-- so many lists, of each of which this holds, and no numbers yet of the list that comes
pub record AreLists (P : ℕ → List ℕ → Type 0) (count : ℕ) (l : NumberListsData) : Type 0 where
  pub next : l.next ≡ []
  pub count_is : length l.lists ≡ count
  pub holds : (m : ℕ) → m < count → P m (slice_index_or l.lists m [])

-- the place of a part where it is of a kind
abbrev pub with_table : NumberListsData → PartKind → ℕ → NumberListsData
with_table l (at.Table on) place = with_number l place
with_table l _ place = l

abbrev pub with_latch : NumberListsData → PartKind → ℕ → NumberListsData
with_latch l (at.Latch edge init) place = with_number l place
with_latch l _ place = l

abbrev pub with_instance : NumberListsData → PartKind → ℕ → NumberListsData
with_instance l at.Instance place = with_number l place
with_instance l _ place = l
