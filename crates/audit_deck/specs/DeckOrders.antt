-- The order of a deck's devices as it is put together: the places of one part, or of the parts of a list, behind others; and the greatest
-- width and height of the trees of cells.
use Rattle.std.specs.Prelude.{List, Some, [], max, slice_get, ℕ, ◌++◌, ◌≡◌, ◌≤◌, ◌⊎◌}
use Rattle.deck.specs.PortLayout.{first_output}
use Rattle.deck.specs.declared.device.Device.{Device}
use Rattle.deck.specs.declared.role.Roles.{Roles}
use Rattle.sp_network.specs.Tree.{Tree}
use Rattle.sp_reduction.specs.Networks.{Link, whole_height, whole_width}
use Rattle.deck_audit.specs.Audits.{HasMeasure}
use Rattle.deck_audit.specs.Rules.{HasFront, HasTree}
use Rattle.found_decks.specs.FoundDecks.{AreBlocks, AreCellPlaces, AreInverterPlaces, FoundLatch, FoundParts, IsCellPlaces, numbers_from, whole}

pub record DeckOrderData : Type 0 where
  pub places : List ℕ
  pub width : ℕ
  pub height : ℕ

-- nothing is in order yet
abbrev pub empty : DeckOrderData
empty = record { places = []; width = 0; height = 0 }

-- the places of a latch, and those of the inverter of its data
abbrev pub AreLatchPlaces : FoundLatch → List ℕ → Type 0
AreLatchPlaces l block = block ≡ l.places

abbrev pub AreDataPlaces : List Device → FoundLatch → List ℕ → Type 0
AreDataPlaces ds l block = AreInverterPlaces ds (l.group).data_net block

-- the places of one part are put behind
abbrev pub AddsBlock : (List ℕ → Type 0) → List ℕ → List ℕ → Type 0
AddsBlock P before after = (block : List ℕ) × P block × (after ≡ before ++ block)

-- and those of all parts of a list
abbrev pub AddsBlocks : {X : Type 0} → (X → List ℕ → Type 0) → List X → List ℕ → List ℕ → Type 0
AddsBlocks P xs before after = (blocks : List (List ℕ)) × AreBlocks P xs blocks × (after ≡ before ++ whole blocks)

-- a cell is put behind, and its tree's width and height are reckoned in
pub record AddsCell (ds : List Device) (roles : Roles) (x : ℕ) (before after : DeckOrderData) : Type 0 where
  pub clock : ℕ
  pub output : ℕ
  pub bottom : ℕ
  pub tree : Tree Link
  pub block : List ℕ
  pub is : IsCellPlaces ds roles x clock output bottom tree block
  pub places_are : after.places ≡ before.places ++ block
  pub width_is : after.width ≡ max before.width (whole_width tree)
  pub height_is : after.height ≡ max before.height (whole_height tree)

-- the number is no less than the measure of each tree of these cells, nor than it was, and it was so great or is such a measure
pub record IsGreatestOf (ds : List Device) (roles : Roles) (measure : Tree Link → ℕ) (tops : List ℕ) (before after : ℕ) : Type 0 where
  pub rises : before ≤ after
  pub bound : (k x clock output bottom : ℕ) (tree : Tree Link) → slice_get tops k ≡ Some x
      → HasFront ds roles x clock output → HasTree ds roles x clock bottom tree → measure tree ≤ after
  pub had : (after ≡ before) ⊎ HasMeasure ds roles measure after

pub record AddsCells (ds : List Device) (roles : Roles) (tops : List ℕ) (before after : DeckOrderData) : Type 0 where
  pub blocks : AddsBlocks (AreCellPlaces ds roles) tops before.places after.places
  pub width_is : IsGreatestOf ds roles whole_width tops before.width after.width
  pub height_is : IsGreatestOf ds roles whole_height tops before.height after.height

-- cells, complements, latches, inverters of output ports and of the data of latches are put in order, one behind another
pub record IsDeckOrder (ds : List Device) (roles : Roles) (f : FoundParts) (o : DeckOrderData) : Type 0 where
  pub cells : DeckOrderData
  pub complements : List ℕ
  pub latches : List ℕ
  pub outputs : List ℕ
  pub cells_are : AddsCells ds roles f.tops empty cells
  pub complements_are : AddsBlocks (AreInverterPlaces ds) f.complements cells.places complements
  pub latches_are : AddsBlocks AreLatchPlaces f.latches complements latches
  pub outputs_are : AddsBlocks (AreInverterPlaces ds) (numbers_from (first_output roles) roles.outs) latches outputs
  pub data_are : AddsBlocks (AreDataPlaces ds) f.latches outputs o.places
  pub width_is : o.width ≡ cells.width
  pub height_is : o.height ≡ cells.height
