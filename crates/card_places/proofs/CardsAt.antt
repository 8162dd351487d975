-- A card of a model stands at its place among the parts of the file, and a part at a place is the card of that place.
use Rattle.std.proofs.Common.{◌≡◌, ℕ, List, length, map, Some, sym, ap, ◌∙◌, arith}
use Rattle.std.specs.Prelude.{slice_get}
use Rattle.std.proofs.lemmas.List.{length-map}
use Rattle.std.proofs.lemmas.Option.{slice_get_within}
use Rattle.dom_base.proofs.Lists.{All-at, slice_get-there}
use Rattle.network.proofs.Lists.{get_map, get_of_map}
use Rattle.blif_ast.specs.declared.latch.Latch.{Latch}
use Rattle.blif_ast.specs.BlifModelData.{BlifModelData}
use Rattle.blif_ast.specs.InstanceData.{InstanceData}
use Rattle.blif_ast.specs.TableData.{TableData}
use Rattle.numbered_file.specs.declared.parts.PartAt.{PartAt}
use Rattle.numbered_file.specs.NumberedData.{NumberedData}
use Rattle.numbered_file.specs.Numbered.{InstancePart, LatchPart, Part, TablePart, named, part_by, parts_of}
use Rattle.numbered_file.specs.Places.{IsPartOf, rows_at, words_at}
use Rattle.numbered_file.proofs.Places.{length-parts_of, part_there}
use Rattle.card_places.specs.CardPlaces.{AreAtPlaces, AreModelPlaces}

module _ (d : NumberedData) where
  -- the part of a file that stands at a place
  pub part_at_place : (place : ℕ) (p : Part) → slice_get (parts_of d) place ≡ Some p
      → (part : PartAt) × (slice_get d.parts place ≡ Some part)
      × (part_by d.text part.kind part.line (named d.names (words_at d place)) (rows_at d place) ≡ p)
  part_at_place place p there =
      let known = slice_get-there d.parts place (omega (arith, slice_get_within (parts_of d) place p there, length-parts_of d)) in
      let e : Some (part_by d.text known.0.kind known.0.line (named d.names (words_at d place)) (rows_at d place)) ≡ Some p = sym
      (part_there d place known.0 known.1) ∙ there in
      (known.0, known.1, cc)

  -- the cards of one kind of a model
  module _ {Card : Type 0} (part : Card → Part) (places : List ℕ) (cards : List Card) (are : AreAtPlaces d places (map part cards)) where
    pub place_of_card : (k : ℕ) (card : Card) → slice_get cards k ≡ Some card → (place : ℕ) × (slice_get places k ≡ Some place)
        × (slice_get (parts_of d) place ≡ Some (part card))
    place_of_card k card at =
        get_of_map (slice_get (parts_of d)) places k (Some (part card))
        (ap (λ l. slice_get l k) are ∙ get_map Some (map part cards) k (part card) (get_map part cards k card at))

    pub card_of_place : (k place : ℕ) → slice_get places k ≡ Some place → (card : Card) × (slice_get cards k ≡ Some card)
        × (slice_get (parts_of d) place ≡ Some (part card))
    card_of_place k place at =
        let p = get_of_map Some (map part cards) k (slice_get (parts_of d) place)
        (ap (λ l. slice_get l k) (sym are) ∙ get_map (slice_get (parts_of d)) places k place at) in
        let c = get_of_map part cards k p.0 p.1 in
        (c.0, c.1, sym p.2 ∙ ap Some (sym c.2))

    pub count_of_places : length places ≡ length cards
    count_of_places = sym (length-map places (slice_get (parts_of d))) ∙ ap length are ∙ length-map (map part cards) (λ p. Some p)
        ∙ length-map cards part

  -- a table, a latch and an instance of a model: its place, which is one of the model's parts
  module _ (m : ℕ) (model : BlifModelData) (tables latches instances : List ℕ)
      (are : AreModelPlaces d m model tables latches instances) where
    pub table_there : (k : ℕ) (table : TableData) → slice_get model.tables k ≡ Some table
        → (place : ℕ) × (slice_get tables k ≡ Some place) × (slice_get (parts_of d) place ≡ Some (TablePart table)) × IsPartOf d m place
    table_there k table at =
        let h = place_of_card TablePart tables model.tables are.tables_are k table at in
        (h.0, h.1, h.2, All-at (IsPartOf d m) tables k h.0 are.tables_within h.1)

    pub latch_there : (k : ℕ) (latch : Latch) → slice_get model.latches k ≡ Some latch
        → (place : ℕ) × (slice_get latches k ≡ Some place) × (slice_get (parts_of d) place ≡ Some (LatchPart latch)) × IsPartOf d m place
    latch_there k latch at =
        let h = place_of_card LatchPart latches model.latches are.latches_are k latch at in
        (h.0, h.1, h.2, All-at (IsPartOf d m) latches k h.0 are.latches_within h.1)

    pub instance_there : (k : ℕ) (instance : InstanceData) → slice_get model.instances k ≡ Some instance
        → (place : ℕ) × (slice_get instances k ≡ Some place) × (slice_get (parts_of d) place ≡ Some (InstancePart instance))
        × IsPartOf d m place
    instance_there k instance at =
        let h = place_of_card InstancePart instances model.instances are.instances_are k instance at in
        (h.0, h.1, h.2, All-at (IsPartOf d m) instances k h.0 are.instances_within h.1)
