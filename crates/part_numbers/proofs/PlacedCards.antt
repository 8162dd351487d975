-- The cards of a file by numbers at their places among its parts.
use Rattle.std.proofs.Common.{◌≡◌, ℕ, List, [], map, Option, Some, None, refl, ap, sym, ◌∙◌, subst}
use Rattle.std.specs.Prelude.{IsSome, option_map, slice_get}
use Rattle.std.proofs.lemmas.Bool.{true≢false}
use Rattle.std.proofs.lemmas.Option.{slice_get-get_or}
use Rattle.blif_ast.specs.BlifModelData.{BlifModelData}
use Rattle.numbered_file.specs.NumberedData.{NumberedData}
use Rattle.numbered_file.specs.Numbered.{LatchPart, Part, TablePart, file_of, parts_of}
use Rattle.card_places.specs.PartCards.{part_card}
use Rattle.card_places.proofs.CardsAt.{card_of_place, place_of_card}
use Rattle.card_places.specs.CardPlaces.{AreAtPlaces, AreCardPlaces, CardPlacesData, places_at}
use Rattle.model_calls.specs.Expanded.{BodyCard, LatchCard, TableCard}
use Rattle.model_calls.specs.Occurrences.{first_model}
use Rattle.part_numbers.specs.NumberedFiles.{model_at}
use Rattle.part_numbers.proofs.CardsOfParts.{model_there}

item_is : {X : Type 0} (o : Option X) → IsSome o → (x : X) × (o ≡ Some x)
item_is None some = absurd (true≢false (sym some))
item_is (Some x) some = (x, refl)

-- the cards of one kind of a model, and their places
module _ {X : Type 0} (d : NumberedData) (as_part : X → Part) (xs : List X) (places : List ℕ) (are : AreAtPlaces d places (map as_part xs)) (i : ℕ) where
  place_there : IsSome (slice_get xs i) → IsSome (slice_get places i)
  place_there some =
      let x = item_is (slice_get xs i) some in
      subst IsSome (sym (place_of_card d as_part places xs are i x.0 x.1).1) refl

  module _ (k : ℕ) (at : slice_get places i ≡ Some k) where
    some_part : IsSome (slice_get (parts_of d) k)
    some_part = subst IsSome (sym (card_of_place d as_part places xs are i k at).2) refl

    card_at_place : (as_card : X → BodyCard) → ((x : X) → part_card (as_part x) ≡ as_card x)
        → (part : Part) → slice_get (parts_of d) k ≡ Some part → option_map as_card (slice_get xs i) ≡ Some (part_card part)
    card_at_place as_card same part there =
        let h = card_of_place d as_part places xs are i k at in
        ap (option_map as_card) h.1 ∙ ap Some (sym (same h.0)) ∙ ap (option_map part_card) (sym h.2 ∙ there)

module _ (d : NumberedData) (c : CardPlacesData) (are : AreCardPlaces d c) (m i : ℕ) where
  abbrev model : BlifModelData
  model = model_at (file_of d) m

  module _ (some : IsSome (slice_get model.tables i)) where
    tables_are : AreAtPlaces d (places_at c.tables m) (map TablePart model.tables)
    tables_are =
        let inside = model_there (λ (m : BlifModelData). m.tables) refl (file_of d) m i some in
        (are m model (slice_get-get_or (file_of d).models m (first_model []) inside)).tables_are

    pub table_place : IsSome (slice_get (places_at c.tables m) i)
    table_place = place_there d TablePart model.tables (places_at c.tables m) tables_are i some

    pub table_part : (k : ℕ) → slice_get (places_at c.tables m) i ≡ Some k → IsSome (slice_get (parts_of d) k)
    table_part = some_part d TablePart model.tables (places_at c.tables m) tables_are i

    pub table_is : (k : ℕ) → slice_get (places_at c.tables m) i ≡ Some k → (part : Part) → slice_get (parts_of d) k ≡ Some part
        → option_map TableCard (slice_get model.tables i) ≡ Some (part_card part)
    table_is k at = card_at_place d TablePart model.tables (places_at c.tables m) tables_are i k at TableCard (λ t. refl)

  module _ (some : IsSome (slice_get model.latches i)) where
    latches_are : AreAtPlaces d (places_at c.latches m) (map LatchPart model.latches)
    latches_are =
        let inside = model_there (λ (m : BlifModelData). m.latches) refl (file_of d) m i some in
        (are m model (slice_get-get_or (file_of d).models m (first_model []) inside)).latches_are

    pub latch_place : IsSome (slice_get (places_at c.latches m) i)
    latch_place = place_there d LatchPart model.latches (places_at c.latches m) latches_are i some

    pub latch_part : (k : ℕ) → slice_get (places_at c.latches m) i ≡ Some k → IsSome (slice_get (parts_of d) k)
    latch_part = some_part d LatchPart model.latches (places_at c.latches m) latches_are i

    pub latch_is : (k : ℕ) → slice_get (places_at c.latches m) i ≡ Some k → (part : Part) → slice_get (parts_of d) k ≡ Some part
        → option_map LatchCard (slice_get model.latches i) ≡ Some (part_card part)
    latch_is k at = card_at_place d LatchPart model.latches (places_at c.latches m) latches_are i k at LatchCard (λ l. refl)
