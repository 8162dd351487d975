-- The tables and latches of a file of BLIF (Berkeley Logic Interchange Format) by numbers, by the numbers of the signals of their
-- words.
use Rattle.std.specs.Prelude.{ℕ, ◌-◌, List, [], ◌∷◌, length, take, Option, None, option_and_then, slice_get, slice_index_or}
use Rattle.numbered_file.specs.declared.parts.PartKind.{PartKind}
use Rattle.numbered_file.specs.declared.parts.PartKind.TheVariants as at
use Rattle.card_places.specs.CardPlaces.{CardPlacesData, places_at}
use Rattle.part_numbers.specs.NumberedFiles.{NumberedPartData}
use Rattle.part_numbers.specs.declared.numbered.PartCard.{PartCard}
use Rattle.part_numbers.specs.declared.numbered.PartCard.TheVariants.{Table, Latch}
use Rattle.part_numbers.specs.declared.walk.ScopedPart.{ScopedPart}

-- the place of a card of a model among the parts of the file
abbrev pub card_place : CardPlacesData → ℕ → PartCard → Option ℕ
card_place c model (Table index) = slice_get (places_at c.tables model) index
card_place c model (Latch index) = slice_get (places_at c.latches model) index

-- a table reads all its words but the last, which it drives; a latch reads its first word and drives its second, and where it has
-- an edge its third, if there is one, controls it
abbrev pub part_of_roots : ScopedPart → PartKind → List ℕ → NumberedPartData
part_of_roots p (at.Table on) roots = record {
  model = p.model;
  card = p.card;
  reads = take (length roots - 1) roots;
  drives = slice_index_or roots (length roots - 1) 0;
  control = None;
}
part_of_roots p (at.Latch edge init) roots = record {
  model = p.model;
  card = p.card;
  reads = slice_index_or roots 0 0 ∷ [];
  drives = slice_index_or roots 1 0;
  control = option_and_then (λ e. slice_get roots 2) edge;
}
part_of_roots p at.Instance roots = record { model = p.model; card = p.card; reads = []; drives = 0; control = None }
