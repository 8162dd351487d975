-- The paths of a file of BLIF, the Berkeley Logic Interchange Format, in the order in which a walk by lines comes to them.
use Rattle.std.specs.Prelude.{ℕ, zero, suc, List, [], ◌∷◌}
use Rattle.std.specs.List.{flat_map}
use Rattle.blif_ast.specs.BlifModelData.{BlifModelData}
use Rattle.blif_ast.specs.InstanceData.{InstanceData}
use Rattle.model_calls.specs.Expanded.{BodyCard, InstanceCard, LatchCard, TableCard, ordered_cards}
use Rattle.model_calls.specs.Occurrences.{Occurrence, models_called}
use Rattle.part_numbers.specs.Walks.{Frame}

-- the paths below a card: those of the models that an instance names
abbrev pub occurrences_of_card : (List InstanceData → List ℕ → List Occurrence) → List InstanceData → BodyCard → List Occurrence
occurrences_of_card below path (TableCard t) = []
occurrences_of_card below path (LatchCard l) = []
occurrences_of_card below path (InstanceCard i) = below (i ∷ path) i.unit

-- the paths from one on, each before those that go on from it, by the lines of the instances
abbrev pub line_occurrences_from : List BlifModelData → ℕ → List InstanceData → BlifModelData → List Occurrence
line_occurrences_from models zero path m = []
line_occurrences_from models (suc depth) path m =
    record { path = path; model = m }
    ∷ flat_map (occurrences_of_card (λ below unit. flat_map (line_occurrences_from models depth below) (models_called models unit)) path)
    (ordered_cards m)

-- the paths that instances' models have below
abbrev pub occurrences_below : List BlifModelData → ℕ → List InstanceData → List ℕ → List Occurrence
occurrences_below models depth path unit = flat_map (line_occurrences_from models depth path) (models_called models unit)

abbrev pub occurrences_left_of : List BlifModelData → Frame → List Occurrence
occurrences_left_of models f = flat_map (occurrences_of_card (occurrences_below models f.depth) f.path) f.left

-- the paths that a walk has still to come to, by its frames, the top one first
abbrev pub occurrences_left : List BlifModelData → List Frame → List Occurrence
occurrences_left models frames = flat_map (occurrences_left_of models) frames
