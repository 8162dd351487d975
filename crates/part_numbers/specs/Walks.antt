-- What a walk over all paths of a file of BLIF, the Berkeley Logic Interchange Format, has still to come: frames with what is
-- left at each path on the way.
use Rattle.std.specs.Prelude.{ℕ, List, ◌∷◌}
use Rattle.std.specs.List.{flat_map}
use Rattle.blif_ast.specs.BlifModelData.{BlifModelData}
use Rattle.blif_ast.specs.InstanceData.{InstanceData}
use Rattle.model_calls.specs.Expanded.{BodyCard, PlacedPart, ordered_cards, expanded_from, parts_of_card}
use Rattle.model_calls.specs.Occurrences.{models_called}

-- a path on the way: how deep its instances may still go, and its cards that are left
pub record Frame : Type 0 where
  pub depth : ℕ
  pub path : List InstanceData
  pub left : List BodyCard

-- the frame of an instance's model that is entered, all its cards being left
abbrev pub entered : ℕ → List InstanceData → InstanceData → BlifModelData → Frame
entered depth path i n = record { depth = depth; path = i ∷ path; left = ordered_cards n }

-- the parts that an instance's models have below
abbrev pub below : List BlifModelData → ℕ → List InstanceData → List ℕ → List PlacedPart
below models depth path unit = flat_map (expanded_from models depth path) (models_called models unit)

abbrev pub rest_of_frame : List BlifModelData → Frame → List PlacedPart
rest_of_frame models f = flat_map (parts_of_card (below models f.depth) f.path) f.left

-- the parts that are still to come, by the frames, the top one first
abbrev pub rest : List BlifModelData → List Frame → List PlacedPart
rest models frames = flat_map (rest_of_frame models) frames
