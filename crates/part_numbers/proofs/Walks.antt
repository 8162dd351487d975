-- The steps of a walk over all paths: what is to come stays.
use Rattle.std.proofs.Common.{◌≡◌, ℕ, suc, List, [], ◌∷◌, ◌++◌, ap, ◌∙◌, append_assoc, append-nil}
use Rattle.std.specs.List.{flat_map}
use Rattle.blif_ast.specs.BlifModelData.{BlifModelData}
use Rattle.blif_ast.specs.InstanceData.{InstanceData}
use Rattle.model_calls.specs.Expanded.{BodyCard, InstanceCard, PlacedPart, ordered_cards, expanded_from}
use Rattle.model_calls.specs.Occurrences.{models_called}
use Rattle.part_numbers.specs.Walks.{Frame, entered, rest, rest_of_frame}

-- a walk begins with the main model, and all parts are to come
pub begins : (models : List BlifModelData) (depth : ℕ) (m : BlifModelData)
    → rest models (record { depth = depth; path = []; left = ordered_cards m } ∷ []) ≡ expanded_from models (suc depth) [] m
begins models depth m = append-nil (rest_of_frame models (record { depth = depth; path = []; left = ordered_cards m }))

module _ (models : List BlifModelData) where
  -- a step that comes to an instance of a known model enters it, and what is to come stays
  pub enters : (depth : ℕ) (path : List InstanceData) (i : InstanceData) (n : BlifModelData) (left : List BodyCard) (frames : List Frame)
      → models_called models i.unit ≡ n ∷ []
      → rest models (record { depth = suc depth; path = path; left = InstanceCard i ∷ left } ∷ frames)
      ≡ rest models (entered depth path i n ∷ record { depth = suc depth; path = path; left = left } ∷ frames)
  enters depth path i n left frames called =
      ap (λ l. l ++ others ++ rest models frames) (ap (flat_map (expanded_from models (suc depth) (i ∷ path))) called ∙ append-nil inner)
      ∙ append_assoc inner others (rest models frames)
    where
      inner : List PlacedPart
      inner = rest_of_frame models (entered depth path i n)

      others : List PlacedPart
      others = rest_of_frame models (record { depth = suc depth; path = path; left = left })
