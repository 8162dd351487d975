-- What holds of all parts of the expanded list, by what is kept along paths.
use Rattle.std.proofs.Common.{ℕ, zero, suc, List, [], ◌∷◌, ◌++◌, map}
use Rattle.std.specs.Prelude.{Contains}
use Rattle.std.specs.List.{AllByRecursion, flat_map}
use Rattle.dom_base.proofs.Lists.{AllByRecursion-append, AllByRecursion-from_places, AllByRecursion-map, AllByRecursion-weaker, Contains-slice_get}
use Rattle.blif_ast.specs.BlifModelData.{BlifModelData}
use Rattle.blif_ast.specs.declared.latch.Latch.{Latch}
use Rattle.blif_ast.specs.InstanceData.{InstanceData}
use Rattle.blif_ast.specs.TableData.{TableData}
use Rattle.model_calls.specs.Expanded.{BodyCard, InstanceCard, LatchCard, LatchPart, PlacedPart, TableCard, TablePart, ordered_cards, expanded_from, card_line, parts_of_card}
use Rattle.model_calls.specs.Occurrences.{models_called}
use Rattle.model_calls.proofs.Apart.{each_in_order}

abbrev pub IsCardOf : BlifModelData → BodyCard → Type 0
IsCardOf m (TableCard t) = Contains m.tables t
IsCardOf m (LatchCard l) = Contains m.latches l
IsCardOf m (InstanceCard i) = Contains m.instances i

pub each_itself : {X : Type 0} (xs : List X) → AllByRecursion (Contains xs) xs
each_itself xs = AllByRecursion-from_places (Contains xs) xs (λ k x e. Contains-slice_get xs k x e)

pub each_flat : {X Y : Type 0} (P : Y → Type 0) (g : X → List Y) (xs : List X) → AllByRecursion (λ x. AllByRecursion P (g x)) xs → AllByRecursion P (flat_map g xs)
each_flat P g [] h = tt
each_flat P g (x ∷ xs) h = AllByRecursion-append P (g x) (flat_map g xs) h.0 (each_flat P g xs h.1)

pub own_cards : (m : BlifModelData) → AllByRecursion (IsCardOf m) (ordered_cards m)
own_cards m = each_in_order card_line (IsCardOf m) (map TableCard m.tables ++ map LatchCard m.latches ++ map InstanceCard m.instances)
    (AllByRecursion-append (IsCardOf m) (map TableCard m.tables ++ map LatchCard m.latches) (map InstanceCard m.instances)
    (AllByRecursion-append (IsCardOf m) (map TableCard m.tables) (map LatchCard m.latches)
    (AllByRecursion-map (IsCardOf m) TableCard m.tables (each_itself m.tables))
    (AllByRecursion-map (IsCardOf m) LatchCard m.latches (each_itself m.latches)))
    (AllByRecursion-map (IsCardOf m) InstanceCard m.instances (each_itself m.instances)))

-- At holds of a path and its model, and is kept by each step down; P follows for the cards of the model
pub record Keeps (models : List BlifModelData) (At : List InstanceData → BlifModelData → Type 0) (P : PlacedPart → Type 0) : Type 0 where
  pub down : (path : List InstanceData) (m : BlifModelData) (i : InstanceData) (n : BlifModelData) → At path m → Contains m.instances i → Contains (models_called models i.unit) n → At (i ∷ path) n
  pub tables : (path : List InstanceData) (m : BlifModelData) (t : TableData) → At path m → Contains m.tables t → P (TablePart (record { path = path; table = t }))
  pub latches : (path : List InstanceData) (m : BlifModelData) (l : Latch) → At path m → Contains m.latches l → P (LatchPart (record { path = path; latch = l }))

module _ (models : List BlifModelData) (At : List InstanceData → BlifModelData → Type 0) (P : PlacedPart → Type 0) (keeps : Keeps models At P) where
  pub each_part : (depth : ℕ) (path : List InstanceData) (m : BlifModelData) → At path m → AllByRecursion P (expanded_from models depth path m)
  each_part zero path m at = tt
  each_part (suc depth) path m at = each_flat P (parts_of_card below path) (ordered_cards m)
      (AllByRecursion-weaker (IsCardOf m) (λ c. AllByRecursion P (parts_of_card below path c)) (by (each_part depth)) (ordered_cards m) (own_cards m))
    where
      below : List InstanceData → List ℕ → List PlacedPart
      below p unit = flat_map (expanded_from models depth p) (models_called models unit)

      by : ((p : List InstanceData) (n : BlifModelData) → At p n → AllByRecursion P (expanded_from models depth p n)) → (c : BodyCard) → IsCardOf m c → AllByRecursion P (parts_of_card below path c)
      by deeper (TableCard t) h = (keeps.tables path m t at h, tt)
      by deeper (LatchCard l) h = (keeps.latches path m l at h, tt)
      by deeper (InstanceCard i) h = each_flat P (expanded_from models depth (i ∷ path)) (models_called models i.unit)
          (AllByRecursion-weaker (Contains (models_called models i.unit)) (λ n. AllByRecursion P (expanded_from models depth (i ∷ path) n)) (λ n c. deeper (i ∷ path) n (keeps.down path m i n at h c))
          (models_called models i.unit) (each_itself (models_called models i.unit)))
