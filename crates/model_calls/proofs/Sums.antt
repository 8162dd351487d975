-- What the tables and latches of the expanded list weigh together is what the models at all paths weigh.
use Rattle.std.proofs.Common.{◌≡◌, ℕ, zero, suc, ◌+◌, List, [], ◌∷◌, ◌++◌, map, refl, sym, ◌∙◌, arith}
use Rattle.std.specs.List.{flat_map, sum_by}
use Rattle.std.proofs.lemmas.List.Sums.{sum_by-append, sum_by-cons}
use Rattle.blif_ast.specs.BlifModelData.{BlifModelData}
use Rattle.blif_ast.specs.declared.latch.Latch.{Latch}
use Rattle.blif_ast.specs.InstanceData.{InstanceData}
use Rattle.blif_ast.specs.TableData.{TableData}
use Rattle.model_calls.specs.Expanded.{BodyCard, InstanceCard, LatchCard, LatchPart, PlacedPart, TableCard, TablePart, ordered_cards, expanded_from, card_line, parts_of_card}
use Rattle.model_calls.specs.Occurrences.{Occurrence, models_called, occurrences_from}
use Rattle.model_calls.proofs.Rising.{sum_in_order}

pub sum_flat : {X Y : Type 0} (g : Y → ℕ) (h : X → List Y) (xs : List X) → sum_by g (flat_map h xs) ≡ sum_by (λ x. sum_by g (h x)) xs
sum_flat g h [] = refl
sum_flat g h (x ∷ xs) = omega (arith, sum_by-append g (h x) (flat_map h xs), sum_flat g h xs, sum_by-cons (λ z. sum_by g (h z)) x xs)

pub sum_map : {X Y : Type 0} (g : Y → ℕ) (h : X → Y) (xs : List X) → sum_by g (map h xs) ≡ sum_by (λ x. g (h x)) xs
sum_map g h [] = refl
sum_map g h (x ∷ xs) = omega (arith, sum_by-cons g (h x) (map h xs), sum_map g h xs, sum_by-cons (λ z. g (h z)) x xs)

pub sum_same : {X : Type 0} (g h : X → ℕ) → ((x : X) → g x ≡ h x) → (xs : List X) → sum_by g xs ≡ sum_by h xs
sum_same g h e [] = refl
sum_same g h e (x ∷ xs) = omega (arith, sum_by-cons g x xs, sum_by-cons h x xs, e x, sum_same g h e xs)

module _ (of_table : TableData → ℕ) (of_latch : Latch → ℕ) where
  abbrev pub part_weight : PlacedPart → ℕ
  part_weight (TablePart t) = of_table t.table
  part_weight (LatchPart l) = of_latch l.latch

  abbrev pub model_weight : BlifModelData → ℕ
  model_weight m = sum_by of_table m.tables + sum_by of_latch m.latches

  abbrev pub place_weight : Occurrence → ℕ
  place_weight p = model_weight p.model

  module _ (models : List BlifModelData) where
    pub parts_weigh : (depth : ℕ) (path : List InstanceData) (m : BlifModelData) → sum_by part_weight (expanded_from models depth path m) ≡ sum_by place_weight (occurrences_from models depth path m)
    parts_weigh zero path m = refl
    parts_weigh (suc depth) path m = omega (arith, sum_flat part_weight (parts_of_card below path) (ordered_cards m), in_lines, instances, places (parts_weigh depth))
      where
        below : List InstanceData → List ℕ → List PlacedPart
        below p unit = flat_map (expanded_from models depth p) (models_called models unit)

        card_weight : BodyCard → ℕ
        card_weight c = sum_by part_weight (parts_of_card below path c)

        own : List BodyCard
        own = map TableCard m.tables ++ map LatchCard m.latches

        in_lines : sum_by card_weight (ordered_cards m) ≡ sum_by card_weight own + sum_by card_weight (map InstanceCard m.instances)
        in_lines = sum_in_order card_line card_weight (own ++ map InstanceCard m.instances) ∙ sum_by-append card_weight own (map InstanceCard m.instances)

        instances : sum_by card_weight own ≡ model_weight m
        instances = omega (
          arith,
          sum_by-append card_weight (map TableCard m.tables) (map LatchCard m.latches),
          sum_map card_weight TableCard m.tables,
          sum_map card_weight LatchCard m.latches,
          sum_same (λ t. card_weight (TableCard t)) of_table (λ t. omega arith) m.tables,
          sum_same (λ l. card_weight (LatchCard l)) of_latch (λ l. omega arith) m.latches,
        )

        places : ((p : List InstanceData) (n : BlifModelData) → sum_by part_weight (expanded_from models depth p n) ≡ sum_by place_weight (occurrences_from models depth p n))
            → model_weight m + sum_by card_weight (map InstanceCard m.instances) ≡ sum_by place_weight (occurrences_from models (suc depth) path m)
        places deeper = omega (
          arith,
          sum_map card_weight InstanceCard m.instances,
          sum_same (λ i. card_weight (InstanceCard i)) (λ (i : InstanceData). sum_by place_weight (flat_map (occurrences_from models depth (i ∷ path)) (models_called models i.unit))) (one deeper) m.instances,
          sum_flat place_weight (λ (i : InstanceData). flat_map (occurrences_from models depth (i ∷ path)) (models_called models i.unit)) m.instances,
          sum_by-cons place_weight (record { path = path; model = m }) (flat_map (λ (i : InstanceData). flat_map (occurrences_from models depth (i ∷ path)) (models_called models i.unit)) m.instances),
        )
          where
            one : ((p : List InstanceData) (n : BlifModelData) → sum_by part_weight (expanded_from models depth p n) ≡ sum_by place_weight (occurrences_from models depth p n))
                → (i : InstanceData) → card_weight (InstanceCard i) ≡ sum_by place_weight (flat_map (occurrences_from models depth (i ∷ path)) (models_called models i.unit))
            one deeper i =
                sum_flat part_weight (expanded_from models depth (i ∷ path)) (models_called models i.unit)
                ∙ sum_same (λ n. sum_by part_weight (expanded_from models depth (i ∷ path) n)) (λ n. sum_by place_weight (occurrences_from models depth (i ∷ path) n)) (λ n. deeper (i ∷ path) n) (models_called models i.unit)
                ∙ sym (sum_flat place_weight (occurrences_from models depth (i ∷ path)) (models_called models i.unit))
